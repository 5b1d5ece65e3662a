-- What word 0x3E of an EEPROM says of its size, and the commands that make it say another one.
use Rattle.std.specs.Prelude.{◌==◌, ℕ, ◌+◌, ◌*◌, Bool, not, ◌&&◌, List, [], ◌∷◌, length, min, slice_index}
use Rattle.std.specs.Prelude.{if◌then◌else◌}
use Rattle.std.specs.List.{flat_map, range_with_len}
use Rattle.sii_words.specs.Plant.{words_of}
use Rattle.sii_edit.specs.declared.command.Command.{Command}
use Rattle.sii_edit.specs.Fold.{contents_after}
use Rattle.line_changes.specs.declared.commands.Resize.{Resize}

-- word 0x3E: the size of the EEPROM in KiBit, less one (ETG.1000.6, slave information interface)
abbrev pub size_word : ℕ
size_word = 62

-- so many words an EEPROM has by its word 0x3E
abbrev pub size_said : List ℕ → ℕ
size_said words = 64 * (slice_index words size_word + 1)

-- Word 0x3E says another size than these words have. 4,096 words may be the first ones of a larger EEPROM.
abbrev pub says_other : List ℕ → Bool
says_other words = not (min (size_said words) 4096 == length words)

-- word 0x3E gets another value, and then says another size
abbrev pub is_resized : (old new : List ℕ) → Bool
is_resized old new = not (slice_index old size_word == slice_index new size_word) && says_other new

-- the resize of a slave by the command at this place; none where its word 0x3E says no other size, or is unchanged
abbrev pub resize_of : (command slave : ℕ) → (old new : List ℕ) → List Resize
resize_of command slave old new =
    if is_resized old new then record { command = command; slave = slave; says = size_said new; has = length new } ∷ [] else []

-- the resizes by the command at this place, which turned the contents `old` into `new`, in order of the slaves
abbrev pub resizes_between : (command : ℕ) → (old new : List (List ℕ)) → List Resize
resizes_between command old new =
    flat_map (λ slave. resize_of command slave (words_of old slave) (words_of new slave)) (range_with_len 0 (min (length old) (length new)))

-- the resizes by commands, one after another on these contents
abbrev pub resizes_of : (base : List (List ℕ)) → List Command → List Resize
resizes_of base commands =
    flat_map
    (λ command. resizes_between command (contents_after base commands command) (contents_after base commands (command + 1)))
    (range_with_len 0 (length commands))
