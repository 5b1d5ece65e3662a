-- The words in which two contents of a line differ.
use Rattle.std.specs.Prelude.{◌==◌, ℕ, List, [], ◌∷◌, length, min, slice_index, if◌then◌else◌}
use Rattle.std.specs.List.{flat_map, range_with_len}
use Rattle.sii_words.specs.Plant.{words_of}
use Rattle.line_changes.specs.declared.changes.ChangedWord.{ChangedWord}

-- the numbers from 0 on that are positions in both lists
abbrev pub common : {A : Type 0} → List A → List A → List ℕ
common olds news = range_with_len 0 (min (length olds) (length news))

-- the change of the word at this address; none where it keeps its value
abbrev pub change_at : (slave at old new : ℕ) → List ChangedWord
change_at slave at old new = if old == new then [] else record { slave = slave; at = at; old = old; new = new } ∷ []

-- the changes of a slave's words, in order of their addresses
abbrev pub changes_of : (slave : ℕ) → (old new : List ℕ) → List ChangedWord
changes_of slave old new = flat_map (λ at. change_at slave at (slice_index old at) (slice_index new at)) (common old new)

-- the words in which two contents of a line differ, in order of the slaves
abbrev pub changes_between : (old new : List (List ℕ)) → List ChangedWord
changes_between old new = flat_map (λ slave. changes_of slave (words_of old slave) (words_of new slave)) (common old new)
