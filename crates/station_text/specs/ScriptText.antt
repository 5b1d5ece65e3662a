-- The commands of a script, by the values at the keys of its tables.
use Rattle.std.specs.Prelude.{◌≡◌, ◌⊎◌, ℕ, List, [], ◌∷◌, Option, Some, None, Ok, IsSome, IsSomeAnd, option_and_then, codes, string_bytes, ⊤}
use Rattle.std.specs.List.{AllZip}
use Rattle.hex.specs.Hex.{decode_of}
use Rattle.toml.specs.Data.{Data, Members, get_member, as_table}
use Rattle.toml.specs.Parse.{parse_document}
use Rattle.sii_words.specs.Words.{bytes_of}
use Rattle.sii_edit.specs.declared.command.Expect.{Expect}
use Rattle.station_text.specs.Document.{HasNumberBelow, HasOnly, IsFlag, IsNumberBelow, table_at, text_at, values_at}
use Rattle.station_text.specs.declared.script_command.ScriptCommand.{ScriptCommand}
use Rattle.station_text.specs.declared.script_command.ScriptCommand.TheVariants.{One, Swap, Group}
use Rattle.station_text.specs.declared.script_command.ScriptEdit.{ScriptEdit}
use Rattle.station_text.specs.declared.script_command.ScriptEdit.TheVariants.{Alias, Category, Image}
use Rattle.station_text.specs.declared.script_command.ScriptGroupEdit.{ScriptGroupEdit}

-- the value at the key is this integer of 16 bits
abbrev pub HasNumber : List ℕ → Members → ℕ → Type 0
HasNumber key table number = HasNumberBelow 65536 key table number

-- the value at the key is this integer of 32 bits
abbrev pub HasWideNumber : List ℕ → Members → ℕ → Type 0
HasWideNumber key table number = HasNumberBelow 4294967296 key table number

-- the fields of an alias edit: `{ slave = 0, value = 1 }`; as in each edit, `expect` may stand among them
abbrev pub SpellsAlias : Members → ScriptEdit → Type 0
SpellsAlias fields (Alias slave value) =
    HasOnly (codes "slave" ∷ codes "value" ∷ codes "expect" ∷ []) fields
    × HasNumber (codes "slave") fields slave × HasNumber (codes "value") fields value
SpellsAlias fields _ = ⊥

-- the fields of a category edit: `{ slave = 0, kind = 51, content = "0016" }`, where content is the bytes of the words
abbrev pub SpellsCategory : Members → ScriptEdit → Type 0
SpellsCategory fields (Category slave kind words) =
    HasOnly (codes "slave" ∷ codes "kind" ∷ codes "content" ∷ codes "expect" ∷ []) fields
    × HasNumber (codes "slave") fields slave × HasNumber (codes "kind") fields kind
    × IsSomeAnd (text_at (codes "content") fields) (λ text. decode_of text ≡ Ok (bytes_of words))
SpellsCategory fields _ = ⊥

-- the fields of an image edit: `{ slave = 0, file = "new.bin" }`, or with `replace = true` among them
abbrev pub SpellsImage : Members → ScriptEdit → Type 0
SpellsImage fields (Image slave file replace) =
    HasOnly (codes "slave" ∷ codes "file" ∷ codes "replace" ∷ codes "expect" ∷ []) fields
    × HasNumber (codes "slave") fields slave × (text_at (codes "file") fields ≡ Some (string_bytes file))
    × IsFlag (get_member (codes "replace") fields) replace
SpellsImage fields _ = ⊥

-- the table has the edit at this key, and no other key but `expect`
abbrev pub SpellsKind : List ℕ → (Members → ScriptEdit → Type 0) → Members → ScriptEdit → Type 0
SpellsKind key Spells table edit =
    HasOnly (key ∷ codes "expect" ∷ []) table × IsSomeAnd (table_at key table) (λ fields. Spells fields edit)

-- the table spells this edit, at the key of its kind
abbrev pub SpellsEdit : Members → ScriptEdit → Type 0
SpellsEdit table edit =
    SpellsKind (codes "alias") SpellsAlias table edit
    ⊎ (SpellsKind (codes "category") SpellsCategory table edit ⊎ SpellsKind (codes "image") SpellsImage table edit)

-- the fields spell this expected identity
pub record SpellsExpect (fields : Members) (expect : Expect) : Type 0 where
  pub only_keys : HasOnly (codes "vendor" ∷ codes "product" ∷ codes "revision" ∷ []) fields
  pub vendor : HasWideNumber (codes "vendor") fields expect.vendor
  pub product : HasWideNumber (codes "product") fields expect.product
  pub revision : HasWideNumber (codes "revision") fields expect.revision

-- the value at `expect`, if there is one, spells this expected identity
abbrev pub SpellsGuard : Option Data → Option Expect → Type 0
SpellsGuard None None = ⊤
SpellsGuard (Some value) (Some expect) = IsSomeAnd (as_table value) (λ fields. SpellsExpect fields expect)
SpellsGuard _ _ = ⊥

-- the value at `expect` among the fields of the edit at this key, if there is one
abbrev pub own_guard_at : List ℕ → Members → Option Data
own_guard_at key table = option_and_then (λ fields. get_member (codes "expect") fields) (table_at key table)

-- the first of two values, if it is there, or else the second
abbrev pub first_of : Option Data → Option Data → Option Data
first_of None other = other
first_of (Some value) other = Some value

-- the value at `expect` among the fields of the edit, if there is one
abbrev pub own_guard : Members → Option Data
own_guard table = first_of (own_guard_at (codes "alias") table) (first_of (own_guard_at (codes "category") table) (own_guard_at (codes "image") table))

-- the values at `expect` beside an edit and among its fields spell this expected identity; there is one of them at most
abbrev pub SpellsGuards : (beside own : Option Data) → Option Expect → Type 0
SpellsGuards beside None expect = SpellsGuard beside expect
SpellsGuards None (Some value) expect = SpellsGuard (Some value) expect
SpellsGuards (Some other) (Some value) expect = ⊥

-- the table spells this edit, with the identity that it expects, if any
abbrev pub SpellsGuarded : Members → ScriptGroupEdit → Type 0
SpellsGuarded table one = SpellsEdit table one.edit × SpellsGuards (get_member (codes "expect") table) (own_guard table) one.expect

-- the value is a table that spells this edit of a group
abbrev pub SpellsGroupEdit : Data → ScriptGroupEdit → Type 0
SpellsGroupEdit value one = IsSomeAnd (as_table value) (λ table. SpellsGuarded table one)

-- the array at `swap` has these two integers
abbrev pub SpellsSwap : Members → ℕ → ℕ → Type 0
SpellsSwap table a b = IsSomeAnd (values_at (codes "swap") table) (λ values. AllZip (IsNumberBelow 65536) values (a ∷ b ∷ []))

-- the array at `group` has these edits
abbrev pub SpellsGroup : Members → List ScriptGroupEdit → Type 0
SpellsGroup table edits = IsSomeAnd (values_at (codes "group") table) (λ values. AllZip SpellsGroupEdit values edits)

-- the table spells this edit outside a group: what it expects, if anything, stands among its fields
abbrev pub SpellsAlone : Members → ScriptGroupEdit → Type 0
SpellsAlone table one = SpellsGuarded table one × (get_member (codes "expect") table ≡ None)

-- the table spells this edit outside a group, which expects an identity
abbrev pub SpellsOneGuarded : Members → List ScriptGroupEdit → Type 0
SpellsOneGuarded table (one ∷ []) = SpellsAlone table one × IsSome one.expect
SpellsOneGuarded table _ = ⊥

-- the table spells this command at its only key; an edit outside a group that expects an identity is a group of one
abbrev pub SpellsTableCommand : Members → ScriptCommand → Type 0
SpellsTableCommand table (One edit) = SpellsAlone table (record { expect = None; edit = edit })
SpellsTableCommand table (Swap a b) = HasOnly (codes "swap" ∷ []) table × SpellsSwap table a b
SpellsTableCommand table (Group edits) = (HasOnly (codes "group" ∷ []) table × SpellsGroup table edits.items) ⊎ SpellsOneGuarded table edits.items

-- the value is a table that spells this command
abbrev pub SpellsCommand : Data → ScriptCommand → Type 0
SpellsCommand value command = IsSomeAnd (as_table value) (λ table. SpellsTableCommand table command)

-- the array at `command` spells these commands, in order
abbrev pub SpellsScript : Members → List ScriptCommand → Type 0
SpellsScript document commands = HasOnly (codes "command" ∷ []) document
    × IsSomeAnd (values_at (codes "command") document) (λ values. AllZip SpellsCommand values commands)

-- the text is a script with these commands
abbrev pub SpellsScriptFile : List ℕ → List ScriptCommand → Type 0
SpellsScriptFile text commands = IsSomeAnd (parse_document text) (λ document. SpellsScript document commands)
