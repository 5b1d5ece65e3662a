-- What contents and commands consist of: words of 16 bits.
use Rattle.std.specs.Prelude.{ℕ, ◌^◌, ◌<◌, List, length, All}
use Rattle.sii_edit.specs.declared.command.Edit.{Edit}
use Rattle.sii_edit.specs.declared.command.Edit.TheVariants.{Alias, Category, Image}
use Rattle.sii_edit.specs.declared.command.GuardedEdit.{GuardedEdit}
use Rattle.sii_edit.specs.declared.command.Command.{Command}
use Rattle.sii_edit.specs.declared.command.Command.TheVariants.{One, Swap, Group, Guarded}

-- a number is a word: it fits 16 bits
abbrev pub IsWord : ℕ → Type 0
IsWord word = word < 2 ^ 16

-- The words of one slave fit 16 bits each, and so does their number.
pub record WordsFit (words : List ℕ) : Type 0 where
  pub count : length words < 2 ^ 16
  pub each : All IsWord words

-- The words of each slave fit.
abbrev pub PlantFits : List (List ℕ) → Type 0
PlantFits plant = All WordsFit plant

-- The words that an edit gives fit 16 bits: an alias, the type and content of a category, or an image.
abbrev pub EditFits : Edit → Type 0
EditFits (Alias slave value) = IsWord value
EditFits (Category slave kind content) = IsWord kind × All IsWord content
EditFits (Image slave image) = All IsWord image

-- The words that a command gives fit 16 bits.
abbrev pub CommandFits : Command → Type 0
CommandFits (One edit) = EditFits edit
CommandFits (Swap a b) = Unit {0}
CommandFits (Group edits) = All EditFits edits
CommandFits (Guarded edits) = All (λ (guarded : GuardedEdit). EditFits guarded.edit) edits
