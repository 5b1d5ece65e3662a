-- What an accepted command changes.
use Rattle.std.specs.Prelude.{◌≡◌, ◌≤◌, ℕ, List, length, All, Ok}
use Rattle.sii_image.specs.NewLayouts.{with_each}
use Rattle.sii_words.specs.declared.run.Run.{Run}
use Rattle.sii_words.specs.Run.{runs_between}
use Rattle.sii_words.specs.Redo.{redone, LiesInside}
use Rattle.sii_edit.specs.declared.command.Command.{Command}
use Rattle.sii_edit.specs.declared.applying.Change.{Change}
use Rattle.sii_edit.specs.Command.{outcome}

-- A run of 1 to 4,096 words.
abbrev pub IsShort : Run → Type 0
IsShort run = (1 ≤ length run.words) × (length run.words ≤ 4096)

-- The command is valid on these contents, and this is the change that it makes to them.
pub record IsChangeOf (plant : List (List ℕ)) (command : Command) (change : Change) : Type 0 where
  pub accepted : outcome plant command ≡ Ok (redone plant change.runs.items)
  pub runs : change.runs.items ≡ runs_between plant (redone plant change.runs.items)
  pub inside : All (LiesInside plant) change.runs.items
  pub short : All IsShort change.runs.items
  pub layouts : with_each plant change.layouts ≡ redone plant change.runs.items
