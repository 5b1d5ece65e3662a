-- The process data cycles that were handed out.
use Rattle.std.specs.Prelude.{◌≡◌, ◌≤◌, ◌+◌, ℕ, List, [], ◌∷◌, length, Some}
use Rattle.sii_edit.specs.declared.command.Command.{Command}
use Rattle.sii_edit.specs.Fold.{contents_after}
use Rattle.sii_image.specs.ProcessImage.{ProcessImageParts, process_image}
pub use Rattle.book_core.specs.Appending.{AppendsNext}
use Rattle.station_jobs.specs.declared.cycle.CycleNote.{CycleNote}

-- The cycle is of the contents after a prefix of these commands, and has the size of their process image.
pub record IsTurnOf (base : List (List ℕ)) (commands : List Command) (note : CycleNote) : Type 0 where
  pub few : note.prefix ≤ length commands
  pub image : ProcessImageParts
  pub has_image : process_image (contents_after base commands note.prefix) ≡ Some image
  pub size : note.size ≡ image.outputs + image.inputs

-- No cycle has a shorter prefix than the one before it, and none a shorter prefix than this.
abbrev pub NeverFallFrom : ℕ → List CycleNote → Type 0
NeverFallFrom least [] = Unit {0}
NeverFallFrom least (turn ∷ turns) = (least ≤ turn.prefix) × NeverFallFrom turn.prefix turns

-- No cycle has a shorter prefix than the one before it.
abbrev pub NeverFall : List CycleNote → Type 0
NeverFall turns = NeverFallFrom 0 turns
