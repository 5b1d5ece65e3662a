-- Which failures a run or a recovery notes.
use Rattle.std.specs.Prelude.{◌≡◌, ◌⊎◌, List}
use Rattle.station_files.specs.declared.failures.Failures.{Failures}
use Rattle.station_files.specs.declared.faults.ExitStatus.{ExitStatus}
use Rattle.station_files.specs.declared.faults.Failure.{Failure}
use Rattle.station_files.specs.Failures.{met_by, with_failure}
use Rattle.station_files.specs.Faults.{IsFaultless}

-- Failures were noted one after the other, at least one.
pub data Notes : (old new : List Failure) → Type 0 where
  noted : (met : List Failure) (failure : Failure) → Notes met (with_failure met failure)
  further : (old mid new : List Failure) → Notes old mid → Notes mid new → Notes old new

-- Nothing failed: `Well` holds, and no failure was noted. Or something did: the status is that of a fault, and failures were noted.
abbrev pub NotesWhy : (Well : Type 0) → ExitStatus → (old new : Failures) → Type 0
NotesWhy Well status old new = (Well × (new ≡ old)) ⊎ (¬ IsFaultless status × Notes (met_by old) (met_by new))
