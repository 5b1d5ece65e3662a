-- The exit status of a run whose commands were answered, and which no fault ended.
use Rattle.std.specs.Prelude.{◌≡◌}
use Rattle.station_files.specs.declared.faults.ExitStatus.{ExitStatus}
use Rattle.station_files.specs.declared.faults.ExitStatus.TheVariants as ends
use Rattle.station_line.specs.declared.answered.Answered.{Answered}
use Rattle.station_line.specs.declared.answered.Answered.TheVariants.{AllAccepted, OutOfMemory, SomeRefused}

-- the exit status that the answers give, by the worst of them
abbrev pub exit_status : Answered → ExitStatus
exit_status AllAccepted = ends.Done
exit_status SomeRefused = ends.Refused
exit_status OutOfMemory = ends.Memory

-- Answers of which this is said give this exit status.
pub record AnswersGive (So : Answered → Type 0) (status : ExitStatus) : Type 0 where
  pub answered : Answered
  pub is : status ≡ exit_status answered
  pub so : So answered

-- answers give this exit status: it tells of no fault
abbrev pub IsOfAnswers : ExitStatus → Type 0
IsOfAnswers status = (answered : Answered) × (status ≡ exit_status answered)
