-- What the process data thread sends: for each job the frames that configure the line, and then one exchange of the process image.
use Rattle.std.specs.Prelude.{◌≡◌, ◌≢◌, ◌⊎◌, ℕ, ◌+◌, List, [], ◌∷◌, ◌++◌, length, map, replicate, Option, None, Err, IsTrue}
use Rattle.std.specs.List.{AllByRecursion}
use Rattle.ecat_frame.specs.Frame.{Pdu}
use Rattle.ecat_frame.specs.Command.{code_of}
use Rattle.ecat_frame.specs.declared.command.Command.TheVariants.{Fpwr, Lrw}
use Rattle.sii_image.specs.declared.plan.Plan.{Plan}
use Rattle.cyclic.specs.declared.fault.CycleFault.{CycleFault}
use Rattle.cyclic.specs.declared.fault.CycleFault.TheVariants as faults
use Rattle.cyclic.specs.Exchange.{Gives}
use Rattle.site_core.specs.State.{Seen, CycleTurn}
use Rattle.site_core.specs.Passes.{AddsNothing}
use Rattle.station_jobs.specs.declared.cycle.CycleJob.{CycleJob}
use Rattle.station_jobs.specs.declared.cycle.CycleNote.{CycleNote}
use Rattle.station_jobs.specs.declared.cycle.CycleOutcome.{CycleOutcome}
use Rattle.station_jobs.specs.Setting.{TakesJob}

-- a datagram that writes registers of one slave, found by its station address (FPWR)
abbrev pub IsWrite : Pdu → Type 0
IsWrite order = order.command ≡ code_of Fpwr

-- the frame of one such datagram
pub record IsSetting (turn : CycleTurn) : Type 0 where
  pub order : Pdu
  pub sent : turn.sent ≡ order ∷ []
  pub writes : IsWrite order

-- the frame of one exchange of `size` bytes of process data (LRW), all of which go out as zeros
pub record IsExchange (size : ℕ) (turn : CycleTurn) : Type 0 where
  pub order : Pdu
  pub sent : turn.sent ≡ order ∷ []
  pub exchanges : order.command ≡ code_of Lrw
  pub bytes : length order.content ≡ size
  pub zeros : order.content ≡ replicate size 0

-- The last of these frames failed, so the line isn't configured.
pub record FailsToSet (settings : List CycleTurn) : Type 0 where
  pub others : List CycleTurn
  pub last : CycleTurn
  pub settings_are : settings ≡ others ++ last ∷ []
  pub fault : CycleFault
  pub meets : Gives 1 last.answer (Err fault)

-- One exchange of `size` bytes follows these frames. None does if there are no bytes, or the line isn't configured.
abbrev pub MayExchange : ℕ → List CycleTurn → List CycleTurn → Type 0
MayExchange size settings [] = (size ≡ 0) ⊎ FailsToSet settings
MayExchange size settings (turn ∷ []) = IsExchange size turn
MayExchange size settings turns = ⊥

-- the frames of one job
pub record SendsTurn (note : CycleNote) (turns : List CycleTurn) : Type 0 where
  pub settings : List CycleTurn
  pub exchange : List CycleTurn
  pub turns_are : turns ≡ settings ++ exchange
  pub are_settings : AllByRecursion IsSetting settings
  pub may_exchange : MayExchange note.size settings exchange

-- the frames of all jobs, one job after another
abbrev pub SendsTurns : List CycleNote → List CycleTurn → Type 0
SendsTurns [] turns = turns ≡ []
SendsTurns (note ∷ notes) turns =
    (first : List CycleTurn) × (rest : List CycleTurn) × (turns ≡ first ++ rest) × SendsTurn note first × SendsTurns notes rest

-- The jobs of the log led the site from `old` to `new`. A power cut leaves nothing that it couldn't have left before, and unless the
-- site stopped, disk and EEPROMs are unchanged.
pub record IsCycled (log : List CycleNote) (old new : Seen) : Type 0 where
  pub turns : List CycleTurn
  pub added : new.turns ≡ old.turns ++ turns
  pub sends : SendsTurns log turns
  pub adds_nothing : AddsNothing old new
  pub same : ¬ IsTrue new.is_stopped → new.state ≡ old.state

-- ---- the loop

-- a job that was done, with its outcome
pub record DoneJob : Type 0 where
  pub job : CycleJob
  pub outcome : CycleOutcome

-- what a log keeps of a job
abbrev pub noted : DoneJob → CycleNote
noted done = record { prefix = done.job.plan.prefix; size = done.job.plan.image.outputs + done.job.plan.image.inputs }

abbrev pub outcome_of : DoneJob → CycleOutcome
outcome_of done = done.outcome

-- These jobs were done one after another, with no other call of the site, and it stopped in none of them. Each began with the line
-- configured as the job before it left it: from `last` at first to `later` in the end (`None`: not, or not completely).
abbrev pub TakesJobs : (slaves : ℕ) → List DoneJob → (last : Option Plan) → (old : Seen) → (later : Option Plan) → (new : Seen) → Type 0
TakesJobs slaves [] last old later new = (later ≡ last) × (new ≡ old)
TakesJobs slaves (first ∷ jobs) last old later new =
    (plan : Option Plan) × (mid : Seen) × TakesJob slaves last first.job old first.outcome plan mid
    × (first.outcome.result ≢ Err faults.Stopped) × TakesJobs slaves jobs plan mid later new

-- After that no job was done, and `ended` holds. Or one job was done, in which the site stopped.
abbrev pub EndsCycling : (slaves : ℕ) → (ended : Type 0) → List DoneJob → (last : Option Plan) → (old new : Seen) → Type 0
EndsCycling slaves ended [] last old new = ended × (new ≡ old)
EndsCycling slaves ended (final ∷ []) last old new =
    (later : Option Plan) × TakesJob slaves last final.job old final.outcome later new × (final.outcome.result ≡ Err faults.Stopped)
EndsCycling slaves ended jobs last old new = ⊥

-- The loop did the jobs of the log, from a line that isn't configured. It ended with `ended`, or with the job in which the site stopped.
-- `logged` holds of the outcomes of all these jobs, in order.
pub record Cycles (slaves : ℕ) (ended : Type 0) (logged : List CycleOutcome → Type 0) (log : List CycleNote) (old new : Seen) : Type 0 where
  pub done : List DoneJob
  pub final : List DoneJob
  pub log_is : log ≡ map noted (done ++ final)
  pub reported : logged (map outcome_of (done ++ final))
  pub plan : Option Plan
  pub mid : Seen
  pub takes : TakesJobs slaves done None old plan mid
  pub ends : EndsCycling slaves ended final plan mid new
