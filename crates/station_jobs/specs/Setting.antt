-- One process data cycle: the line is configured for the plan, and the process data is exchanged.
use Rattle.std.specs.Prelude.{◌≡◌, ℕ, ◌+◌, ◌<◌, [], replicate, Option, Some, None, Result, Ok, Err}
use Rattle.cyclic.specs.declared.fault.CycleFault.{CycleFault}
use Rattle.cyclic.specs.Configuration.{configuring, reconfiguring}
use Rattle.cyclic.specs.Sending.{SendsInOrder}
use Rattle.cyclic.specs.Turn.{TakesTurn}
use Rattle.sii_image.specs.declared.plan.Plan.{Plan}
use Rattle.site_core.specs.State.{Seen}
use Rattle.station_jobs.specs.declared.cycle.CycleJob.{CycleJob}
use Rattle.station_jobs.specs.declared.cycle.CycleOutcome.{CycleOutcome}

-- The whole line is configured, or, if it is configured for `last`, only the slaves whose segments differ.
abbrev pub SetsLine : ℕ → Option Plan → Plan → Seen → Result (Unit {0}) CycleFault → Seen → Type 0
SetsLine slaves None plan old result new = SendsInOrder (configuring slaves plan.image.segments) old result new
SetsLine slaves (Some last) plan old result new = SendsInOrder (reconfiguring slaves last.image.segments plan.image.segments) old result new

-- The process data is exchanged. For an image without bytes nothing is sent.
pub record Exchanges (job : CycleJob) (old : Seen) (outcome : CycleOutcome) (new : Seen) : Type 0 where
  pub nothing : job.plan.image.outputs + job.plan.image.inputs ≡ 0 → (outcome.result ≡ Ok 0) × (new ≡ old)
  pub no_inputs : job.plan.image.outputs + job.plan.image.inputs ≡ 0 → outcome.inputs.items ≡ []
  pub turn : 0 < job.plan.image.outputs + job.plan.image.inputs
      → TakesTurn job.plan.image job.outputs.items (replicate job.plan.image.inputs 0) old outcome.result outcome.inputs.items new

-- Once the line is configured, the process data is exchanged. If that failed, nothing more is sent and the inputs are zeros.
abbrev pub ExchangesOnceSet : Result (Unit {0}) CycleFault → CycleJob → Seen → CycleOutcome → Option Plan → Seen → Type 0
ExchangesOnceSet (Ok done) job mid outcome later new = (later ≡ Some job.plan) × Exchanges job mid outcome new
ExchangesOnceSet (Err fault) job mid outcome later new = (later ≡ None) × (outcome.result ≡ Err fault)
    × (outcome.inputs.items ≡ replicate job.plan.image.inputs 0) × (new ≡ mid)

-- The job was done. `later` is the plan that the line is configured for then, if the configuration succeeded.
pub record TakesJob (slaves : ℕ) (last : Option Plan) (job : CycleJob) (old : Seen) (outcome : CycleOutcome)
    (later : Option Plan) (new : Seen) : Type 0 where
  pub set : Result (Unit {0}) CycleFault
  pub mid : Seen
  pub sets : SetsLine slaves last job.plan old set mid
  pub goes_on : ExchangesOnceSet set job mid outcome later new
