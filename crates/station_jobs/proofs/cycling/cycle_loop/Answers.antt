use Rattle.std.proofs.Common.{◌≡◌, ℕ, Bool, List, [], ◌∷◌, None, Result, Ok, Err, true, length, refl, sym, ap, subst, ◌∙◌}
use Rattle.std.specs.Prelude.{IsTrue, false}
use Rattle.std.specs.Result.{result_eq}
use Rattle.std.proofs.lemmas.Bool.{false≢true}
use Rattle.site_core.specs.Line.{Line}
use Rattle.cyclic.specs.declared.fault.CycleFault.{CycleFault}
use Rattle.cyclic.specs.declared.fault.CycleFault.TheVariants as faults
use Rattle.cyclic.specs.contracts.fault.CycleFaultPartialEq.TheImpl.{eq-value}
use Rattle.station_jobs.specs.declared.cycle.CycleNote.{CycleNote}
use Rattle.station_jobs.specs.declared.cycle.CycleOutcome.{CycleOutcome}
use Rattle.station_jobs.specs.Setting.{TakesJob}
use Rattle.station_jobs.specs.Cycling.{DoneJob, Cycles}
use Rattle.station_jobs.proofs.CycleLaws.{Runs, runs-none, job-runs, job-cycled}
use Rattle.station_jobs.proofs.CyclesLaws.{SoFar, none-so-far, more-so-far, cycles-ended, cycles-stopped}
use Rattle.station_jobs.proofs.cycling.cycle_loop.Goals as goal
use Rattle.station_jobs.proofs.cycling.cycle_loop.Goals.{in-None, in-Some+in-Stop, in-Some+in-Work+then-has_stopped}

stopped-is : (same : ℕ → ℕ → Bool) (result : Result ℕ CycleFault) → result_eq same eq-value.it result (Err faults.Stopped) ≡ true → result ≡ Err faults.Stopped
stopped-is same (Ok counter) is = absurd (false≢true is)
stopped-is same (Err (faults.WrongCounter seen expected)) is = absurd (false≢true is)
stopped-is same (Err faults.Lost) is = absurd (false≢true is)
stopped-is same (Err faults.Stopped) is = refl

pub loop-init : goal.loop-init
loop-init g c =
    let site = c.args.site in
    let log = g.D.Dispatch.log c.args.dispatch in
    let vacant = g.D.Dispatch.has_job c.args.dispatch ≡ false in
    let reported = g.D.Dispatch.are_reported c.args.dispatch in (
      subst (λ s. Runs log (g.S.Site.seen s) (g.S.Site.seen site)) (sym c.of-start.ensures)
          (subst (λ (l : List CycleNote). Runs l (g.S.Site.seen site) (g.S.Site.seen site)) (sym c.requires.fresh) (runs-none (g.S.Site.seen site))),
      ap g.S.Site.line (sym c.of-start.ensures),
      subst (λ s. IsTrue (g.S.Site.line s).has_process) (sym c.of-start.ensures) c.requires.process,
      subst (λ s. SoFar (length (g.S.Site.line s).sizes) vacant reported reported log (g.S.Site.seen s) None (g.S.Site.seen site)) (sym c.of-start.ensures)
          (subst (λ (l : List CycleNote). SoFar (length (g.S.Site.line site).sizes) vacant reported reported l (g.S.Site.seen site) None (g.S.Site.seen site))
          (sym c.requires.fresh)
          (none-so-far (length (g.S.Site.line site).sizes) vacant reported (g.S.Site.seen site))),
      λ ended. ended,
      λ is. is,
    )

pub loop-preserved : goal.loop-preserved
loop-preserved g c =
    let line = g.S.Site.line c.of-start.result.value in
    let start = g.S.Site.seen c.of-start.result.value in
    let now = g.S.Site.seen c.loop.site in
    let new = g.S.Site.seen c.take_turn-outcome.new.site in
    let outcome = c.take_turn-outcome.result in
    let later = c.take_turn-outcome.new.last in
    let log = g.D.Dispatch.log c.loop.dispatch in
    let vacant = g.D.Dispatch.has_job c.args.dispatch ≡ false in
    let reported = g.D.Dispatch.are_reported c.args.dispatch in
    let known = g.D.Dispatch.are_reported c.loop.dispatch in
    let after = g.D.Dispatch.are_reported c.done.new.self in
    let one : DoneJob = record { job = c.in-Work.job; outcome = outcome } in
    let heard : vacant → (others : List CycleOutcome) → after others → known (outcome ∷ others) =
    λ is others holds. c.in-Work.ensures.reported (c.loop.invariant.5 is) (outcome ∷ others) (c.done.ensures.reported others holds) in
    let noted = c.done.ensures.log ∙ c.in-Work.ensures.log in
    let going : outcome.result ≡ Err faults.Stopped → ⊥ = λ is. (let never = c.if-has_stopped.false in let eq : c.eq-has_stopped.result ≡ true = rw is at c.eq-has_stopped.ensures in absurd cc) in
    let takes : TakesJob (length line.sizes) c.loop.last one.job now outcome later new =
    subst (λ (l : Line). TakesJob (length l.sizes) c.loop.last one.job now outcome later new) c.loop.invariant.1 c.take_turn-outcome.ensures.takes in (
      subst (λ (l : List CycleNote). Runs l start new) (sym noted) (job-runs _ c.loop.last later log c.in-Work.job start now new outcome c.loop.invariant.0 c.take_turn-outcome.ensures.takes going),
      c.take_turn-outcome.ensures.line ∙ c.loop.invariant.1,
      c.loop.invariant.2,
      subst (λ (l : List CycleNote). SoFar (length line.sizes) vacant reported after l start later new) (sym noted)
          (more-so-far (length line.sizes) vacant reported known after log one start c.loop.last later now new c.loop.invariant.3 heard takes going),
      λ ended. c.loop.invariant.4 (c.in-Work.ensures.no_end (c.done.ensures.no_end ended)),
      λ is. c.done.ensures.out,
    )

pub new-requires-clause-leads : goal.new-requires-clause-leads
new-requires-clause-leads g c =
    let start = g.S.Site.seen c.of-start.result.value in
    let now = g.S.Site.seen c.loop.site in
    let log = g.D.Dispatch.log c.loop.dispatch in
    let runs = c.loop.invariant.0 in
    elim c.match-next.branch [
      | in-None w ↦ rw (c.into_log.ensures.log, w.dispatch-is, w.site-is) runs.cycled
      | in-Some+in-Stop w ↦ rw (c.into_log.ensures.log, w.dispatch-is, w.site-is, w.in-Stop.ensures.log) runs.cycled
      | in-Some+in-Work+then-has_stopped w ↦
          rw (c.into_log.ensures.log, w.dispatch-is, w.site-is, w.done.ensures.log, w.in-Work.ensures.log)
          (job-cycled _ c.loop.last w.take_turn-outcome.new.last log w.in-Work.job start now (g.S.Site.seen w.take_turn-outcome.new.site) w.take_turn-outcome.result runs w.take_turn-outcome.ensures.takes)
    ]

pub returns-clause-cycles : goal.returns-clause-cycles
returns-clause-cycles g c =
    let line = g.S.Site.line c.of-start.result.value in
    let start = g.S.Site.seen c.of-start.result.value in
    let now = g.S.Site.seen c.loop.site in
    let log = g.D.Dispatch.log c.loop.dispatch in
    let ended = g.D.Dispatch.has_ended c.args.dispatch in
    let vacant = g.D.Dispatch.has_job c.args.dispatch ≡ false in
    let reported = g.D.Dispatch.are_reported c.args.dispatch in
    let known = g.D.Dispatch.are_reported c.loop.dispatch in
    let sofar = c.loop.invariant.3 in
    subst (λ s. Cycles (length (g.S.Site.line s).sizes) ended (λ outcomes. vacant → reported outcomes) c.new.result.log (g.S.Site.seen s) (g.S.Site.seen c.new.result.site)) c.of-start.ensures
    (elim c.match-next.branch [
      | in-None w ↦ absurd (false≢true w.in-None.ensures.steps)
      | in-Some+in-Stop w ↦
          let heard : vacant → known [] =
          λ is. w.in-Stop.ensures.reported (c.loop.invariant.5 is) []
          ((rw w.dispatch-is at c.into_log.ensures.reported) (w.in-Stop.ensures.no_job ∙ c.loop.invariant.5 is)) in
          rw (c.new.ensures.log, c.new.ensures.site, c.into_log.ensures.log, w.dispatch-is, w.site-is, w.in-Stop.ensures.log)
          (cycles-ended (length line.sizes) vacant reported ended known log start c.loop.last now sofar heard (c.loop.invariant.4 w.in-Stop.ensures.stop))
      | in-Some+in-Work+then-has_stopped w ↦
          let new = g.S.Site.seen w.take_turn-outcome.new.site in
          let outcome = w.take_turn-outcome.result in
          let later = w.take_turn-outcome.new.last in
          let one : DoneJob = record { job = w.in-Work.job; outcome = outcome } in
          let takes : TakesJob (length line.sizes) c.loop.last one.job now outcome later new =
          subst (λ (l : Line). TakesJob (length l.sizes) c.loop.last one.job now outcome later new) c.loop.invariant.1 w.take_turn-outcome.ensures.takes in
          let heard : vacant → known (outcome ∷ []) =
          λ is. w.in-Work.ensures.reported (c.loop.invariant.5 is) (outcome ∷ [])
          (w.done.ensures.reported [] ((rw w.dispatch-is at c.into_log.ensures.reported) w.done.ensures.out)) in
          rw (c.new.ensures.log, c.new.ensures.site, c.into_log.ensures.log, w.dispatch-is, w.site-is, w.done.ensures.log, w.in-Work.ensures.log)
          (cycles-stopped (length line.sizes) vacant reported ended known log one start c.loop.last later now new sofar heard takes (stopped-is _ outcome.result (sym w.eq-has_stopped.ensures ∙ w.if-has_stopped.true)))
    ])
