use Rattle.std.proofs.Common.{◌≡◌, List, true, sym, ap, subst, ◌∙◌}
use Rattle.book_model.specs.declared.next.RomNext.{RomNext}
use Rattle.book_model.specs.declared.next.RomOutcome.{RomOutcome}
use Rattle.book_model.specs.declared.next.RomOutcome.TheVariants as outcomes
use Rattle.station_jobs.specs.declared.log.Assignment.{Assignment}
use Rattle.station_jobs.specs.Dispatch.{with_outcome}
use Rattle.station_jobs.specs.Jobs.{DoneInTurn}
use Rattle.station_jobs.specs.Working.{CallsSlave}
use Rattle.station_jobs.proofs.CallLaws.{call-goes, worked}
use Rattle.station_jobs.proofs.JobLoops.{reported-turn, led-all, led-reported, led-unreported}
use Rattle.std.proofs.Common.{false, refl, rules, arith}
use Rattle.std.proofs.lemmas.Bool.{false≢true}
use Rattle.std.proofs.lemmas.Grind.{common_steps}
use Rattle.book_model.specs.contracts.next.RomOutcomePartialEq.TheImpl.{eq-value}
use Rattle.station_jobs.specs.Working.{Works}
use Rattle.station_jobs.proofs.JobLoops.{runs-ended, runs-stopped, runs-held}
use Rattle.station_jobs.proofs.working.work.Goals as goal
use Rattle.station_jobs.proofs.working.work.Goals.{in-None, in-Some+in-Stop, in-Some+in-Work+then-not-pass, in-Some+in-Work+else-not-pass+then-eq}

pub loop-preserved : goal.loop-preserved
loop-preserved g c =
    let start = g.S.Site.seen c.of-start.result.value in
    let now = g.S.Site.seen c.loop.site in
    let new = g.S.Site.seen c.call-outcome.new.site in
    let log = g.D.Dispatch.log c.loop.dispatch in
    let Does = CallsSlave c.args.slave in
    let job = c.in-Work.job in
    let outcome = c.call-outcome.result in
    let not : outcome ≡ outcomes.Stopped → ⊥ = λ is. (let never = c.if-eq.false in let eq : c.eq.result ≡ true = rw is at c.eq.ensures in absurd cc) in
    let calls = c.call-outcome.ensures.calls in
    let reported = c.done.ensures.log ∙ ap (λ (l : List (Assignment RomNext RomOutcome)). with_outcome l outcome) c.in-Work.ensures.log in (
      subst (λ (l : List (Assignment RomNext RomOutcome)). DoneInTurn Does l start new) (sym reported)
          (reported-turn Does log job outcome start now new c.loop.invariant.0 calls (call-goes c.args.slave job outcome now new calls not)),
      (λ next may. c.loop.invariant.1 next (c.in-Work.ensures.no_more next (c.done.ensures.no_more next may))),
      c.call-outcome.ensures.line ∙ c.loop.invariant.2,
      c.loop.invariant.3,
      λ ended. c.loop.invariant.4 (c.in-Work.ensures.no_end (c.done.ensures.no_end ended)),
    )

pub new-requires-clause-leads : goal.new-requires-clause-leads
new-requires-clause-leads g c =
    let start = g.S.Site.seen c.of-start.result.value in
    let now = g.S.Site.seen c.loop.site in
    let log = g.D.Dispatch.log c.loop.dispatch in
    let slave = c.args.slave in
    let Does = CallsSlave slave in
    let turn = c.loop.invariant.0 in
    elim c.match-next.branch [
      | in-None w ↦ rw (c.into_log.ensures.log, w.dispatch-is, w.site-is) (worked slave log start now (led-all Does log start now turn))
      | in-Some+in-Stop w ↦ rw (c.into_log.ensures.log, w.dispatch-is, w.site-is, w.in-Stop.ensures.log) (worked slave log start now (led-all Does log start now turn))
      | in-Some+in-Work+then-not-pass w ↦
          let new = g.S.Site.seen w.call-outcome.new.site in
          rw (c.into_log.ensures.log, w.dispatch-is, w.site-is, w.in-Work.ensures.log)
          (worked slave _ start new (led-unreported Does log w.in-Work.job w.call-outcome.result start now new turn w.call-outcome.ensures.calls))
      | in-Some+in-Work+else-not-pass+then-eq w ↦
          let new = g.S.Site.seen w.call-outcome.new.site in
          rw (c.into_log.ensures.log, w.dispatch-is, w.site-is, w.done.ensures.log, w.in-Work.ensures.log)
          (worked slave _ start new (led-reported Does log w.in-Work.job w.call-outcome.result start now new turn w.call-outcome.ensures.calls))
    ]

stopped-is : (outcome : RomOutcome) → eq-value.it outcome outcomes.Stopped ≡ true → outcome ≡ outcomes.Stopped
stopped-is (outcomes.Issued issued) is = absurd (false≢true is)
stopped-is (outcomes.Settled settled) is = absurd (false≢true is)
stopped-is outcomes.Stopped is = refl

pub returns-clause-works : goal.returns-clause-works
returns-clause-works g c =
    let start = g.S.Site.seen c.of-start.result.value in
    let now = g.S.Site.seen c.loop.site in
    let log = g.D.Dispatch.log c.loop.dispatch in
    let ended = g.D.Dispatch.has_ended c.args.dispatch in
    let held = g.G.Hook.may_hold c.args.hook.now in
    let slave = c.args.slave in
    let Does = CallsSlave slave in
    let turn = c.loop.invariant.0 in
    let IsStop : RomOutcome → Type 0 = λ outcome. outcome ≡ outcomes.Stopped in
    subst (λ s. Works slave ended held c.new.result.log.jobs (g.S.Site.seen s) (g.S.Site.seen c.new.result.site)) c.of-start.ensures
    (elim c.match-next.branch [
      | in-None w ↦ absurd (false≢true w.in-None.ensures.steps)
      | in-Some+in-Stop w ↦
          rw (c.new.ensures.log, c.new.ensures.site, c.into_log.ensures.log, w.dispatch-is, w.site-is, w.in-Stop.ensures.log)
          (runs-ended Does IsStop ended held log start now turn (c.loop.invariant.4 w.in-Stop.ensures.stop))
      | in-Some+in-Work+then-not-pass w ↦
          let new = g.S.Site.seen w.call-outcome.new.site in
          let then = w.if-not-pass.true in
          let not : w.pass.result ≡ false = first_of ((cc), search rules, grind (arith, common_steps)) in
          rw (c.new.ensures.log, c.new.ensures.site, c.into_log.ensures.log, w.dispatch-is, w.site-is, w.in-Work.ensures.log)
          (runs-held Does IsStop ended held log w.in-Work.job w.call-outcome.result start now new turn w.call-outcome.ensures.calls (w.pass.ensures not))
      | in-Some+in-Work+else-not-pass+then-eq w ↦
          let new = g.S.Site.seen w.call-outcome.new.site in
          rw (c.new.ensures.log, c.new.ensures.site, c.into_log.ensures.log, w.dispatch-is, w.site-is, w.done.ensures.log, w.in-Work.ensures.log)
          (runs-stopped Does IsStop ended held log w.in-Work.job w.call-outcome.result start now new turn w.call-outcome.ensures.calls
          (stopped-is w.call-outcome.result (sym w.eq.ensures ∙ w.if-eq.true)))
    ])
