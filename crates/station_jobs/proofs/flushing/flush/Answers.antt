use Rattle.std.proofs.Common.{◌≡◌, List, true, Err, sym, ap, subst, ◌∙◌, Result}
use Rattle.site_core.specs.declared.fault.DeviceFault.{DeviceFault}
use Rattle.site_core.specs.declared.fault.DeviceFault.TheVariants as device
use Rattle.book_model.specs.declared.next.DiskNext.{DiskNext}
use Rattle.station_jobs.specs.declared.log.Assignment.{Assignment}
use Rattle.station_jobs.specs.Dispatch.{with_outcome}
use Rattle.station_jobs.specs.Jobs.{DoneInTurn}
use Rattle.station_jobs.specs.Flushing.{DoesAction}
use Rattle.station_jobs.proofs.ActionLaws.{action-goes, still-begins, flushed}
use Rattle.station_jobs.proofs.JobLoops.{reported-turn, led-all, led-reported}
use Rattle.std.proofs.Common.{Bool, Ok, refl}
use Rattle.std.specs.Result.{result_eq}
use Rattle.std.proofs.lemmas.Bool.{false≢true}
use Rattle.site_core.specs.contracts.fault.DeviceFaultPartialEq.TheImpl.{eq-value}
use Rattle.station_jobs.specs.Flushing.{Flushes}
use Rattle.station_jobs.proofs.JobLoops.{runs-ended, runs-stopped}
use Rattle.station_jobs.proofs.flushing.flush.Goals as goal
use Rattle.station_jobs.proofs.flushing.flush.Goals.{in-None, in-Some+in-Stop, in-Some+in-Work+then-eq}

pub loop-preserved : goal.loop-preserved
loop-preserved g c =
    let start = g.S.Site.seen c.of-start.result.value in
    let now = g.S.Site.seen c.loop.site in
    let new = g.S.Site.seen c.act-result.new.site in
    let log = g.D.Dispatch.log c.loop.dispatch in
    let action = c.in-Work.action in
    let result = c.act-result.result in
    let not : result ≡ Err device.Stopped → ⊥ = λ is. (let never = c.if-eq.false in let eq : c.eq.result ≡ true = rw is at c.eq.ensures in absurd cc) in
    let does = c.act-result.ensures.does in
    let reported = c.done.ensures.log ∙ ap (λ (l : List (Assignment DiskNext (Result (Unit {0}) DeviceFault))). with_outcome l result) c.in-Work.ensures.log in (
      subst (λ (l : List (Assignment DiskNext (Result (Unit {0}) DeviceFault))). DoneInTurn DoesAction l start new) (sym reported)
          (reported-turn DoesAction log action result start now new c.loop.invariant.0 does (action-goes action result now new does not)),
      (λ next may. still-begins action next result now new does not (c.loop.invariant.1 next (c.in-Work.ensures.no_more next (c.done.ensures.no_more next may)))),
      c.act-result.ensures.line ∙ c.loop.invariant.2,
      c.loop.invariant.3,
      λ ended. c.loop.invariant.4 (c.in-Work.ensures.no_end (c.done.ensures.no_end ended)),
    )

pub new-requires-clause-leads : goal.new-requires-clause-leads
new-requires-clause-leads g c =
    let start = g.S.Site.seen c.of-start.result.value in
    let now = g.S.Site.seen c.loop.site in
    let log = g.D.Dispatch.log c.loop.dispatch in
    let turn = c.loop.invariant.0 in
    elim c.match-next.branch [
      | in-None w ↦ rw (c.into_log.ensures.log, w.dispatch-is, w.site-is) (flushed log start now (led-all DoesAction log start now turn))
      | in-Some+in-Stop w ↦ rw (c.into_log.ensures.log, w.dispatch-is, w.site-is, w.in-Stop.ensures.log) (flushed log start now (led-all DoesAction log start now turn))
      | in-Some+in-Work+then-eq w ↦
          let new = g.S.Site.seen w.act-result.new.site in
          rw (c.into_log.ensures.log, w.dispatch-is, w.site-is, w.done.ensures.log, w.in-Work.ensures.log)
          (flushed _ start new (led-reported DoesAction log w.in-Work.action w.act-result.result start now new turn w.act-result.ensures.does))
    ]

stopped-is : (same : Unit {0} → Unit {0} → Bool) (result : Result (Unit {0}) DeviceFault) → result_eq same eq-value.it result (Err device.Stopped) ≡ true → result ≡ Err device.Stopped
stopped-is same (Ok done) is = absurd (false≢true is)
stopped-is same (Err device.Disk) is = absurd (false≢true is)
stopped-is same (Err device.Lost) is = absurd (false≢true is)
stopped-is same (Err device.Stopped) is = refl

pub returns-clause-flushes : goal.returns-clause-flushes
returns-clause-flushes g c =
    let start = g.S.Site.seen c.of-start.result.value in
    let now = g.S.Site.seen c.loop.site in
    let log = g.D.Dispatch.log c.loop.dispatch in
    let ended = g.D.Dispatch.has_ended c.args.dispatch in
    let turn = c.loop.invariant.0 in
    let IsStop : Result (Unit {0}) DeviceFault → Type 0 = λ result. result ≡ Err device.Stopped in
    subst (λ s. Flushes ended c.new.result.log (g.S.Site.seen s) (g.S.Site.seen c.new.result.site)) c.of-start.ensures
    (elim c.match-next.branch [
      | in-None w ↦ absurd (false≢true w.in-None.ensures.steps)
      | in-Some+in-Stop w ↦
          rw (c.new.ensures.log, c.new.ensures.site, c.into_log.ensures.log, w.dispatch-is, w.site-is, w.in-Stop.ensures.log)
          (runs-ended DoesAction IsStop ended ⊥ log start now turn (c.loop.invariant.4 w.in-Stop.ensures.stop))
      | in-Some+in-Work+then-eq w ↦
          let new = g.S.Site.seen w.act-result.new.site in
          rw (c.new.ensures.log, c.new.ensures.site, c.into_log.ensures.log, w.dispatch-is, w.site-is, w.done.ensures.log, w.in-Work.ensures.log)
          (runs-stopped DoesAction IsStop ended ⊥ log w.in-Work.action w.act-result.result start now new turn w.act-result.ensures.does
          (stopped-is _ w.act-result.result (sym w.eq.ensures ∙ w.if-eq.true)))
    ])
