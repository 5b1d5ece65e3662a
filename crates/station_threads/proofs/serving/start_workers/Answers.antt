use Rattle.std.proofs.Common.{◌≡◌, ◌∷◌, ◌∙◌, ℕ, length, ap, sym, subst, arith}
use Rattle.std.specs.Vec.Iter.{into_iter_items}
use Rattle.site_core.specs.Line.{Owns}
use Rattle.station_threads.specs.Starting.{IsWorkerOf}
use Rattle.station_threads.proofs.PlaceLaws.{place-of}
use Rattle.station_threads.proofs.Workers.{workers-long, workers-more}
use Rattle.station_threads.proofs.Zips.{gone-over}
use Rattle.station_threads.proofs.serving.start_workers.Goals as goal

pub overflow_cast-slave : goal.overflow_cast-slave
overflow_cast-slave g c =
    let at = c.loop-site in
    let site = c.in-Some.site in
    let steps : into_iter_items at.site-iterator ≡ site ∷ into_iter_items c.next.new.self = c.in-Some.ensures.steps.0 in
    let entire = rw steps at (at.invariant.0 ∙ c.into_iter-site-iterator.ensures.into_iter_gives.0) in
    let owned = c.requires.owned (length at.yielded) site (place-of _ at.yielded _ site entire) in
    let long = workers-long at.yielded at.workers.items at.invariant.3 in
    omega (arith, owned.1, at.workers.ok.0, c.len-slave.ensures)

pub start_worker-worker-requires-clause-owned : goal.start_worker-worker-requires-clause-owned
start_worker-worker-requires-clause-owned g c κs lives =
    let at = c.loop-site in
    let site = c.in-Some.site in
    let steps : into_iter_items at.site-iterator ≡ site ∷ into_iter_items c.next.new.self = c.in-Some.ensures.steps.0 in
    let entire = rw steps at (at.invariant.0 ∙ c.into_iter-site-iterator.ensures.into_iter_gives.0) in
    let owned = c.requires.owned (length at.yielded) site (place-of _ at.yielded _ site entire) in
    let long = workers-long at.yielded at.workers.items at.invariant.3 in
    let here : c.len-slave.result ≡ length at.yielded = omega (arith, at.workers.ok.0, c.len-slave.ensures) in
    subst (λ (n : ℕ). Owns (g.S.Site.line site) n) (sym here) owned

pub loop-site-preserved : goal.loop-site-preserved
loop-site-preserved g c =
    let at = c.loop-site in
    let site = c.in-Some.site in
    let worker = c.start_worker-worker.result in
    let steps : into_iter_items at.site-iterator ≡ site ∷ into_iter_items c.next.new.self = c.in-Some.ensures.steps.0 in
    let gone = c.in-Some.ensures.steps.1 in
    let short = ap length steps in
    let was = at.invariant.1 in
    let room = at.invariant.2 in
    let long = workers-long at.yielded at.workers.items at.invariant.3 in
    let here : c.len-slave.result ≡ length at.yielded = omega (arith, at.workers.ok.0, c.len-slave.ensures) in
    let pushed = c.push_reserved.ensures.len in
    let kept = c.push_reserved.ensures.capacity in (
      gone-over at.yielded site (into_iter_items at.site-iterator) (into_iter_items c.next.new.self) (into_iter_items c.into_iter-site-iterator.result) steps at.invariant.0,
      omega arith,
      omega arith,
      rw c.push_reserved.ensures.items (workers-more at.yielded at.workers.items site worker at.invariant.3 (subst (λ (n : ℕ). IsWorkerOf n site worker) here c.start_worker-worker.ensures)),
    )
