use Rattle.std.proofs.Common.{◌≡◌, ◌∷◌, length, ap, arith}
use Rattle.std.specs.Vec.Iter.{into_iter_items}
use Rattle.station_threads.proofs.Workers.{ends-more}
use Rattle.station_threads.proofs.Zips.{gone-over}
use Rattle.station_threads.proofs.serving.join_workers.Goals as goal

pub loop-worker-preserved : goal.loop-worker-preserved
loop-worker-preserved g c =
    let at = c.loop-worker in
    let worker = c.in-Some.worker in
    let steps : into_iter_items at.worker-iterator ≡ worker ∷ into_iter_items c.next.new.self = c.in-Some.ensures.steps.0 in
    let gone = c.in-Some.ensures.steps.1 in
    let short = ap length steps in
    let was = at.invariant.1 in
    let room = at.invariant.2 in
    let pushed = c.push_reserved.ensures.len in
    let kept = c.push_reserved.ensures.capacity in (
      gone-over at.yielded worker (into_iter_items at.worker-iterator) (into_iter_items c.next.new.self) (into_iter_items c.into_iter-worker-iterator.result) steps at.invariant.0,
      omega arith,
      omega arith,
      rw c.push_reserved.ensures.items (ends-more at.yielded at.ends.items worker c.join.result at.invariant.3 c.join.ensures),
    )
