use Rattle.std.proofs.Common.{◌≡◌, ◌∷◌, ◌∙◌, [], ap, arith, length, refl}
use Rattle.std.specs.Vec.Iter.{into_iter_items}
use Rattle.std.proofs.lemmas.List.{length-append}
use Rattle.script_session.proofs.ReportedLaws.{room-left}
use Rattle.station_threads.proofs.Zips.{gone-over}
use Rattle.script_session.proofs.together.slaves_at.Goals as goal

pub loop-end-init : goal.loop-end-init
loop-end-init g c = record {
  over = refl;
  left = room-left g.D.Device.follows g.D.Device.well g.D.Lends.tells c.args.room c.requires.room;
  count = ap length c.requires.room.1;
  reserved = refl;
}

pub with_slave-left-requires : goal.with_slave-left-requires
with_slave-left-requires g c =
    let at = c.loop-end in
    let over = at.invariant.over in
    let steps : into_iter_items at.end-iterator ≡ c.in-Some.end ∷ into_iter_items c.next.new.self = c.in-Some.ensures.steps.0 in
    let here = length-append at.yielded (into_iter_items at.end-iterator) in
    omega (arith, here, ap length over, ap length steps, at.invariant.count, at.invariant.reserved, c.requires.reserved)

pub loop-end-preserved : goal.loop-end-preserved
loop-end-preserved g c =
    let at = c.loop-end in
    let end = c.in-Some.end in
    let steps : into_iter_items at.end-iterator ≡ end ∷ into_iter_items c.next.new.self = c.in-Some.ensures.steps.0 in
    record {
      over = gone-over at.yielded end (into_iter_items at.end-iterator) (into_iter_items c.next.new.self) (into_iter_items c.into_iter-end-iterator.result) steps at.invariant.over;
      left = c.with_slave-left.ensures.left at.yielded at.invariant.left;
      count = (let more = length-append at.yielded (end ∷ []) in omega (arith, more, c.with_slave-left.ensures.count, at.invariant.count));
      reserved = c.with_slave-left.ensures.reserved ∙ at.invariant.reserved;
    }
