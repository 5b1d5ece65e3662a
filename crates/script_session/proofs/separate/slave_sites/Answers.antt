use Rattle.std.proofs.Common.{◌≡◌, ◌∷◌, arith}
use Rattle.std.specs.Vec.Iter.{into_iter_items}
use Rattle.script_session.proofs.PartLaws.{sites-more}
use Rattle.station_threads.proofs.Zips.{gone-over}
use Rattle.script_session.proofs.separate.slave_sites.Goals as goal

pub loop-half-preserved : goal.loop-half-preserved
loop-half-preserved c =
    let at = c.loop-half in
    let half = c.in-Some.half in
    let steps : into_iter_items at.half-iterator ≡ half ∷ into_iter_items c.next.new.self = c.in-Some.ensures.steps.0 in (
      gone-over at.yielded half (into_iter_items at.half-iterator) (into_iter_items c.next.new.self) (into_iter_items c.into_iter-half-iterator.result) steps at.invariant.0,
      rw c.in_ok-push.ensures.items (sites-more at.yielded at.sites.items half c.in_ok-site.site c.len-slave.result at.invariant.1 (omega (arith, at.sites.ok.0, c.len-slave.ensures)) c.in_ok-site.ensures),
    )
