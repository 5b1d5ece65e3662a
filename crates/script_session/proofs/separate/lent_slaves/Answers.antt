use Rattle.std.proofs.Common.{◌≡◌, ◌∷◌, ◌++◌, ◌∙◌, [], ap, arith, length, refl}
use Rattle.std.specs.Vec.Iter.{into_iter_items}
use Rattle.std.proofs.lemmas.List.{length-append}
use Rattle.station_threads.proofs.Zips.{gone-over}
use Rattle.script_session.proofs.separate.lent_slaves.Goals as goal

pub loop-site-init : goal.loop-site-init
loop-site-init g c = record { over = refl; lent = c.requires.empty; reserved = refl }

pub push_reserved-requires : goal.push_reserved-requires
push_reserved-requires g c =
    let at = c.loop-site in
    let steps : into_iter_items at.site-iterator ≡ c.in-Some.site ∷ into_iter_items c.next.new.self = c.in-Some.ensures.steps.0 in
    let here = length-append at.yielded (into_iter_items at.site-iterator) in
    omega (arith, here, ap length at.invariant.over, ap length steps, ap length at.invariant.lent, at.invariant.reserved, c.requires.room)

pub loop-site-preserved : goal.loop-site-preserved
loop-site-preserved g c =
    let at = c.loop-site in
    let site = c.in-Some.site in
    let steps : into_iter_items at.site-iterator ≡ site ∷ into_iter_items c.next.new.self = c.in-Some.ensures.steps.0 in
    record {
      over = gone-over at.yielded site (into_iter_items at.site-iterator) (into_iter_items c.next.new.self) (into_iter_items c.into_iter-site-iterator.result) steps at.invariant.over;
      lent = rw c.push_reserved.ensures.items (rw c.with_device.ensures (ap (λ l. l ++ site ∷ []) at.invariant.lent));
      reserved = c.push_reserved.ensures.capacity ∙ at.invariant.reserved;
    }
