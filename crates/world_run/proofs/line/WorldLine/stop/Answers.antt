use Rattle.std.proofs.Common.{◌≡◌, List, sym, subst, arith}
use Rattle.std.proofs.lemmas.List.{with_items_is}
use Rattle.std.specs.Vec.{with_items}
use Rattle.esc_model.specs.SlaveHalf.{SlaveHalf}
use Rattle.world_run.specs.Left.{TornBy}
use Rattle.world_run.specs.Sides.{SidesStand}
use Rattle.world_run.proofs.SidesLaws.{SidesStand-torn}
use Rattle.world_run.proofs.line.WorldLine.stop.Goals as goal

pub invariant_of-self : goal.invariant_of-self
invariant_of-self c =
    let halves = c.self.inside.halves.items in
    let new = c.tear_all.new.halves in
    let torn : TornBy c.args.choice.now halves new = rw c.deref_mut.ensures.value at c.tear_all.ensures in
    let back : (with_items c.self.inside.halves new).items ≡ new = with_items_is c.self.inside.halves new (let e = torn.count in omega (arith, c.self.inside.halves.ok.0)) in
    subst (λ (h : List SlaveHalf). SidesStand h c.self.inside.took.items) (sym back) (SidesStand-torn c.args.choice.now halves new c.self.inside.took.items c.self.invariant torn)
