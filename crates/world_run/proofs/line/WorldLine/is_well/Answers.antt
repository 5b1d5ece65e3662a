use Rattle.std.proofs.Common.{◌≡◌, ◌<◌, length, Some, slice_get, sym, subst}
use Rattle.world_run.specs.Sides.{Sides}
use Rattle.world_run.proofs.SidesLaws.{read-at, well-at}
use Rattle.world_run.specs.Sides.{IsWellAt}
use Rattle.std.specs.Prelude.{◌↔◌, IsTrue}
use Rattle.world_run.proofs.line.WorldLine.is_well.Goals as goal

pub is_well-requires-clause-stands : goal.is_well-requires-clause-stands
is_well-requires-clause-stands c =
    let halves = c.self.inside.halves.items in
    let inside : c.args.slave < length halves = subst (λ (s : Sides). c.args.slave < length s.halves) (sym c.self.view_is) c.requires in
    let half = c.index_mut.result.now in
    let here : slice_get halves c.args.slave ≡ Some half = read-at halves c.from.result c.args.slave half inside c.from.ensures c.index_mut.ensures.value in
    c.self.invariant.each c.args.slave half here

pub returns-clause-well : goal.returns-clause-well
returns-clause-well c =
    let halves = c.self.inside.halves.items in
    let inside : c.args.slave < length halves = subst (λ (s : Sides). c.args.slave < length s.halves) (sym c.self.view_is) c.requires in
    let half = c.index_mut.result.now in
    let here : slice_get halves c.args.slave ≡ Some half = read-at halves c.from.result c.args.slave half inside c.from.ensures c.index_mut.ensures.value in
    subst (λ (s : Sides). IsTrue c.is_well.result ↔ IsWellAt s.halves c.args.slave) c.self.view_is (well-at halves c.args.slave half c.is_well.result here c.is_well.ensures.well)
