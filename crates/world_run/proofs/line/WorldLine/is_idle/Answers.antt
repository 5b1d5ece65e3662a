use Rattle.std.proofs.Common.{◌≡◌, ◌<◌, length, Some, slice_get, sym, subst}
use Rattle.world_run.specs.Sides.{Sides}
use Rattle.world_run.proofs.SidesLaws.{read-at, idle-at}
use Rattle.world_run.specs.Sides.{IsIdleAt}
use Rattle.std.specs.Prelude.{◌↔◌, IsTrue}
use Rattle.world_run.proofs.line.WorldLine.is_idle.Goals as goal

pub is_idle-requires : goal.is_idle-requires
is_idle-requires c =
    let halves = c.self.inside.halves.items in
    let inside : c.args.slave < length halves = subst (λ (s : Sides). c.args.slave < length s.halves) (sym c.self.view_is) c.requires in
    let half = c.index.result.now in
    let here : slice_get halves c.args.slave ≡ Some half = read-at halves c.from.result c.args.slave half inside c.from.ensures c.index.ensures in
    c.self.invariant.each c.args.slave half here

pub returns : goal.returns
returns c =
    let halves = c.self.inside.halves.items in
    let inside : c.args.slave < length halves = subst (λ (s : Sides). c.args.slave < length s.halves) (sym c.self.view_is) c.requires in
    let half = c.index.result.now in
    let here : slice_get halves c.args.slave ≡ Some half = read-at halves c.from.result c.args.slave half inside c.from.ensures c.index.ensures in
    subst (λ (s : Sides). IsTrue c.is_idle.result ↔ IsIdleAt s.halves c.args.slave) c.self.view_is (idle-at halves c.args.slave half c.is_idle.result here c.is_idle.ensures)
