use Rattle.std.proofs.Common.{◌≡◌, ◌<◌, length, Some, slice_get, slice_set, sym, ap, subst}
use Rattle.esc_model.specs.SlaveHalf.{in_flight}
use Rattle.world_run.specs.Sides.{Sides}
use Rattle.world_run.proofs.SidesLaws.{read-at, StandsAt-rests, SidesStand-set}
use Rattle.world_run.specs.Left.{ended_half}
use Rattle.world_run.proofs.line.WorldLine.rest.Goals as goal

pub invariant_of-self : goal.invariant_of-self
invariant_of-self c =
    let halves = c.self.inside.halves.items in
    let inside : c.args.slave < length halves = subst (λ (s : Sides). c.args.slave < length s.halves) (sym c.self.view_is) c.requires in
    let half = c.index_mut.result.now in
    let here : slice_get halves c.args.slave ≡ Some half = read-at halves c.from.result c.args.slave half inside c.from.ensures c.index_mut.ensures.value in
    let stands = StandsAt-rests c.args.slave half c.end_word.new.half (c.self.invariant.each c.args.slave half here) c.end_word.ensures.rests in
    rw c.from.ensures (SidesStand-set halves c.self.inside.took.items c.args.slave c.end_word.new.half c.self.invariant stands)

pub returns : goal.returns
returns c =
    let halves = c.self.inside.halves.items in
    let inside : c.args.slave < length halves = subst (λ (s : Sides). c.args.slave < length s.halves) (sym c.self.view_is) c.requires in
    let half = c.index_mut.result.now in
    let here : slice_get halves c.args.slave ≡ Some half = read-at halves c.from.result c.args.slave half inside c.from.ensures c.index_mut.ensures.value in
    record {
      half = half;
      here = subst (λ (s : Sides). slice_get s.halves c.args.slave ≡ Some half) c.self.view_is here;
      is = rw (c.from.ensures, c.end_word.ensures.exact) (ap (λ (s : Sides). record { halves = slice_set s.halves c.args.slave (ended_half c.args.end (in_flight half.activity) half); took = s.took }) c.self.view_is);
    }
