use Rattle.std.proofs.Common.{◌≡◌, ◌<◌, length, Some, slice_get, slice_set, sym, ap, subst}
use Rattle.world_run.specs.Sides.{Sides}
use Rattle.world_run.proofs.SidesLaws.{read-at, StandsAt-hands, SidesStand-set, SidesStand-took}
use Rattle.world_run.proofs.line.WorldLine.issue.Goals as goal

pub issue-requires-clause-stands : goal.issue-requires-clause-stands
issue-requires-clause-stands c =
    let halves = c.self.inside.halves.items in
    let inside : c.args.slave < length halves = subst (λ (s : Sides). c.args.slave < length s.halves) (sym c.self.view_is) c.requires in
    let half = c.index_mut.result.now in
    let here : slice_get halves c.args.slave ≡ Some half = read-at halves c.from-at.result c.args.slave half inside c.from-at.ensures c.index_mut.ensures.value in
    c.self.invariant.each c.args.slave half here

pub invariant_of-self : goal.invariant_of-self
invariant_of-self c =
    let halves = c.self.inside.halves.items in
    let inside : c.args.slave < length halves = subst (λ (s : Sides). c.args.slave < length s.halves) (sym c.self.view_is) c.requires in
    let half = c.index_mut.result.now in
    let here : slice_get halves c.args.slave ≡ Some half = read-at halves c.from-at.result c.args.slave half inside c.from-at.ensures c.index_mut.ensures.value in
    let took = c.self.inside.took.items in
    let stands = StandsAt-hands c.args.slave c.args.takes c.args.word c.args.value half c.issue.result c.issue.new.half (c.self.invariant.each c.args.slave half here) c.issue.ensures in
    rw c.from-at.ensures (SidesStand-took (slice_set halves c.args.slave c.issue.new.half) took c.args.slave c.issue.result (SidesStand-set halves took c.args.slave c.issue.new.half c.self.invariant stands))

pub returns : goal.returns
returns c =
    let halves = c.self.inside.halves.items in
    let inside : c.args.slave < length halves = subst (λ (s : Sides). c.args.slave < length s.halves) (sym c.self.view_is) c.requires in
    let half = c.index_mut.result.now in
    let here : slice_get halves c.args.slave ≡ Some half = read-at halves c.from-at.result c.args.slave half inside c.from-at.ensures c.index_mut.ensures.value in
    record {
      half = half;
      here = subst (λ (s : Sides). slice_get s.halves c.args.slave ≡ Some half) c.self.view_is here;
      taken = c.issue.result;
      later = c.issue.new.half;
      hands = c.issue.ensures;
      is = rw c.from-at.ensures (ap (λ (s : Sides). record { halves = slice_set s.halves c.args.slave c.issue.new.half; took = slice_set s.took c.args.slave c.issue.result }) c.self.view_is);
    }
