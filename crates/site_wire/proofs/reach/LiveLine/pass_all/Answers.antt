use Rattle.std.proofs.Common.{◌≡◌, false, None, Some, is_some, refl, ap, subst}
use Rattle.wire_frames.specs.Out.{LooksAround}
use Rattle.wire_frames.specs.declared.stations.Stations.{Stations}
use Rattle.site_wire.proofs.Passing.{none_of, all_back, all_lost}
use Rattle.site_wire.proofs.reach.LiveLine.pass_all.Goals as goal

pub returns-in-Some-clause-out : goal.returns-in-Some-clause-out
returns-in-Some-clause-out g c =
    let runs : is_some c.args.self.now.reason ≡ false = cc in
    all_back g.W.Wire.gives g.W.Wire.takes c.args.self.now (record c.args.self.now { wire = c.pass_all.new.self }) c.args.frame c.pass_all.new.self.number
    c.in-Some.carried (Some c.in-Some.carried) (is_some c.pass_all.result) runs (ap is_some c.in-Some.is) c.pass_all.ensures.out
    c.in-Some.ensures.came refl refl

pub returns-in-None-clause-out : goal.returns-in-None-clause-out
returns-in-None-clause-out g c =
    let runs : is_some c.args.self.now.reason ≡ false = cc in
    let none = none_of c.args.self.now.reason runs in
    let about = c.args.about in
    all_lost g.W.Wire.gives g.W.Wire.takes c.args.self.now c.stop.new.self c.args.frame c.pass_all.new.self.number c.pass_all.new.self.out about.0 None
    (is_some c.pass_all.result) runs (ap is_some c.in-None.is) c.pass_all.ensures.out
    (subst (λ (s : Stations). LooksAround g.W.Wire.takes s.by_slave about.0 c.pass_all.new.self.out c.stop.new.self.wire.out) c.pass_all.ensures.same
    (c.stop.ensures.looks none)) refl (c.stop.ensures.reason none)
