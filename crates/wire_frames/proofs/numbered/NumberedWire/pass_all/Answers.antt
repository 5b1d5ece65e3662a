use Rattle.std.proofs.Common.{◌≡◌, ℕ, refl, sym, subst}
use Rattle.std.specs.Prelude.{is_some}
use Rattle.wire_frames.specs.Out.{numbered}
use Rattle.wire_frames.proofs.Out.{goes_as}
use Rattle.wire_frames.proofs.numbered.NumberedWire.pass_all.Goals as goal

pub returns-clause-out : goal.returns-clause-out
returns-clause-out g c =
    goes_as g.W.Wire.takes c.in_ok-numbered.numbered (numbered c.args.sent c.carried.new.self.number) c.args.self.now.out
    c.numbered_all.new.self.out c.carried.new.self.out (is_some c.carried.result) (is_some c.carried.result)
    (subst (λ (n : ℕ). c.in_ok-numbered.numbered ≡ numbered c.args.sent n) (sym c.carried.ensures.number) c.in_ok-numbered.ensures.numbered)
    c.numbered_all.ensures.out refl c.carried.ensures.out
