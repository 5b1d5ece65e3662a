-- Whether a datagram is sent again.
use Rattle.std.proofs.Common.{◌≡◌, ◌≢◌, ℕ, zero, suc, ◌-◌, refl, ap, arith}
use Rattle.rom_steps.specs.declared.step.Step.{Step}
use Rattle.rom_steps.specs.After.{again}

pub again_none : (over : Step) (same : ℕ → Step) (more : ℕ) → more ≡ 0 → over ≡ again over same more
again_none over same zero is = refl
again_none over same (suc more) is = absurd (omega arith)

pub again_more : (over : Step) (same : ℕ → Step) (more : ℕ) → more ≢ 0 → same (more - 1) ≡ again over same more
again_more over same zero some = absurd (some refl)
again_more over same (suc more) some = ap same (omega arith)
