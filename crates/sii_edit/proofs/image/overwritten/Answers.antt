use Rattle.std.proofs.Common.{◌≡◌, ℕ, zero, suc, ◌<◌, ◌≤◌, List, [], ◌∷◌, ◌++◌, length, take, drop, set, get_or, refl, ap, ◌∙◌, add-one, arith}
use Rattle.sii_edit.proofs.image.overwritten.Goals as goal

-- one word more
over_more : (front words : List ℕ) (at d : ℕ) → at < length front → length front ≤ length words
    → set (take at front ++ drop at words) at (get_or front at d) ≡ take (suc at) front ++ drop (suc at) words
over_more [] words at d there most = absurd (omega (arith, there))
over_more (x ∷ xs) [] at d there most = absurd (omega (arith, most))
over_more (x ∷ xs) (w ∷ ws) zero d there most = refl
over_more (x ∷ xs) (w ∷ ws) (suc at) d there most = ap (λ (vs : List ℕ). x ∷ vs) (over_more xs ws at d (omega (arith, there)) (omega (arith, most)))

pub loop-at-preserved : goal.loop-at-preserved
loop-at-preserved c =
    let at = c.loop-at.at in
    let front = c.args.front.now in
    rw (add-one at)
    (c.set.ensures ∙ ap (λ (words : List ℕ). set words at (get_or front at 0)) c.loop-at.invariant
    ∙ over_more front c.args.words at 0 c.loop-at-test.true c.requires)
