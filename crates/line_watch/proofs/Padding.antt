-- The zeros after a short frame.
use Rattle.std.proofs.Common.{◌≡◌, ◌∙◌, ℕ, zero, suc, ◌-◌, ◌≤◌, List, [], ◌∷◌, take, refl, ap}
use Rattle.std.specs.List.{repeat}
use native.Mathlib.Omega.{arith}

take-zeros : (n m : ℕ) → n ≤ m → take {A = ℕ} n (repeat m (0 ∷ [])) ≡ repeat {A = ℕ} n (0 ∷ [])
take-zeros zero m le = refl
take-zeros (suc n) zero le = let bad : ⊥ = omega (arith, le) in absurd bad
take-zeros (suc n) (suc m) le = let lower : n ≤ m = omega (arith, le) in ap (λ (rest : List ℕ). 0 ∷ rest) (take-zeros n m lower)

pub zeros-of : (count taken : ℕ) → taken ≡ 60 - count → take {A = ℕ} taken (repeat 60 (0 ∷ [])) ≡ repeat {A = ℕ} (60 - count) (0 ∷ [])
zeros-of count taken is =
    let within : 60 - count ≤ 60 = omega arith in
    ap (λ (m : ℕ). take {A = ℕ} m (repeat 60 (0 ∷ []))) is ∙ take-zeros (60 - count) 60 within
