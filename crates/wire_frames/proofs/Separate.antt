-- Station addresses that are apart.
use Rattle.std.proofs.Common.{◌≡◌, ◌≢◌, ◌⊎◌, inl, inr, ℕ, ◌+◌, ◌<◌, List, slice_index, subst, sym, arith}
use Rattle.wire_frames.specs.Sending.{AreSeparate}

pub separate_none : (stations : List ℕ) → AreSeparate stations 0
separate_none stations = record {
  given = λ k near. absurd (omega (arith, near));
  separate = λ j k less near. absurd (omega (arith, near));
}

-- one more slave
pub separate_more : (stations : List ℕ) (slaves : ℕ) → AreSeparate stations slaves → slice_index stations slaves ≢ 0
    → ((j : ℕ) → j < slaves → slice_index stations j ≢ slice_index stations slaves) → AreSeparate stations (slaves + 1)
separate_more stations slaves so given separate = record {
  given = λ k near. more (λ (n : ℕ). slice_index stations n ≢ 0) k (sides k near) (so.given k) given;
  separate = λ j k less near. more (λ (n : ℕ). j < n → slice_index stations j ≢ slice_index stations n) k (sides k near)
      (λ nearer before. so.separate j k before nearer) (separate j) less;
}
  where
    sides : (k : ℕ) → k < slaves + 1 → (k < slaves) ⊎ (k ≡ slaves)
    sides k near = grind arith

    more : (P : ℕ → Type 0) (k : ℕ) → (k < slaves) ⊎ (k ≡ slaves) → (k < slaves → P k) → P slaves → P k
    more P k (inl near) before last = before near
    more P k (inr is) before last = subst P (sym is) last
