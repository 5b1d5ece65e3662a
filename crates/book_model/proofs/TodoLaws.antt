-- The first word to do.
use Rattle.std.proofs.Common.{◌≡◌, ◌⊎◌, inl, inr, ℕ, zero, suc, ◌<◌, ◌≤◌, Bool, true, false, List, [], ◌∷◌, drop, refl, arith}
use Rattle.std.specs.Prelude.{◌==◌, Some}
use Rattle.book_model.specs.Cells.{is_any}
use Rattle.book_model.specs.Cells.{Cell}
use Rattle.book_model.specs.Cells.{cell_of}
use Rattle.book_model.specs.Pending.{values_of, to_do, first}
use Rattle.book_model.specs.Queue.{end_of}
use Rattle.book_model.proofs.EndLaws.{same_test, some-ahead, shifted-le}

pub bool_cases : (b : Bool) → (b ≡ true) ⊎ (b ≡ false)
bool_cases true = inl refl
bool_cases false = inr refl

end-tail : (at : ℕ) (n : ℕ × ℕ) (ns : List (ℕ × ℕ)) → end_of at (n ∷ ns) ≤ suc (end_of at ns)
end-tail at n ns = elim (bool_cases (n.0 == at)) [
  | inl is ↦ rw is (omega arith)
  | inr not ↦ rw not (shifted-le (end_of at ns))
]

-- what isn't named behind has its end here
end-here : (n : ℕ × ℕ) (ns : List (ℕ × ℕ)) → is_any (values_of n.0 ns) ≡ false → end_of n.0 (n ∷ ns) ≤ 1
end-here n ns none = rw (same_test n.0 n.0 refl) (few (end_of n.0 ns) (λ some. some-ahead n.0 0 ns some))
  where
    few : (e : ℕ) → (0 < e → is_any (values_of n.0 ns) ≡ true) → suc e ≤ 1
    few zero any = omega arith
    few (suc e) any = let t : is_any (values_of n.0 ns) ≡ true = any (omega arith) in absurd (cc)

-- no word whose last naming is before the place owes anything: what is to do is from there on
pub todo-skips : (cells : List Cell) (c : ℕ) (live : List (ℕ × ℕ)) → ((at : ℕ) → end_of at live ≤ c → is_any (cell_of cells at).owed ≡ false) → to_do cells live ≡ to_do cells (drop c live)
todo-skips cells zero live past = refl
todo-skips cells (suc c) [] past = refl
todo-skips cells (suc c) (n ∷ ns) past =
    let rest : to_do cells ns ≡ to_do cells (drop c ns) = todo-skips cells c ns (λ at le. past at (omega (arith, end-tail at n ns))) in
    elim (bool_cases (is_any (values_of n.0 ns))) [
      | inl again ↦ rw again rest
      | inr last ↦ let owes : is_any (cell_of cells n.0).owed ≡ false = past n.0 (omega (arith, end-here n ns last)) in rw (last, owes) rest
    ]

-- a word whose last naming is here and that owes something is the first
pub todo-first : (cells : List Cell) (n : ℕ × ℕ) (ns : List (ℕ × ℕ)) → values_of n.0 ns ≡ [] → is_any (cell_of cells n.0).owed ≡ true → first (to_do cells (n ∷ ns)) ≡ Some n
todo-first cells n ns last owes = rw (last, owes) refl
