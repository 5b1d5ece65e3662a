-- Two lists whose items are related place by place.
use Rattle.std.specs.Prelude.{ℕ, suc, List, [], ◌∷◌}

-- Both lists have the same length, and `Is` holds at each place, counted from this number on, for the two items there.
abbrev pub AllPlaced : {A B : Type 0} → (ℕ → A → B → Type 0) → ℕ → List A → List B → Type 0
AllPlaced Is place [] [] = Unit {0}
AllPlaced Is place (x ∷ xs) (y ∷ ys) = Is place x y × AllPlaced Is (suc place) xs ys
AllPlaced Is place xs ys = ⊥
