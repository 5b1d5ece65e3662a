-- Two lists whose members correspond one by one, the second made from the first by a loop.
use Rattle.std.proofs.Common.{◌≡◌, ℕ, zero, suc, ◌+◌, ◌<◌, List, [], ◌∷◌, ◌++◌, length, map, take, get_or, add-one, arith, subst}
use Rattle.std.specs.List.{AllZip}

AllZip-take-suc : {A B X : Type 0} (R : A → B → Type 0) (f : X → A) (xs : List X) (i : ℕ) (d : X) (ys : List B) (y : B) → i < length xs → AllZip R (map f (take i xs)) ys → R (f (get_or xs i d)) y → AllZip R (map f (take (suc i) xs)) (ys ++ y ∷ [])
AllZip-take-suc R f [] i d ys y inside all here = absurd (omega (arith, inside))
AllZip-take-suc R f (x ∷ xs) zero d [] y inside all here = (here, tt)
AllZip-take-suc R f (x ∷ xs) zero d (y' ∷ ys) y inside all here = absurd all
AllZip-take-suc R f (x ∷ xs) (suc i) d [] y inside all here = absurd all
AllZip-take-suc R f (x ∷ xs) (suc i) d (y' ∷ ys) y inside all here = (all.0, AllZip-take-suc R f xs i d ys y (omega (arith, inside)) all.1 here)

pub AllZip-take-step : {A B X : Type 0} (R : A → B → Type 0) (f : X → A) (xs : List X) (i : ℕ) (d : X) (ys : List B) (y : B) → i < length xs → AllZip R (map f (take i xs)) ys → R (f (get_or xs i d)) y → AllZip R (map f (take (i + 1) xs)) (ys ++ y ∷ [])
AllZip-take-step R f xs i d ys y inside all here = rw (add-one i) (AllZip-take-suc R f xs i d ys y inside all here)

-- the step above, for an item that was read from the list
pub AllZip-take-item : {A B X : Type 0} (R : A → B → Type 0) (f : X → A) (xs : List X) (i : ℕ) (item : X) (ys : List B) (y : B) → i < length xs → item ≡ get_or xs i item → AllZip R (map f (take i xs)) ys → R (f item) y → AllZip R (map f (take (i + 1) xs)) (ys ++ y ∷ [])
AllZip-take-item {A} {B} {X} R f xs i item ys y inside same all here =
    let P : X → Type 0 = λ v. R (f v) y in
    AllZip-take-step R f xs i item ys y inside all (subst P same here)
