-- One more file of a line is opened.
use Rattle.std.proofs.Common.{◌≡◌, ℕ, zero, suc, ◌+◌, ◌<◌, List, [], ◌∷◌, ◌++◌, Option, IsSomeAnd, length, map, take, get_or, add-one, subst, arith}
use Rattle.station_line.specs.OpenFiles.{AreOpenedAs}

opened_suc : {F X Y : Type 0} (opened : F → List ℕ → List ℕ → Type 0) (f : X → List ℕ) (g : Y → List ℕ) (xs : List X) (zs : List Y) (i : ℕ) (d : X) (e : Y) (ys : List (Option F)) (y : Option F) → i < length xs → i < length zs
    → AreOpenedAs opened (map f (take i xs)) (map g (take i zs)) ys → IsSomeAnd y (λ one. opened one (f (get_or xs i d)) (g (get_or zs i e)))
    → AreOpenedAs opened (map f (take (suc i) xs)) (map g (take (suc i) zs)) (ys ++ y ∷ [])
opened_suc opened f g [] zs i d e ys y inside within all here = absurd (omega (arith, inside))
opened_suc opened f g (x ∷ xs) [] i d e ys y inside within all here = absurd (omega (arith, within))
opened_suc opened f g (x ∷ xs) (z ∷ zs) zero d e [] y inside within all here = (here, tt)
opened_suc opened f g (x ∷ xs) (z ∷ zs) zero d e (y' ∷ ys) y inside within all here = absurd all
opened_suc opened f g (x ∷ xs) (z ∷ zs) (suc i) d e [] y inside within all here = absurd all
opened_suc opened f g (x ∷ xs) (z ∷ zs) (suc i) d e (y' ∷ ys) y inside within all here = (all.0, opened_suc opened f g xs zs i d e ys y (omega (arith, inside)) (omega (arith, within)) all.1 here)

pub opened_more : {F X Y : Type 0} (opened : F → List ℕ → List ℕ → Type 0) (f : X → List ℕ) (g : Y → List ℕ) (xs : List X) (zs : List Y) (i : ℕ) (item : X) (other : Y) (ys : List (Option F)) (y : Option F) → i < length xs → i < length zs
    → item ≡ get_or xs i item → other ≡ get_or zs i other → AreOpenedAs opened (map f (take i xs)) (map g (take i zs)) ys → IsSomeAnd y (λ one. opened one (f item) (g other))
    → AreOpenedAs opened (map f (take (i + 1) xs)) (map g (take (i + 1) zs)) (ys ++ y ∷ [])
opened_more {F} {X} {Y} opened f g xs zs i item other ys y inside within same alike all here =
    let P : X → Type 0 = λ v. IsSomeAnd y (λ one. opened one (f v) (g other)) in
    let Q : Y → Type 0 = λ v. IsSomeAnd y (λ one. opened one (f (get_or xs i item)) (g v)) in
    rw (add-one i) (opened_suc opened f g xs zs i item other ys y inside within all (subst Q alike (subst P same here)))
