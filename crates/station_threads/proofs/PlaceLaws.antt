-- Lists whose items are related place by place.
use Rattle.std.proofs.Common.{◌≡◌, ◌+◌, ℕ, suc, List, [], ◌∷◌, ◌++◌, length, Some, refl, subst, arith}
use Rattle.std.specs.List.{AllZip}
use Rattle.std.specs.Prelude.{slice_get}
use Rattle.station_threads.specs.Places.{AllPlaced}

module _ {A B : Type 0} where
  -- one more at the end of each
  pub placed-more : (Is : ℕ → A → B → Type 0) (place : ℕ) (xs : List A) (ys : List B) (x : A) (y : B)
      → AllPlaced Is place xs ys → Is (place + length xs) x y → AllPlaced Is place (xs ++ x ∷ []) (ys ++ y ∷ [])
  placed-more Is place [] [] x y all one = (subst (λ n. Is n x y) (omega arith) one, tt)
  placed-more Is place [] (b ∷ ys) x y all one = absurd all
  placed-more Is place (a ∷ xs) [] x y all one = absurd all
  placed-more Is place (a ∷ xs) (b ∷ ys) x y all one = (all.0, placed-more Is (suc place) xs ys x y all.1 (subst (λ n. Is n x y) (omega arith) one))

  -- the lists are equally long
  pub placed-long : (Is : ℕ → A → B → Type 0) (place : ℕ) (xs : List A) (ys : List B) → AllPlaced Is place xs ys → length ys ≡ length xs
  placed-long Is place [] [] all = refl
  placed-long Is place [] (b ∷ ys) all = absurd all
  placed-long Is place (a ∷ xs) [] all = absurd all
  placed-long Is place (a ∷ xs) (b ∷ ys) all = let rest = placed-long Is (suc place) xs ys all.1 in omega arith

-- relations that are joined by a third list
pub placed-through : {A B C : Type 0} (First : ℕ → A → B → Type 0) (Then : B → C → Type 0) (Both : ℕ → A → C → Type 0)
    → ((n : ℕ) (a : A) (b : B) (c : C) → First n a b → Then b c → Both n a c)
    → (place : ℕ) (xs : List A) (ys : List B) (zs : List C) → AllPlaced First place xs ys → AllZip Then ys zs → AllPlaced Both place xs zs
placed-through First Then Both goes place [] [] [] first last = tt
placed-through First Then Both goes place [] [] (c ∷ zs) first last = absurd last
placed-through First Then Both goes place [] (b ∷ ys) zs first last = absurd first
placed-through First Then Both goes place (a ∷ xs) [] zs first last = absurd first
placed-through First Then Both goes place (a ∷ xs) (b ∷ ys) [] first last = absurd last
placed-through First Then Both goes place (a ∷ xs) (b ∷ ys) (c ∷ zs) first last =
    (goes place a b c first.0 last.0, placed-through First Then Both goes (suc place) xs ys zs first.1 last.1)

-- the next item stands at the place behind these
pub stands-after : {A : Type 0} (xs : List A) (x : A) (rest : List A) → slice_get (xs ++ x ∷ rest) (length xs) ≡ Some x
stands-after [] x rest = refl
stands-after (y ∷ xs) x rest = stands-after xs x rest

pub place-of : {A : Type 0} (all done rest : List A) (x : A) → done ++ x ∷ rest ≡ all → slice_get all (length done) ≡ Some x
place-of {A} all done rest x is = subst (λ (l : List A). slice_get l (length done) ≡ Some x) is (stands-after done x rest)
