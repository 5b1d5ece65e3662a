-- What holds of each element, of some element, or of elements side by side, when lists are put one behind the other.
use Rattle.std.proofs.Common.{List, [], ◌∷◌, ◌++◌, Any, inl, inr}
use Rattle.std.specs.List.{AllByRecursion, AllZip}

pub all_append : {A : Type 0} (P : A → Type 0) (xs ys : List A) → AllByRecursion P xs → AllByRecursion P ys → AllByRecursion P (xs ++ ys)
all_append P [] ys all more = more
all_append P (x ∷ xs) ys all more = (all.0, all_append P xs ys all.1 more)

pub all_snoc : {A : Type 0} (P : A → Type 0) (xs : List A) (x : A) → AllByRecursion P xs → P x → AllByRecursion P (xs ++ x ∷ [])
all_snoc P [] x all here = (here, tt)
all_snoc P (a ∷ xs) x all here = (all.0, all_snoc P xs x all.1 here)

pub all_after : {A : Type 0} (P : A → Type 0) (xs ys : List A) → AllByRecursion P (xs ++ ys) → AllByRecursion P ys
all_after P [] ys all = all
all_after P (x ∷ xs) ys all = all_after P xs ys all.1

pub zip_snoc : {A B : Type 0} (R : A → B → Type 0) (xs : List A) (ys : List B) (x : A) (y : B) → AllZip R xs ys → R x y → AllZip R (xs ++ x ∷ []) (ys ++ y ∷ [])
zip_snoc R [] [] x y all here = (here, tt)
zip_snoc R [] (b ∷ ys) x y all here = absurd all
zip_snoc R (a ∷ xs) [] x y all here = absurd all
zip_snoc R (a ∷ xs) (b ∷ ys) x y all here = (all.0, zip_snoc R xs ys x y all.1 here)
