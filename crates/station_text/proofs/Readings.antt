-- What the fault of a reader means for the reader that passes it on.
use Rattle.std.proofs.Common.{◌≡◌, ◌⊎◌, ℕ, zero, suc, ◌<◌, List, [], ◌∷◌, length, map, get_or, Option, Some, None, Result, Ok, Err, inl, inr, refl, ap, subst, ◌∙◌, arith}
use Rattle.std.specs.List.{AllZip}
use Rattle.std.specs.Prelude.{IsErrAnd, IsSomeAnd}
use Rattle.station_text.specs.Reading.{Reads}

-- a fault that is passed on as it is
pub passed_on : {V X Y F : Type 0} (memory : F) (view : V → X) (P : Y → Type 0) (Q : X → Type 0) (result : Result V F) (fault : F) → (fault ≡ memory) ⊎ ((y : Y) → ¬ P y) → IsErrAnd result (λ error. error ≡ fault)
    → (((y : Y) → ¬ P y) → (x : X) → ¬ Q x) → Reads memory view Q result
passed_on memory view P Q (Ok value) fault read gave none = absurd gave
passed_on memory view P Q (Err error) fault (inl is) gave none = inl (gave ∙ is)
passed_on memory view P Q (Err error) fault (inr never) gave none = inr (none never)

-- a fault that becomes one of another type
pub turned_into : {V X Y E F : Type 0} (memory : F) (other : E) (view : V → X) (P : Y → Type 0) (Q : X → Type 0) (result : Result V F) (fault : E) → (fault ≡ other) ⊎ ((y : Y) → ¬ P y) → IsErrAnd result (λ error. fault ≡ other → error ≡ memory)
    → (((y : Y) → ¬ P y) → (x : X) → ¬ Q x) → Reads memory view Q result
turned_into memory other view P Q (Ok value) fault read gave none = absurd gave
turned_into memory other view P Q (Err error) fault (inl is) gave none = inl (gave is)
turned_into memory other view P Q (Err error) fault (inr never) gave none = inr (none never)

-- an answer for one relation is an answer for an equivalent one
pub said_as : {V X F : Type 0} (memory : F) (view : V → X) (P Q : X → Type 0) (result : Result V F) → Reads memory view P result → ((x : X) → P x → Q x) → ((x : X) → Q x → P x) → Reads memory view Q result
said_as memory view P Q (Ok value) read there back = there (view value) read
said_as memory view P Q (Err fault) (inl is) there back = inl is
said_as memory view P Q (Err fault) (inr never) there back = inr (λ x here. never x (back x here))

-- where no value is found, none has a property
pub none_found : {X : Type 0} (found : Option X) (P : X → Type 0) → ((x : X) → ¬ (found ≡ Some x)) → IsSomeAnd found P → ⊥
none_found None P never here = here
none_found (Some x) P never here = never x refl

-- lists whose items correspond one by one have the same length
pub same_count : {A B X : Type 0} (R : A → B → Type 0) (f : X → A) (xs : List X) (ys : List B) → AllZip R (map f xs) ys → length ys ≡ length xs
same_count R f [] [] all = refl
same_count R f [] (y ∷ ys) all = absurd all
same_count R f (x ∷ xs) [] all = absurd all
same_count R f (x ∷ xs) (y ∷ ys) all = ap suc (same_count R f xs ys all.1)

none_at : {A B X : Type 0} (R : A → B → Type 0) (f : X → A) (xs : List X) (i : ℕ) (d : X) → i < length xs → ((y : B) → ¬ R (f (get_or xs i d)) y) → (ys : List B) → AllZip R (map f xs) ys → ⊥
none_at R f [] i d inside none ys all = absurd (omega (arith, inside))
none_at R f (x ∷ xs) i d inside none [] all = all
none_at R f (x ∷ xs) zero d inside none (y ∷ ys) all = none y all.0
none_at R f (x ∷ xs) (suc i) d inside none (y ∷ ys) all = none_at R f xs i d (omega (arith, inside)) none ys all.1

-- if nothing corresponds to one item, no list corresponds to all items
pub none_for_item : {A B X : Type 0} (R : A → B → Type 0) (f : X → A) (xs : List X) (i : ℕ) (item : X) → i < length xs → item ≡ get_or xs i item → ((y : B) → ¬ R (f item) y) → (ys : List B) → ¬ AllZip R (map f xs) ys
none_for_item {A} {B} {X} R f xs i item inside is none ys =
    let P : X → Type 0 = λ v. (y : B) → ¬ R (f v) y in
    none_at R f xs i item inside (subst P is none) ys
