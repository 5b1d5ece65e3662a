-- Lists of categories, judged one by one.
use Rattle.std.proofs.Common.{◌≡◌, ◌↔◌, ℕ, zero, suc, ◌+◌, ◌<◌, Bool, false, IsTrue, List, [], ◌∷◌, length, take, get_or, subst, sym, arith}
use Rattle.std.specs.List.{All}
use Rattle.std.proofs.lemmas.List.{take_more}
use Rattle.std.proofs.lemmas.List.Elements.{All-append, All-from_get_or}
use Rattle.station_listing.specs.declared.listing.ListedCategory.{ListedCategory}
use Rattle.sii_bytes.specs.Validating.{IsFirstMalformed}

one : {X : Type 0} (P : X → Type 0) (x : X) → P x → (k : ℕ) → k < length (x ∷ []) → P (get_or (x ∷ []) k x)
one P x given zero within = given
one P x given (suc k) within = absurd (omega arith)

-- one item more
pub all_more : {X : Type 0} (P : X → Type 0) (xs : List X) (i : ℕ) (d : X) → i < length xs → All P (take i xs) → P (get_or xs i d) → All P (take (i + 1) xs)
all_more {X} P xs i d within so given =
    subst (λ (ys : List X). All P ys) (sym (take_more xs i d within))
    (All-append P (take i xs) (get_or xs i d ∷ []) so (All-from_get_or P (get_or xs i d ∷ []) (get_or xs i d) (one P (get_or xs i d) given)))

-- a test that failed
pub not_so : {r : Bool} {P : Type 0} → (IsTrue r ↔ P) → r ≡ false → P → ⊥
not_so iff fails p = let holds = iff.1 p in absurd cc

pub malformed_as : (listed items : List ListedCategory) (kind detail : ℕ) → listed ≡ items → detail ≡ kind → IsFirstMalformed listed kind → IsFirstMalformed items detail
malformed_as listed items kind detail same reported found =
    subst (λ (xs : List ListedCategory). IsFirstMalformed xs detail) same (subst (λ (n : ℕ). IsFirstMalformed listed n) (sym reported) found)
