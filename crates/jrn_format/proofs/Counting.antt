-- Reading a given number of values, as a loop does.
use Rattle.std.proofs.Common.{◌≡◌, ℕ, suc, ◌-◌, ◌+◌, ◌≤◌, ◌<◌, List, [], ◌∷◌, ◌++◌, Option, Some, None, refl, sym, ap, ◌∙◌, append_assoc, arith}
use Rattle.std.proofs.lemmas.List.{append-nil}
use Rattle.jrn_format.specs.declared.fault.ReadFault.{ReadFault}
use Rattle.jrn_format.specs.declared.fault.ReadFault.TheVariants as reading
use Rattle.jrn_format.specs.steps.Reading.{◌>>=◌, Fails, counted}

-- what was read before, and what is still read
abbrev pub with_front : {X : Type 0} → List X → Option (List X × List ℕ) → Option (List X × List ℕ)
with_front before read = read >>= λ x. Some (before ++ x.0, x.1)

one_more : {X : Type 0} (before : List X) (x : X) (read : Option (List X × List ℕ))
    → with_front before (read >>= λ y. Some (x ∷ y.0, y.1)) ≡ with_front (before ++ x ∷ []) read
one_more before x None = refl
one_more before x (Some y) = ap (λ all. Some (all, y.1)) (sym (append_assoc before (x ∷ []) y.0))

pub counts_on : {X : Type 0} (one : List ℕ → Option (X × List ℕ)) (before : List X) (count i : ℕ) (bytes : List ℕ) (x : X) (rest : List ℕ) (total : Option (List X × List ℕ))
    → i < count → one bytes ≡ Some (x, rest) → with_front before (counted one (count - i) bytes) ≡ total → with_front (before ++ x ∷ []) (counted one (count - (i + 1)) rest) ≡ total
unfolding counted
counts_on one before count i bytes x rest total lt e so_far =
    let k : count - i ≡ suc (count - (i + 1)) = omega arith in
    let step : with_front before (counted one (count - i) bytes) ≡ with_front (before ++ x ∷ []) (counted one (count - (i + 1)) rest) =
    rw (k, e) (one_more before x (counted one (count - (i + 1)) rest)) in
    sym step ∙ so_far

pub counts_out : {X : Type 0} (one : List ℕ → Option (X × List ℕ)) (before : List X) (count i : ℕ) (bytes : List ℕ) (total : Option (List X × List ℕ))
    → count ≤ i → with_front before (counted one (count - i) bytes) ≡ total → total ≡ Some (before, bytes)
unfolding counted
counts_out one before count i bytes total le so_far =
    let k : count - i ≡ 0 = omega arith in
    let last : with_front before (counted one (count - i) bytes) ≡ Some (before, bytes) = rw k (ap (λ all. Some (all, bytes)) (append-nil before)) in
    sym so_far ∙ last

-- where one can't be read, all can't
pub count_fails : {X : Type 0} (one : List ℕ → Option (X × List ℕ)) (fault : ReadFault) (before : List X) (count i : ℕ) (bytes : List ℕ) (total : Option (List X × List ℕ))
    → i < count → Fails fault (one bytes) → with_front before (counted one (count - i) bytes) ≡ total → Fails fault total
unfolding counted
count_fails one reading.Memory before count i bytes total lt h so_far = tt
count_fails one reading.Malformed before count i bytes total lt h so_far =
    let k : count - i ≡ suc (count - (i + 1)) = omega arith in
    let none : with_front before (counted one (count - i) bytes) ≡ None = rw (k, h) refl in
    sym so_far ∙ none
