-- What a real slave was sent by several devices, of which one alone sends to it.
use Rattle.std.proofs.Common.{◌≡◌, ◌≢◌, ◌++◌, ◌⊎◌, ℕ, zero, suc, List, [], ◌∷◌, Some, slice_get, slice_set, eqb, true}
use Rattle.std.proofs.Common.{false, refl, sym, ap, subst, ◌∙◌, inl, inr}
use Rattle.std.specs.List.{All}
use Rattle.std.proofs.lemmas.Bool.Decides.{eqb_tells}
use Rattle.std.proofs.lemmas.List.Elements.{All-head, All-tail}
use Rattle.esc_model.specs.Bytes.{station_of}
use Rattle.esc_model.specs.SlaveHalf.{SlaveHalf}
use Rattle.site_wire.specs.Sent.{Exchanged}
use Rattle.site_wire.specs.RealSlaves.{Lives, ends, answers, is_silent, of_another}
use Rattle.site_wire.proofs.Living.{lives_station}
use Rattle.wire_session.specs.Interleaving.{Interleaves, done, next}

-- a list with one element exchanged
get-set : {X : Type 0} (xs : List X) (at : ℕ) (old new : X) → slice_get xs at ≡ Some old → slice_get (slice_set xs at new) at ≡ Some new
get-set [] at old new here = absurd cc
get-set (x ∷ xs) zero old new here = refl
get-set (x ∷ xs) (suc at) old new here = get-set xs at old new here

get-other : {X : Type 0} (xs : List X) (at other : ℕ) (new : X) → other ≢ at → slice_get (slice_set xs at new) other ≡ slice_get xs other
get-other [] at other new separate = refl
get-other (x ∷ xs) zero zero new separate = absurd (separate refl)
get-other (x ∷ xs) zero (suc other) new separate = refl
get-other (x ∷ xs) (suc at) zero new separate = refl
get-other (x ∷ xs) (suc at) (suc other) new separate = get-other xs at other new (λ same. separate (ap suc same))

-- an element of a list of which each one is so
at-each : {X : Type 0} (P : X → Type 0) (xs : List X) (at : ℕ) (x : X) → All P xs → slice_get xs at ≡ Some x → P x
at-each P [] at x all here = absurd cc
at-each P (y ∷ ys) zero x all here = let same : y ≡ x = cc in subst P same (All-head P y ys all)
at-each P (y ∷ ys) (suc at) x all here = at-each P ys at x (All-tail P y ys all) here

-- none of these goes to the station
abbrev pub Misses : ℕ → List Exchanged → Type 0
Misses station calls = All (λ call. station_of call.sent.address ≢ station) calls

-- no other list has one that goes to the station
abbrev pub OthersMiss : ℕ → List (List Exchanged) → (at : ℕ) → Type 0
OthersMiss station lists at = (other : ℕ) (calls : List Exchanged) → other ≢ at → slice_get lists other ≡ Some calls → Misses station calls

still-miss : (station : ℕ) (lists : List (List Exchanged)) (at k : ℕ) (first : Exchanged) (rest : List Exchanged) → slice_get lists k ≡ Some (first ∷ rest)
    → OthersMiss station lists at → OthersMiss station (slice_set lists k rest) at
still-miss station lists at k first rest here miss other calls separate there = by (eqb_tells other k)
  where
    by : ((eqb other k ≡ true) × (other ≡ k)) ⊎ ((eqb other k ≡ false) × (other ≢ k)) → Misses station calls
    by (inl same) =
        let is : rest ≡ calls =
        (let e : Some rest ≡ Some calls = sym (get-set lists k (first ∷ rest) rest here) ∙ ap (slice_get (slice_set lists k rest)) (sym same.1) ∙ there in cc) in
        subst (Misses station) is
        (All-tail (λ (call : Exchanged). station_of call.sent.address ≢ station) first rest
        (miss other (first ∷ rest) separate (ap (slice_get lists) same.1 ∙ here)))
    by (inr other_list) = miss other calls separate (sym (get-other lists k other rest other_list.1) ∙ there)

-- What follows of the first element, where it holds after that.
step : (station : ℕ) (lists : List (List Exchanged)) (at k : ℕ) (first : Exchanged) (rest all own : List Exchanged) → slice_get lists at ≡ Some own
    → slice_get lists k ≡ Some (first ∷ rest) → OthersMiss station lists at → (later : SlaveHalf)
    → ((left : List Exchanged) → slice_get (slice_set lists k rest) at ≡ Some left → (mid : SlaveHalf) → mid.station ≡ station → Lives all mid later
    → Lives left mid later) → (real : SlaveHalf) → real.station ≡ station → Lives (first ∷ all) real later → Lives own real later
step station lists at k first rest all own here there miss later after_it real near lives = by (eqb_tells at k)
  where
    its_own : at ≡ k → Lives (first ∷ all) real later → Lives (first ∷ rest) real later
    its_own same (answers _ _ found _ mid _ to came answered after) =
        answers first rest found real mid later to came answered
        (after_it rest (ap (slice_get (slice_set lists k rest)) same ∙ get-set lists k (first ∷ rest) rest there) mid
        (lives_station (first ∷ []) real mid (answers first [] found real mid mid to came answered (ends mid)) ∙ near) after)
    its_own same (is_silent _ _ _ mid _ to none_came serves after) =
        is_silent first rest real mid later to none_came serves
        (after_it rest (ap (slice_get (slice_set lists k rest)) same ∙ get-set lists k (first ∷ rest) rest there) mid
        (lives_station (first ∷ []) real mid (is_silent first [] real mid mid to none_came serves (ends mid)) ∙ near) after)
    its_own same (of_another _ _ _ _ other after) =
        of_another first rest real later other
        (after_it rest (ap (slice_get (slice_set lists k rest)) same ∙ get-set lists k (first ∷ rest) rest there) real near after)

    misses : at ≢ k → station_of first.sent.address ≢ station
    misses separate =
        All-head (λ (call : Exchanged). station_of call.sent.address ≢ station) first rest (miss k (first ∷ rest) (λ same. separate (sym same)) there)

    another : at ≢ k → Lives (first ∷ all) real later → Lives own real later
    another separate (answers _ _ found _ mid _ to came answered after) = absurd (misses separate (to ∙ near))
    another separate (is_silent _ _ _ mid _ to none_came serves after) = absurd (misses separate (to ∙ near))
    another separate (of_another _ _ _ _ other after) = after_it own (get-other lists k at rest separate ∙ here) real near after

    by : ((eqb at k ≡ true) × (at ≡ k)) ⊎ ((eqb at k ≡ false) × (at ≢ k)) → Lives own real later
    by (inl same) =
        let is : first ∷ rest ≡ own = (let e : Some (first ∷ rest) ≡ Some own = sym there ∙ ap (slice_get lists) (sym same.1) ∙ here in cc) in
        subst (λ (l : List Exchanged). Lives l real later) is (its_own same.1 lives)
    by (inr separate) = another separate.1 lives

-- A slave that has lived through all of it has lived through its own.
pub own_part : (station : ℕ) (lists : List (List Exchanged)) (all : List Exchanged) → Interleaves lists all → (at : ℕ) (own : List Exchanged)
    → slice_get lists at ≡ Some own → OthersMiss station lists at → (real later : SlaveHalf) → real.station ≡ station → Lives all real later
    → Lives own real later
own_part station lists [] (done _ none) at own here miss real later near (ends _) =
    subst (λ (l : List Exchanged). Lives l real real) (sym (at-each (λ (l : List Exchanged). l ≡ []) lists at own none here)) (ends real)
own_part station lists (first ∷ all) (next _ k _ rest _ there more) at own here miss real later near lives =
    step station lists at k first rest all own here there miss later
    (λ left is mid at_mid after.
    own_part station (slice_set lists k rest) all more at left is (still-miss station lists at k first rest there miss) mid later at_mid after) real near lives

-- what was sent in two parts
pub lives_joined : (first second : List Exchanged) (real mid later : SlaveHalf) → Lives first real mid → Lives second mid later
    → Lives (first ++ second) real later
lives_joined [] second real mid later (ends _) after = after
lives_joined (call ∷ first) second real mid later (answers _ _ found _ one _ to came answered rest) after =
    answers call (first ++ second) found real one later to came answered (lives_joined first second one mid later rest after)
lives_joined (call ∷ first) second real mid later (is_silent _ _ _ one _ to none_came serves rest) after =
    is_silent call (first ++ second) real one later to none_came serves (lives_joined first second one mid later rest after)
lives_joined (call ∷ first) second real mid later (of_another _ _ _ _ other rest) after =
    of_another call (first ++ second) real later other (lives_joined first second real mid later rest after)
