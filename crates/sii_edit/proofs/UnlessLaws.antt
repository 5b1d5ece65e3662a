-- The first cause that applies: what an answer means for the tests.
use Rattle.std.proofs.Common.{◌≡◌, ◌≢◌, ◌⊎◌, ℕ, Bool, true, false, List, [], ◌∷◌, refl, sym, ap, ◌∙◌, inl, inr, Some, Result, Ok, Err}
use Rattle.sii_edit.specs.declared.refusal.Cause.{Cause}
use Rattle.sii_edit.specs.declared.refusal.Cause.TheVariants.{Memory}
use Rattle.sii_edit.specs.declared.refusal.Refusal.{Refusal}
use Rattle.sii_edit.specs.Refusal.{unless, entire, placed, of_entire, of_place, then_validated, IsCauseOf, IsRefusalOf}

-- where no cause applies, it is what there is
pub unless-ok : {A : Type 0} (tests : List (Bool × Cause)) (given new : A) → unless tests given ≡ Ok new → new ≡ given
unless-ok [] given new validated = cc
unless-ok ((true, cause) ∷ tests) given new validated = cc
unless-ok ((false, cause) ∷ tests) given new validated = unless-ok tests given new validated

-- the causes don't depend on what there is
pub unless-change : {A B : Type 0} (tests : List (Bool × Cause)) (given new : A) (other : B) → unless tests given ≡ Ok new → unless tests other ≡ Ok other
unless-change [] given new other validated = refl
unless-change ((true, cause) ∷ tests) given new other validated = cc
unless-change ((false, cause) ∷ tests) given new other validated = unless-change tests given new other validated

pub unless-err : {A B : Type 0} (tests : List (Bool × Cause)) (given : A) (other : B) (cause : Cause) → unless tests given ≡ Err cause → unless tests other ≡ Err cause
unless-err [] given other cause validated = cc
unless-err ((true, first) ∷ tests) given other cause validated = cc
unless-err ((false, first) ∷ tests) given other cause validated = unless-err tests given other cause validated

-- the first test, one way and the other
pub unless-stop : {A : Type 0} (test : Bool) (cause : Cause) (tests : List (Bool × Cause)) (given : A) → test ≡ true → unless ((test, cause) ∷ tests) given ≡ Err cause
unless-stop true cause tests given holds = refl
unless-stop false cause tests given holds = cc

pub unless-pass : {A : Type 0} (test : Bool) (cause : Cause) (tests : List (Bool × Cause)) (given : A) → test ≡ false → unless ((test, cause) ∷ tests) given ≡ unless tests given
unless-pass true cause tests given fails = cc
unless-pass false cause tests given fails = refl

-- none of the tests holds
abbrev pub NoneHolds : List (Bool × Cause) → Type 0
NoneHolds [] = Unit {0}
NoneHolds (test ∷ tests) = (test.0 ≡ false) × NoneHolds tests

pub none_holds : {A : Type 0} (tests : List (Bool × Cause)) (given new : A) → unless tests given ≡ Ok new → NoneHolds tests
none_holds [] given new validated = tt
none_holds ((true, cause) ∷ tests) given new validated = cc
none_holds ((false, cause) ∷ tests) given new validated = (refl, none_holds tests given new validated)

-- `Memory` is none of the causes
abbrev pub NamesNoMemory : List (Bool × Cause) → Type 0
NamesNoMemory [] = Unit {0}
NamesNoMemory (test ∷ tests) = (test.1 ≢ Memory) × NamesNoMemory tests

pub unless-not_memory : {A : Type 0} (tests : List (Bool × Cause)) (given : A) → NamesNoMemory tests → unless tests given ≢ Err Memory
unless-not_memory [] given named = λ is. cc
unless-not_memory ((true, cause) ∷ tests) given named = λ is. let same : cause ≡ Memory = cc in named.0 same
unless-not_memory ((false, cause) ∷ tests) given named = unless-not_memory tests given named.1

-- ---- refusals

pub complete_ok : {A : Type 0} (validated : Result A Cause) (new : A) → of_entire validated ≡ Ok new → validated ≡ Ok new
complete_ok (Ok given) new is = cc
complete_ok (Err cause) new is = cc

pub complete_err : {A : Type 0} (validated : Result A Cause) (refusal : Refusal) → of_entire validated ≡ Err refusal → validated ≡ Err refusal.cause
complete_err (Ok given) refusal is = cc
complete_err (Err cause) refusal is = let same : entire cause ≡ refusal = cc in ap (λ (r : Refusal). Err r.cause) same

pub place_ok : {A : Type 0} (place : ℕ) (validated : Result A Cause) (new : A) → of_place place validated ≡ Ok new → validated ≡ Ok new
place_ok place (Ok given) new is = cc
place_ok place (Err cause) new is = cc

pub placed-other : (place : ℕ) (cause : Cause) → cause ≢ Memory → placed place cause ≡ record { cause = cause; position = Some place }
placed-other place Memory other = absurd (other refl)
placed-other place cause other = refl

placed-cause : (place : ℕ) (cause : Cause) → (placed place cause).cause ≡ cause
placed-cause place Memory = refl
placed-cause place cause = refl

pub place_err : {A : Type 0} (place : ℕ) (validated : Result A Cause) (refusal : Refusal) → of_place place validated ≡ Err refusal → validated ≡ Err refusal.cause
place_err place (Ok given) refusal is = cc
place_err place (Err cause) refusal is =
    let same : placed place cause ≡ refusal = cc in
    ap (λ (c : Cause). Err c) (sym (placed-cause place cause) ∙ ap (λ (r : Refusal). r.cause) same)

-- what was judged before what comes next
pub then_ok : {A B E : Type 0} (validated : Result A E) (next : A → Result B E) (new : B) → then_validated validated next ≡ Ok new → (mid : A) × (validated ≡ Ok mid) × (next mid ≡ Ok new)
then_ok (Ok mid) next new is = (mid, refl, is)
then_ok (Err refusal) next new is = cc

pub then_err : {A B E : Type 0} (validated : Result A E) (next : A → Result B E) (refusal : E) → then_validated validated next ≡ Err refusal
    → (validated ≡ Err refusal) ⊎ ((mid : A) × (validated ≡ Ok mid) × (next mid ≡ Err refusal))
then_err (Ok mid) next refusal is = inr (mid, refl, is)
then_err (Err first) next refusal is = inl cc

-- a refusal of what is judged, in a group and of a command as a whole
pub refused_at : {A : Type 0} (place : ℕ) (validated : Result A Cause) (cause : Cause) → IsCauseOf validated cause → IsRefusalOf (of_place place validated) (placed place cause)
refused_at place validated cause (inl is) = inl (ap (of_place place) is)
refused_at place validated cause (inr memory) = inr (ap (placed place) memory)

pub refused_complete : {A : Type 0} (validated : Result A Cause) (cause : Cause) → IsCauseOf validated cause → IsRefusalOf (of_entire validated) (entire cause)
refused_complete validated cause (inl is) = inl (ap of_entire is)
refused_complete validated cause (inr memory) = inr (ap entire memory)

pub refused_then : {A B : Type 0} (validated : Result A Refusal) (next : A → Result B Refusal) (refusal : Refusal) → IsRefusalOf validated refusal → IsRefusalOf (then_validated validated next) refusal
refused_then {A = A} validated next refusal (inl is) = inl (ap (λ (r : Result A Refusal). then_validated r next) is)
refused_then {A = A} validated next refusal (inr memory) = inr memory
