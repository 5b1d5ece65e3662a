-- The order of two halves by their generations.
use Rattle.std.proofs.Common.{◌≡◌, ℕ, ◌+◌, ◌%◌, Bool, true, false, cond, eqb, List, [], ◌∷◌, ◌++◌, Ok, Err, refl, sym, ap, subst, ◌∙◌, arith, inl, inr, ◌⊎◌}
use Rattle.std.specs.List.{list_all}
use Rattle.std.proofs.lemmas.Bool.{eqb-true, eq-eqb, and_parts, and_from, false_from_ne_true}
use Rattle.std.proofs.lemmas.List.{append-nil}
use Rattle.jrn_format.specs.declared.journal.Batch.{Batch}
use Rattle.jrn_format.specs.declared.fault.JournalFault.{JournalFault}
use Rattle.jrn_format.specs.declared.fault.JournalFault.TheVariants.{BadJournal}
use Rattle.jrn_format.specs.Journal.{AreOf, IsFollowedBy, IsInOrder}
use Rattle.jrn_format.specs.steps.Reading.{older_generation, is_followed_by, in_order}
use Rattle.jrn_format.proofs.Within.{Tests, all_sound, all_complete}

of_tests : (generation : ℕ) → Tests (λ (batch : Batch). eqb batch.generation generation) (λ batch. batch.generation ≡ generation)
of_tests generation = record { sound = λ batch e. eqb-true _ _ e; complete = λ batch e. eq-eqb _ _ e }

all_of : (generation : ℕ) (batches : List Batch) → list_all (λ batch. eqb batch.generation generation) batches ≡ true → AreOf generation batches
all_of generation batches e = all_sound (λ (batch : Batch). eqb batch.generation generation) (λ batch. batch.generation ≡ generation) (of_tests generation) batches e

of_all : (generation : ℕ) (batches : List Batch) → AreOf generation batches → list_all (λ batch. eqb batch.generation generation) batches ≡ true
of_all generation batches h = all_complete (λ (batch : Batch). eqb batch.generation generation) (λ batch. batch.generation ≡ generation) (of_tests generation) batches h

followed : (older newer : List Batch) → is_followed_by older newer ≡ true → IsFollowedBy older newer
followed older newer e =
    let generation = older_generation older newer in
    let parts = and_parts (list_all (λ (batch : Batch). eqb batch.generation generation) older) (list_all (λ (batch : Batch). eqb batch.generation ((generation + 1) % 256)) newer) e in
    (generation, all_of generation older parts.0, all_of ((generation + 1) % 256) newer parts.1)

follows_by : (generation : ℕ) (older newer : List Batch) → older_generation older newer ≡ generation → AreOf generation older → AreOf ((generation + 1) % 256) newer → is_followed_by older newer ≡ true
follows_by generation older newer e old new =
    rw e (and_from (list_all (λ (batch : Batch). eqb batch.generation generation) older) (list_all (λ (batch : Batch). eqb batch.generation ((generation + 1) % 256)) newer)
    (of_all generation older old) (of_all ((generation + 1) % 256) newer new))

follows : (older newer : List Batch) → IsFollowedBy older newer → is_followed_by older newer ≡ true
follows [] [] h = refl
follows (batch ∷ older) newer h = follows_by h.0 (batch ∷ older) newer h.1.0 h.1 h.2
follows [] (batch ∷ newer) h =
    let first : batch.generation ≡ (h.0 + 1) % 256 = h.2.0 in
    let again : ((batch.generation + 255) % 256 + 1) % 256 ≡ (h.0 + 1) % 256 = omega (arith, first) in
    follows_by ((batch.generation + 255) % 256) [] (batch ∷ newer) refl tt
    (subst (λ (g : ℕ). AreOf g (batch ∷ newer)) (sym again) h.2)

-- two halves that are live follow one another one way round at most
one_way : (firsts seconds : List Batch) → IsFollowedBy firsts seconds → IsFollowedBy seconds firsts → firsts ++ seconds ≡ seconds ++ firsts
one_way [] seconds f g = sym (append-nil seconds)
one_way (batch ∷ firsts) [] f g = append-nil (batch ∷ firsts)
one_way (first ∷ firsts) (second ∷ seconds) f g =
    let a : first.generation ≡ f.0 = f.1.0 in
    let b : second.generation ≡ (f.0 + 1) % 256 = f.2.0 in
    let c : second.generation ≡ g.0 = g.1.0 in
    let d : first.generation ≡ (g.0 + 1) % 256 = g.2.0 in
    absurd (omega (arith, a, b, c, d))

chosen_ok : (b c : Bool) (x y batches : List Batch) → cond b (Ok x) (cond c (Ok y) (Err (BadJournal 8))) ≡ Ok batches
    → ((b ≡ true) × (batches ≡ x)) ⊎ ((c ≡ true) × (batches ≡ y))
chosen_ok true c x y batches e = inl (refl, cc)
chosen_ok false true x y batches e = inr (refl, cc)
chosen_ok false false x y batches e = absurd cc

pub order_is : (firsts seconds batches : List Batch) → in_order firsts seconds ≡ Ok batches → IsInOrder firsts seconds batches
unfolding in_order
order_is firsts seconds batches e =
    elim (chosen_ok (is_followed_by firsts seconds) (is_followed_by seconds firsts) (firsts ++ seconds) (seconds ++ firsts) batches e) [
      | inl h ↦ inl (followed firsts seconds h.0, h.1)
      | inr h ↦ inr (followed seconds firsts h.0, h.1)
    ]

ordered_by : (firsts seconds batches : List Batch) (b : Bool) → is_followed_by firsts seconds ≡ b → IsFollowedBy seconds firsts → batches ≡ seconds ++ firsts
    → cond b (Ok (firsts ++ seconds)) (cond (is_followed_by seconds firsts) (Ok (seconds ++ firsts)) (Err (BadJournal 8))) ≡ Ok batches
ordered_by firsts seconds batches true e h is = ap (λ (bs : List Batch). Ok bs) (one_way firsts seconds (followed firsts seconds e) h ∙ sym is)
ordered_by firsts seconds batches false e h is = rw (follows seconds firsts h, is) refl

pub order_again : (firsts seconds batches : List Batch) → IsInOrder firsts seconds batches → in_order firsts seconds ≡ Ok batches
unfolding in_order
order_again firsts seconds batches (inl h) = rw (follows firsts seconds h.0, h.1) refl
order_again firsts seconds batches (inr h) = ordered_by firsts seconds batches (is_followed_by firsts seconds) refl h.0 h.1

chosen_err : (b c : Bool) (x y : List Batch) (fault : JournalFault) → cond b (Ok x) (cond c (Ok y) (Err (BadJournal 8))) ≡ Err fault → fault ≡ BadJournal 8
chosen_err true c x y fault e = absurd cc
chosen_err false true x y fault e = absurd cc
chosen_err false false x y fault e = cc

fault_is : (firsts seconds : List Batch) (fault : JournalFault) → in_order firsts seconds ≡ Err fault → fault ≡ BadJournal 8
unfolding in_order
fault_is firsts seconds fault e = chosen_err (is_followed_by firsts seconds) (is_followed_by seconds firsts) (firsts ++ seconds) (seconds ++ firsts) fault e

pub order_fault : (firsts seconds : List Batch) (fault : JournalFault) → in_order firsts seconds ≡ Err fault
    → ((batches : List Batch) → IsInOrder firsts seconds batches → ⊥) × (fault ≡ BadJournal 8)
order_fault firsts seconds fault e =
    (λ batches h. let never = sym (order_again firsts seconds batches h) ∙ e in absurd cc, fault_is firsts seconds fault e)

pub no_order : (firsts seconds : List Batch) → ((batches : List Batch) → IsInOrder firsts seconds batches → ⊥) → in_order firsts seconds ≡ Err (BadJournal 8)
unfolding in_order
no_order firsts seconds none =
    let one : is_followed_by firsts seconds ≡ false = false_from_ne_true _ (λ e. none (firsts ++ seconds) (inl (followed firsts seconds e, refl))) in
    let two : is_followed_by seconds firsts ≡ false = false_from_ne_true _ (λ e. none (seconds ++ firsts) (inr (followed seconds firsts e, refl))) in
    rw (one, two) refl
