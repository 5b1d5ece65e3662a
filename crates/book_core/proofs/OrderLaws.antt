-- The numbers of the live entries never fall: those found at the open count as 0, and the accepted commands' count from 0 on.
use Rattle.std.proofs.Common.{◌≡◌, ◌⊎◌, inl, inr, ℕ, zero, suc, ◌+◌, ◌-◌, ◌<◌, ◌≤◌, List, [], ◌∷◌, ◌++◌, length, get_or, map, take, refl, sym, ◌∙◌, ap, subst, arith, append_assoc, add-zero, length-append}
use Rattle.std.proofs.Math.Seq.{take-add}
use Rattle.std.proofs.lemmas.List.{get_or_append_left, get_or-append_right, get_or-map, length-map, drop_at}
use Rattle.std.proofs.lemmas.List.Sorted.{IsNonDecreasingBy-drop}
use Rattle.std.proofs.lemmas.Bool.{cases_lt}
use Rattle.sii_edit.specs.declared.command.Command.{Command}
use Rattle.sii_edit.specs.Fold.{after}
use Rattle.sii_words.specs.Run.{runs_between}
use Rattle.jrn_format.specs.declared.journal.Entry.{Entry}
use Rattle.book_model.specs.Entries.{entries_from}
use Rattle.book_model.proofs.CommandLaws.{length-entries}
use Rattle.book_parts.specs.Line.{LineState, NeverFall}
use Rattle.book_parts.specs.Ledger.{Ledger, own, appended}
use Rattle.book_core.specs.Stands.{as_found, AreLatest}

number-at : (number : ℕ) (base : List (List ℕ)) (commands : List Command) (i : ℕ) (d : Entry) → i < length commands → (get_or (entries_from number base commands) i d).number ≡ number + i
number-at number base [] i d within = absurd (omega arith)
number-at number base (c ∷ cs) zero d within = sym (add-zero number)
number-at number base (c ∷ cs) (suc i) d within = number-at (suc number) (after base c) cs i d (omega arith) ∙ omega arith

take-entries : (number : ℕ) (base : List (List ℕ)) (commands : List Command) (k : ℕ) → take k (entries_from number base commands) ≡ entries_from number base (take k commands)
take-entries number base [] zero = refl
take-entries number base [] (suc k) = refl
take-entries number base (c ∷ cs) zero = refl
take-entries number base (c ∷ cs) (suc k) = ap (λ (l : List Entry). record { number = number; runs = runs_between base (after base c) } ∷ l) (take-entries (suc number) (after base c) cs k)

all-order : (found : List Entry) (base : List (List ℕ)) (commands : List Command) → NeverFall (map as_found found ++ entries_from 0 base commands)
all-order found base commands = λ i j d le within. one i j d le within (cases_lt i (length found))
  where
    front : List Entry
    front = map as_found found

    rest : List Entry
    rest = entries_from 0 base commands

    afterwards : (i : ℕ) (d : Entry) → length found ≤ i → i < length (front ++ rest) → (get_or (front ++ rest) i d).number ≡ i - length found
    afterwards i d le within =
        let inside : i - length found < length commands = omega (arith, length-append front rest, length-map found as_found, length-entries 0 base commands) in
        ap (λ (e : Entry). e.number) (get_or-append_right front rest (length found) i d (length-map found as_found) le) ∙ number-at 0 base commands (i - length found) d inside ∙ omega arith

    one : (i j : ℕ) (d : Entry) → i ≤ j → j < length (front ++ rest) → (i < length found) ⊎ (length found ≤ i) → (get_or (front ++ rest) i d).number ≤ (get_or (front ++ rest) j d).number
    one i j d le within (inl early) =
        let is : (get_or (front ++ rest) i d).number ≡ 0 =
        ap (λ (e : Entry). e.number) (get_or_append_left front rest d i (omega (arith, length-map found as_found)) ∙ get_or-map as_found found i d d early) in
        omega (arith, is)
    one i j d le within (inr late) = omega (arith, afterwards i d late (omega arith), afterwards j d (omega arith) within)

-- once the next commands are live too
pub order-next : (found : List Entry) (ledger : Ledger) (work : LineState) → AreLatest found ledger work → NeverFall ((work.older ++ work.newer) ++ appended ledger)
order-next found ledger work latest =
    let live : List Entry = work.older ++ work.newer in
    let all : latest.gone ++ (live ++ appended ledger) ≡ map as_found found ++ entries_from 0 ledger.base (take (ledger.durable + ledger.begun) ledger.accepted) =
    sym (append_assoc latest.gone live (appended ledger)) ∙ ap (λ (l : List Entry). l ++ appended ledger) latest.all
    ∙ append_assoc (map as_found found) (take ledger.durable (own ledger)) (appended ledger)
    ∙ ap (λ (l : List Entry). map as_found found ++ l) (sym (take-add ledger.durable ledger.begun (own ledger)) ∙ take-entries 0 ledger.base ledger.accepted (ledger.durable + ledger.begun)) in
    subst NeverFall (drop_at latest.gone (live ++ appended ledger) (length latest.gone) refl)
    (IsNonDecreasingBy-drop (λ (e : Entry). e.number) (length latest.gone) (latest.gone ++ (live ++ appended ledger))
    (subst NeverFall (sym all) (all-order found ledger.base (take (ledger.durable + ledger.begun) ledger.accepted))))
