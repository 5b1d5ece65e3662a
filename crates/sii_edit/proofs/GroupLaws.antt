-- The edits of a group, one by one.
use Rattle.std.proofs.Common.{◌≡◌, ℕ, suc, ◌+◌, ◌<◌, ◌≤◌, Bool, true, false, List, [], ◌∷◌, length, map, drop, get_or, sym, ap, ◌∙◌, arith, add-one, drop-cons, Result, Ok, Err}
use Rattle.std.proofs.lemmas.List.{get_or-map, length-map}
use Rattle.std.proofs.Math.ListN.{drop_of_length-le}
use Rattle.std.specs.Result.{IsErrAnd}
use Rattle.sii_edit.specs.declared.command.Edit.{Edit}
use Rattle.sii_edit.specs.declared.draft.Renewal.{Renewal}
use Rattle.sii_edit.specs.Draft.{IsCarriedOut}
use Rattle.sii_edit.specs.declared.command.GuardedEdit.{GuardedEdit}
use Rattle.sii_edit.specs.declared.refusal.Cause.{Cause}
use Rattle.sii_edit.specs.declared.refusal.Refusal.{Refusal}
use Rattle.sii_edit.specs.Refusal.{unless, of_entire, of_place, then_validated, IsRefusalOf}
use Rattle.sii_edit.specs.Command.{edited, edits_from, group_causes, grouped, unguarded}
use Rattle.sii_edit.proofs.UnlessLaws.{unless-change, complete_ok, refused_then}

-- what is judged of these causes alone
abbrev validate : List (Bool × Cause) → Result (Unit {0}) Refusal
validate causes = of_entire (unless causes tt)

-- what is judged of a number of edits
abbrev pub validated_by : ℕ → Result (Unit {0}) Refusal
validated_by count = validate (group_causes count)

-- where the number of edits fits, a group is judged edit by edit
pub grouped-start : (plant : List (List ℕ)) (edits : List GuardedEdit) → validated_by (length edits) ≡ Ok tt → grouped plant edits ≡ edits_from 0 plant edits
grouped-start plant edits few =
    let causes = group_causes (length edits) in
    ap (λ (validated : Result (List (List ℕ)) Cause). then_validated (of_entire validated) (λ start. edits_from 0 start edits))
    (unless-change causes tt tt plant (complete_ok (unless causes tt) tt few))

pub grouped-refused : (plant : List (List ℕ)) (edits : List GuardedEdit) (refusal : Refusal) → validated_by (length edits) ≡ Err refusal → grouped plant edits ≡ Err refusal
grouped-refused plant edits refusal validated = start (group_causes (length edits)) validated
  where
    start : (causes : List (Bool × Cause)) → validate causes ≡ Err refusal
        → then_validated (of_entire (unless causes plant)) (λ start. edits_from 0 start edits) ≡ Err refusal
    start [] is = cc
    start ((true, cause) ∷ causes) is = cc
    start ((false, cause) ∷ causes) is = start causes is

-- the edit at a place, and those after it
pub edits-at : (edits : List GuardedEdit) (place : ℕ) (edit : GuardedEdit) → place < length edits → edit ≡ get_or edits place edit → drop place edits ≡ edit ∷ drop (place + 1) edits
edits-at edits place edit there is = rw (add-one place) (drop-cons edits place edit there ∙ ap (λ (first : GuardedEdit). first ∷ drop (suc place) edits) (sym is))

pub unguarded-at : (edits : List Edit) (place : ℕ) (edit : Edit) → place < length edits → edit ≡ get_or edits place edit
    → drop place (map unguarded edits) ≡ unguarded edit ∷ drop (place + 1) (map unguarded edits)
unguarded-at edits place edit there is =
    edits-at (map unguarded edits) place (unguarded edit) (omega (arith, length-map edits unguarded))
    (ap unguarded is ∙ sym (get_or-map unguarded edits place edit (unguarded edit) there))

-- an edit that is made, one that is refused, and the end
pub edits-step : (place : ℕ) (plant new : List (List ℕ)) (edit : GuardedEdit) (edits others : List GuardedEdit) → edits ≡ edit ∷ others
    → of_place place (edited plant edit.expect edit.edit) ≡ Ok new → edits_from (place + 1) new others ≡ edits_from place plant edits
edits-step place plant new edit edits others split validated =
    rw (add-one place) (sym (ap (edits_from place plant) split ∙ ap (λ (r : Result (List (List ℕ)) Refusal). then_validated r (λ mid. edits_from (suc place) mid others)) validated))

pub edits-refused : (place : ℕ) (plant : List (List ℕ)) (edit : GuardedEdit) (edits others : List GuardedEdit) (refusal : Refusal) → edits ≡ edit ∷ others
    → IsRefusalOf (of_place place (edited plant edit.expect edit.edit)) refusal → IsRefusalOf (edits_from place plant edits) refusal
edits-refused place plant edit edits others refusal split refused =
    rw split (refused_then (of_place place (edited plant edit.expect edit.edit)) (λ mid. edits_from (suc place) mid others) refusal refused)

pub edits-end : (place : ℕ) (plant : List (List ℕ)) (edits : List GuardedEdit) → length edits ≤ place → edits_from place plant (drop place edits) ≡ Ok plant
edits-end place plant edits past = ap (edits_from place plant) (drop_of_length-le edits past)

-- a refusal that is handed on
pub handed_on : (plant : List (List ℕ)) (validated : Result (List (List ℕ)) Refusal) (draft : List Renewal) (result : Result (Unit {0}) Refusal) (refusal : Refusal)
    → IsErrAnd result (λ error. error ≡ refusal) → IsRefusalOf validated refusal → IsCarriedOut plant validated draft result
handed_on plant validated draft (Ok done) refusal gave refused = absurd gave
handed_on plant validated draft (Err error) refusal gave refused = rw gave refused
