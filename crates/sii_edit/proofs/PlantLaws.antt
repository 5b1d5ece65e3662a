-- The contents of a line stay words of 16 bits under commands.
use Rattle.std.proofs.Common.{◌≡◌, inl, inr, ℕ, suc, List, [], ◌∷◌, length, map, slice_set, Option, None, Result, Ok, Err, refl, sym, subst, arith}
use Rattle.std.specs.Prelude.{All}
use Rattle.std.proofs.lemmas.Bool.{cases_lt}
use Rattle.std.proofs.lemmas.List.{get_or_past}
use Rattle.std.proofs.lemmas.List.Elements.{All-nil, All-head, All-tail, All-set, All-map, All-get_or}
use Rattle.sii_words.specs.Words.{alias_of}
use Rattle.sii_words.specs.Plant.{words_of}
use Rattle.sii_edit.specs.declared.command.Expect.{Expect}
use Rattle.sii_edit.specs.declared.command.Edit.{Edit}
use Rattle.sii_edit.specs.declared.command.GuardedEdit.{GuardedEdit}
use Rattle.sii_edit.specs.declared.command.Command.{Command}
use Rattle.sii_edit.specs.declared.command.Command.TheVariants.{One, Swap, Group, Guarded}
use Rattle.sii_edit.specs.declared.refusal.Cause.TheVariants.{NoSlave}
use Rattle.sii_edit.specs.declared.refusal.Refusal.{Refusal}
use Rattle.sii_edit.specs.Alias.{with_alias}
use Rattle.sii_edit.specs.Refusal.{unless, of_entire, of_place}
use Rattle.sii_edit.specs.Command.{slave_of, causes_against, words_after, edited, edits_from, group_causes, grouped, is_missing, swap_causes, swapped, carried_out, outcome, unguarded}
use Rattle.sii_edit.specs.Fold.{after, contents}
use Rattle.sii_edit.proofs.UnlessLaws.{unless-ok, none_holds, complete_ok, place_ok, then_ok}
use Rattle.sii_edit.proofs.ProcessImageLaws.{with_process_image_accepts}
use Rattle.sii_edit.specs.Fitting.{IsWord, WordsFit, PlantFits, EditFits, CommandFits}
use Rattle.sii_edit.proofs.WordLaws.{word-at, fit-with_alias, fit-words_after}

pub words-fit : (plant : List (List ℕ)) (slave : ℕ) → PlantFits plant → WordsFit (words_of plant slave)
words-fit plant slave fits = elim (cases_lt slave (length plant)) [
  | inl there ↦ All-get_or WordsFit plant slave [] there fits
  | inr past ↦ rw (get_or_past plant slave [] past) (record { count = omega arith; each = All-nil IsWord })
]

fit-edited : (plant new : List (List ℕ)) (expect : Option Expect) (edit : Edit) → edited plant expect edit ≡ Ok new → EditFits edit → PlantFits plant → PlantFits new
fit-edited plant new expect edit validated small fits =
    let words = words_of plant (slave_of edit) in
    let tests = (is_missing plant (slave_of edit), NoSlave) ∷ causes_against expect edit words in
    let given : List (List ℕ) = slice_set plant (slave_of edit) (words_after edit words) in
    subst PlantFits (sym (unless-ok tests given new validated))
    (All-set WordsFit plant (slave_of edit) (words_after edit words) (fit-words_after expect edit words (none_holds tests given new validated).1 small (words-fit plant (slave_of edit) fits)) fits)

fit-swapped : (plant new : List (List ℕ)) (a b : ℕ) → swapped plant a b ≡ Ok new → PlantFits plant → PlantFits new
fit-swapped plant new a b validated fits =
    let of_a = words_of plant a in
    let of_b = words_of plant b in
    let fit_a = words-fit plant a fits in
    let fit_b = words-fit plant b fits in
    let new_a = with_alias of_a (alias_of of_b) in
    let new_b = with_alias of_b (alias_of of_a) in
    let once = slice_set plant a new_a in
    subst PlantFits (sym (unless-ok (swap_causes plant a b) (slice_set once b new_b) new validated))
    (All-set WordsFit once b new_b (fit-with_alias of_b (alias_of of_a) (word-at of_a 4 fit_a.each) fit_b)
    (All-set WordsFit plant a new_a (fit-with_alias of_a (alias_of of_b) (word-at of_b 4 fit_b.each) fit_a) fits))

abbrev AllFit : List GuardedEdit → Type 0
AllFit edits = All (λ (guarded : GuardedEdit). EditFits guarded.edit) edits

fit-edits : (place : ℕ) (plant new : List (List ℕ)) (edits : List GuardedEdit) → edits_from place plant edits ≡ Ok new → AllFit edits → PlantFits plant → PlantFits new
fit-edits place plant new [] validated small fits = let same : plant ≡ new = cc in subst PlantFits same fits
fit-edits place plant new (first ∷ others) validated small fits =
    let split = then_ok (of_place place (edited plant first.expect first.edit)) (λ (p : List (List ℕ)). edits_from (suc place) p others) new validated in
    let one = fit-edited plant split.0 first.expect first.edit (place_ok place (edited plant first.expect first.edit) split.0 split.1) (All-head (λ (g : GuardedEdit). EditFits g.edit) first others small) fits in
    fit-edits (suc place) split.0 new others split.2 (All-tail (λ (g : GuardedEdit). EditFits g.edit) first others small) one

fit-grouped : (plant new : List (List ℕ)) (edits : List GuardedEdit) → grouped plant edits ≡ Ok new → AllFit edits → PlantFits plant → PlantFits new
fit-grouped plant new edits validated small fits =
    let causes = group_causes (length edits) in
    let split = then_ok (of_entire (unless causes plant)) (λ (p : List (List ℕ)). edits_from 0 p edits) new validated in
    let start : split.0 ≡ plant = unless-ok causes plant split.0 (complete_ok (unless causes plant) split.0 split.1) in
    fit-edits 0 plant new edits (rw start at split.2) small fits

fit-carried_out : (plant new : List (List ℕ)) (command : Command) → carried_out plant command ≡ Ok new → CommandFits command → PlantFits plant → PlantFits new
fit-carried_out plant new (One edit) validated small fits = fit-edited plant new None edit (complete_ok (edited plant None edit) new validated) small fits
fit-carried_out plant new (Swap a b) validated small fits = fit-swapped plant new a b (complete_ok (swapped plant a b) new validated) fits
fit-carried_out plant new (Group edits) validated small fits = fit-grouped plant new (map unguarded edits) validated (All-map (λ (g : GuardedEdit). EditFits g.edit) unguarded edits small) fits
fit-carried_out plant new (Guarded edits) validated small fits = fit-grouped plant new edits validated small fits

pub fit-outcome : (plant new : List (List ℕ)) (command : Command) → outcome plant command ≡ Ok new → CommandFits command → PlantFits plant → PlantFits new
fit-outcome plant new command validated small fits = fit-carried_out plant new command (with_process_image_accepts (carried_out plant command) new validated) small fits

after-as : (plant : List (List ℕ)) (command : Command) (validated : Result (List (List ℕ)) Refusal) → outcome plant command ≡ validated → CommandFits command → PlantFits plant → PlantFits (after plant command)
after-as plant command (Ok new) is small fits = rw is (fit-outcome plant new command is small fits)
after-as plant command (Err refusal) is small fits = rw is fits

pub fit-after : (plant : List (List ℕ)) (command : Command) → CommandFits command → PlantFits plant → PlantFits (after plant command)
fit-after plant command small fits = after-as plant command (outcome plant command) refl small fits

pub fit-contents : (base : List (List ℕ)) (commands : List Command) → All CommandFits commands → PlantFits base → PlantFits (contents base commands)
fit-contents base [] small fits = fits
fit-contents base (command ∷ commands) small fits =
    fit-contents (after base command) commands (All-tail CommandFits command commands small) (fit-after base command (All-head CommandFits command commands small) fits)
