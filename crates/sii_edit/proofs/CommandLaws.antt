-- What a command gives, case by case.
use Rattle.std.proofs.Common.{◌≡◌, ◌≢◌, ◌⊎◌, ℕ, suc, ◌<◌, ◌≤◌, List, [], ◌∷◌, length, map, slice_set, refl, sym, ap, ◌∙◌, inl, inr, true, false, ◌%◌, Option, None, Result, Ok, Err, All, length-set, get_or-set_same, get_or-set_other}
use Rattle.std.specs.Prelude.{slice_index, not, ◌||◌}
use Rattle.std.proofs.lemmas.Bool.{cases_eq, cases_lt, le-leb, lt-leb, or_left, or_right, or_from, eq-eqb, ne_eqb}
use Rattle.std.proofs.lemmas.List.{set_past}
use Rattle.sii_words.specs.Words.{alias_of}
use Rattle.sii_words.specs.CheckByte.{check_byte_of, IsChecked}
use Rattle.sii_words.specs.Plant.{words_of}
use Rattle.sii_edit.specs.declared.command.Expect.{Expect}
use Rattle.sii_edit.specs.declared.command.Edit.{Edit}
use Rattle.sii_edit.specs.declared.command.Edit.TheVariants.{Alias, Category, Image}
use Rattle.sii_edit.specs.declared.command.GuardedEdit.{GuardedEdit}
use Rattle.sii_edit.specs.declared.command.Command.{Command}
use Rattle.sii_edit.specs.declared.command.Command.TheVariants.{One, Swap, Group, Guarded}
use Rattle.sii_edit.specs.declared.refusal.Cause.{Cause}
use Rattle.sii_edit.specs.declared.refusal.Cause.TheVariants.{NoSlave, SameSlave, BadCheck, ImageOverLimit, Memory}
use Rattle.sii_edit.specs.declared.refusal.Refusal.{Refusal}
use Rattle.sii_edit.specs.Alias.{with_alias, is_unchecked}
use Rattle.sii_words.specs.Redo.{SameShape, LiesInside, redone}
use Rattle.sii_words.specs.Run.{runs_between}
use Rattle.sii_words.specs.declared.run.Run.{Run}
use Rattle.sii_edit.specs.Refusal.{unless, entire, of_entire, of_place, IsCauseOf}
use Rattle.sii_edit.specs.Command.{slave_of, causes_against, words_after, edited_words, edited, edits_from, group_causes, grouped, is_missing, swap_causes, swapped, carried_out, has_process_image, with_process_image, outcome, unguarded}
use Rattle.sii_edit.proofs.AliasLaws.{length-with_alias}
use Rattle.sii_edit.proofs.ShapeLaws.{length-words_after}
use Rattle.sii_edit.proofs.UnlessLaws.{unless-ok, unless-change, unless-err, unless-stop, unless-pass, none_holds, NamesNoMemory, unless-not_memory, complete_ok, complete_err, place_ok, place_err, then_ok, then_err}
use Rattle.sii_edit.proofs.ProcessImageLaws.{with_process_image-has, with_process_image_accepts, with_process_image_refuses}
use Rattle.sii_words.proofs.RunLaws.{redone-runs_between, LiesInside-runs_between}

-- an edit of a slave that isn't there, and of one that is
pub edited-missing : (plant : List (List ℕ)) (expect : Option Expect) (edit : Edit) → length plant ≤ slave_of edit → edited plant expect edit ≡ Err NoSlave
edited-missing plant expect edit missing =
    unless-stop (is_missing plant (slave_of edit)) NoSlave (causes_against expect edit (words_of plant (slave_of edit))) (slice_set plant (slave_of edit) (words_after edit (words_of plant (slave_of edit))))
    (le-leb (length plant) (slave_of edit) missing)

edited-there : (plant : List (List ℕ)) (expect : Option Expect) (edit : Edit) → slave_of edit < length plant
    → edited plant expect edit ≡ unless (causes_against expect edit (words_of plant (slave_of edit))) (slice_set plant (slave_of edit) (words_after edit (words_of plant (slave_of edit))))
edited-there plant expect edit there =
    unless-pass (is_missing plant (slave_of edit)) NoSlave (causes_against expect edit (words_of plant (slave_of edit))) (slice_set plant (slave_of edit) (words_after edit (words_of plant (slave_of edit))))
    (lt-leb (length plant) (slave_of edit) there)

pub edited-ok : (plant : List (List ℕ)) (expect : Option Expect) (edit : Edit) (new : List ℕ) → slave_of edit < length plant
    → edited_words expect edit (words_of plant (slave_of edit)) ≡ Ok new → edited plant expect edit ≡ Ok (slice_set plant (slave_of edit) new)
edited-ok plant expect edit new there validated =
    let words : List ℕ = words_of plant (slave_of edit) in
    let after : List ℕ = words_after edit words in
    let is : new ≡ after = unless-ok (causes_against expect edit words) after new validated in
    edited-there plant expect edit there ∙ unless-change (causes_against expect edit words) after new (slice_set plant (slave_of edit) after) validated
    ∙ ap (λ (w : List ℕ). Ok (slice_set plant (slave_of edit) w)) (sym is)

pub edited-err : (plant : List (List ℕ)) (expect : Option Expect) (edit : Edit) (cause : Cause) → slave_of edit < length plant
    → edited_words expect edit (words_of plant (slave_of edit)) ≡ Err cause → edited plant expect edit ≡ Err cause
edited-err plant expect edit cause there validated =
    let words : List ℕ = words_of plant (slave_of edit) in
    edited-there plant expect edit there ∙ unless-err (causes_against expect edit words) (words_after edit words) (slice_set plant (slave_of edit) (words_after edit words)) cause validated

-- the new words are as many as the old ones
pub length-edited_words : (expect : Option Expect) (edit : Edit) (words new : List ℕ) → edited_words expect edit words ≡ Ok new → length new ≡ length words
length-edited_words expect edit words new validated =
    ap length (unless-ok (causes_against expect edit words) (words_after edit words) new validated)
    ∙ length-words_after expect edit words (none_holds (causes_against expect edit words) (words_after edit words) new validated)

-- a swap, refusal by refusal
pub swapped-missing : (plant : List (List ℕ)) (a b : ℕ) → (length plant ≤ a) ⊎ (length plant ≤ b) → swapped plant a b ≡ Err NoSlave
swapped-missing plant a b (inl missing) = rw (or_left (is_missing plant a) (is_missing plant b) (le-leb (length plant) a missing)) refl
swapped-missing plant a b (inr missing) = rw (or_right (is_missing plant a) (is_missing plant b) (le-leb (length plant) b missing)) refl

both_there : (plant : List (List ℕ)) (a b : ℕ) → a < length plant → b < length plant → (is_missing plant a || is_missing plant b) ≡ false
both_there plant a b a_there b_there = or_from (is_missing plant a) (is_missing plant b) (lt-leb (length plant) a a_there) (lt-leb (length plant) b b_there)

pub swapped-same : (plant : List (List ℕ)) (a b : ℕ) → a < length plant → b < length plant → a ≡ b → swapped plant a b ≡ Err SameSlave
swapped-same plant a b a_there b_there same = rw (both_there plant a b a_there b_there, eq-eqb a b same) refl

-- the test of the check byte, one way and the other
unchecked : (words : List ℕ) → ¬ IsChecked words → is_unchecked words ≡ true
unchecked words bad = ap not (ne_eqb (slice_index words 7 % 256) (check_byte_of words) bad)

checked : (words : List ℕ) → IsChecked words → is_unchecked words ≡ false
checked words right = ap not (eq-eqb (slice_index words 7 % 256) (check_byte_of words) right)

pub swapped-unchecked : (plant : List (List ℕ)) (a b : ℕ) → a < length plant → b < length plant → a ≢ b
    → (¬ IsChecked (words_of plant a)) ⊎ (¬ IsChecked (words_of plant b)) → swapped plant a b ≡ Err BadCheck
swapped-unchecked plant a b a_there b_there separate (inl bad) =
    rw (both_there plant a b a_there b_there, ne_eqb a b separate, or_left (is_unchecked (words_of plant a)) (is_unchecked (words_of plant b)) (unchecked (words_of plant a) bad)) refl
swapped-unchecked plant a b a_there b_there separate (inr bad) =
    rw (both_there plant a b a_there b_there, ne_eqb a b separate, or_right (is_unchecked (words_of plant a)) (is_unchecked (words_of plant b)) (unchecked (words_of plant b) bad)) refl

pub swapped-ok : (plant : List (List ℕ)) (a b : ℕ) → a < length plant → b < length plant → a ≢ b → IsChecked (words_of plant a) → IsChecked (words_of plant b)
    → swapped plant a b ≡ Ok (slice_set (slice_set plant a (with_alias (words_of plant a) (alias_of (words_of plant b)))) b (with_alias (words_of plant b) (alias_of (words_of plant a))))
swapped-ok plant a b a_there b_there separate a_checked b_checked =
    let right = or_from (is_unchecked (words_of plant a)) (is_unchecked (words_of plant b)) (checked (words_of plant a) a_checked) (checked (words_of plant b) b_checked) in
    rw (both_there plant a b a_there b_there, ne_eqb a b separate, right) refl

-- other words of one slave, as many as before
SameShape-set : (plant : List (List ℕ)) (slave : ℕ) (words : List ℕ) → length words ≡ length (words_of plant slave) → SameShape plant (slice_set plant slave words)
SameShape-set plant slave words size = record { slaves = length-set plant slave words; words = λ other. one other (cases_eq other slave) (cases_lt slave (length plant)) }
  where
    one : (other : ℕ) → (other ≡ slave) ⊎ (other ≢ slave) → (slave < length plant) ⊎ (length plant ≤ slave) → length (words_of (slice_set plant slave words) other) ≡ length (words_of plant other)
    one other (inr separate) place = ap length (get_or-set_other plant slave other words [] separate)
    one other (inl same) (inl there) = rw same (ap length (get_or-set_same plant slave words [] there) ∙ size)
    one other (inl same) (inr past) = rw (set_past plant slave words past) refl

pub SameShape-trans : (first second third : List (List ℕ)) → SameShape first second → SameShape second third → SameShape first third
SameShape-trans first second third one two = record { slaves = two.slaves ∙ one.slaves; words = λ slave. two.words slave ∙ one.words slave }

shape_edited : (plant new : List (List ℕ)) (expect : Option Expect) (edit : Edit) → edited plant expect edit ≡ Ok new → SameShape plant new
shape_edited plant new expect edit validated =
    let words : List ℕ = words_of plant (slave_of edit) in
    let tests = (is_missing plant (slave_of edit), NoSlave) ∷ causes_against expect edit words in
    let given : List (List ℕ) = slice_set plant (slave_of edit) (words_after edit words) in
    rw (unless-ok tests given new validated)
    (SameShape-set plant (slave_of edit) (words_after edit words) (length-words_after expect edit words (none_holds tests given new validated).1))

shape_swapped : (plant new : List (List ℕ)) (a b : ℕ) → swapped plant a b ≡ Ok new → SameShape plant new
shape_swapped plant new a b validated =
    let of_a = words_of plant a in
    let of_b = words_of plant b in
    let new_a = with_alias of_a (alias_of of_b) in
    let new_b = with_alias of_b (alias_of of_a) in
    let once = slice_set plant a new_a in
    let first : SameShape plant once = SameShape-set plant a new_a (length-with_alias of_a (alias_of of_b)) in
    rw (unless-ok (swap_causes plant a b) (slice_set once b new_b) new validated)
    (SameShape-trans plant once (slice_set once b new_b) first (SameShape-set once b new_b (length-with_alias of_b (alias_of of_a) ∙ sym (first.words b))))

shape_edits : (place : ℕ) (plant new : List (List ℕ)) (edits : List GuardedEdit) → edits_from place plant edits ≡ Ok new → SameShape plant new
shape_edits place plant new [] validated = let same : plant ≡ new = cc in rw (sym same) (record { slaves = refl; words = λ slave. refl })
shape_edits place plant new (first ∷ others) validated =
    let split = then_ok (of_place place (edited plant first.expect first.edit)) (λ (p : List (List ℕ)). edits_from (suc place) p others) new validated in
    SameShape-trans plant split.0 new
    (shape_edited plant split.0 first.expect first.edit (place_ok place (edited plant first.expect first.edit) split.0 split.1))
    (shape_edits (suc place) split.0 new others split.2)

shape_grouped : (plant new : List (List ℕ)) (edits : List GuardedEdit) → grouped plant edits ≡ Ok new → SameShape plant new
shape_grouped plant new edits validated =
    let causes = group_causes (length edits) in
    let split = then_ok (of_entire (unless causes plant)) (λ (p : List (List ℕ)). edits_from 0 p edits) new validated in
    let start : split.0 ≡ plant = unless-ok causes plant split.0 (complete_ok (unless causes plant) split.0 split.1) in
    shape_edits 0 plant new edits (rw start at split.2)

shape_carried_out : (plant new : List (List ℕ)) (command : Command) → carried_out plant command ≡ Ok new → SameShape plant new
shape_carried_out plant new (One edit) validated = shape_edited plant new None edit (complete_ok (edited plant None edit) new validated)
shape_carried_out plant new (Swap a b) validated = shape_swapped plant new a b (complete_ok (swapped plant a b) new validated)
shape_carried_out plant new (Group edits) validated = shape_grouped plant new (map unguarded edits) validated
shape_carried_out plant new (Guarded edits) validated = shape_grouped plant new edits validated

-- an accepted command keeps the shape of the plant
pub SameShape-outcome : (plant new : List (List ℕ)) (command : Command) → outcome plant command ≡ Ok new → SameShape plant new
SameShape-outcome plant new command validated = shape_carried_out plant new command (with_process_image_accepts (carried_out plant command) new validated)

-- the runs to the new contents lie inside the old ones, and redo of them gives the new ones
pub record Accepted (plant new : List (List ℕ)) (command : Command) (runs : List Run) : Type 0 where
  pub reached : redone plant runs ≡ new
  pub validated : outcome plant command ≡ Ok (redone plant runs)
  pub between : runs ≡ runs_between plant (redone plant runs)
  pub inside : All (LiesInside plant) runs

pub accepted : (plant new : List (List ℕ)) (command : Command) (runs : List Run) → carried_out plant command ≡ Ok new → has_process_image new ≡ true → runs ≡ runs_between plant new
    → Accepted plant new command runs
accepted plant new command runs carried has between =
    let validated : outcome plant command ≡ Ok new = ap with_process_image carried ∙ with_process_image-has new has in
    let there : redone plant runs ≡ new = rw between (redone-runs_between plant new (SameShape-outcome plant new command validated)) in
    record { reached = there; validated = rw there validated; between = rw there between; inside = rw between (LiesInside-runs_between plant new) }

-- the judgement of an edit of a slave's words is that of the edit
pub edited_refused : (plant : List (List ℕ)) (expect : Option Expect) (edit : Edit) (cause : Cause) → slave_of edit < length plant
    → IsCauseOf (edited_words expect edit (words_of plant (slave_of edit))) cause → IsCauseOf (edited plant expect edit) cause
edited_refused plant expect edit cause there (inl validated) = inl (edited-err plant expect edit cause there validated)
edited_refused plant expect edit cause there (inr memory) = inr memory

names_no_memory : (expect : Option Expect) (edit : Edit) (words : List ℕ) → NamesNoMemory (causes_against expect edit words)
names_no_memory expect (Alias slave value) words = (λ is. cc, (λ is. cc, tt))
names_no_memory expect (Category slave kind content) words = (λ is. cc, (λ is. cc, (λ is. cc, (λ is. cc, (λ is. cc, (λ is. cc, tt))))))
names_no_memory expect (Image slave image) words = (λ is. cc, (λ is. cc, (λ is. cc, (λ is. cc, (λ is. cc, tt)))))

not_memory_edited : (plant : List (List ℕ)) (expect : Option Expect) (edit : Edit) → edited plant expect edit ≢ Err Memory
not_memory_edited plant expect edit =
    let words : List ℕ = words_of plant (slave_of edit) in
    unless-not_memory ((is_missing plant (slave_of edit), NoSlave) ∷ causes_against expect edit words) (slice_set plant (slave_of edit) (words_after edit words)) (λ is. cc, names_no_memory expect edit words)

not_memory_swapped : (plant : List (List ℕ)) (a b : ℕ) → swapped plant a b ≢ Err Memory
not_memory_swapped plant a b =
    unless-not_memory (swap_causes plant a b)
    (slice_set (slice_set plant a (with_alias (words_of plant a) (alias_of (words_of plant b)))) b (with_alias (words_of plant b) (alias_of (words_of plant a))))
    (λ is. cc, (λ is. cc, (λ is. cc, tt)))

with_cause : {A : Type 0} (validated : Result A Cause) (cause : Cause) → validated ≡ Err cause → validated ≢ Err Memory → cause ≢ Memory
with_cause validated cause is not = λ memory. not (is ∙ ap (λ (c : Cause). Err c) memory)

not_memory_edits : (place : ℕ) (plant : List (List ℕ)) (edits : List GuardedEdit) (refusal : Refusal) → edits_from place plant edits ≡ Err refusal → refusal.cause ≢ Memory
not_memory_edits place plant [] refusal is = cc
not_memory_edits place plant (first ∷ others) refusal is =
    let validated = edited plant first.expect first.edit in
    elim (then_err (of_place place validated) (λ (p : List (List ℕ)). edits_from (suc place) p others) refusal is) [
      | inl here ↦ with_cause validated refusal.cause (place_err place validated refusal here) (not_memory_edited plant first.expect first.edit)
      | inr later ↦ not_memory_edits (suc place) later.0 others refusal later.2
    ]

not_memory_grouped : (plant : List (List ℕ)) (edits : List GuardedEdit) (refusal : Refusal) → grouped plant edits ≡ Err refusal → refusal.cause ≢ Memory
not_memory_grouped plant edits refusal is =
    let validated = unless (group_causes (length edits)) plant in
    elim (then_err (of_entire validated) (λ (p : List (List ℕ)). edits_from 0 p edits) refusal is) [
      | inl here ↦ with_cause validated refusal.cause (complete_err validated refusal here) (unless-not_memory (group_causes (length edits)) plant (λ is. cc, (λ is. cc, tt)))
      | inr later ↦ not_memory_edits 0 later.0 edits refusal later.2
    ]

not_memory_carried_out : (plant : List (List ℕ)) (command : Command) (refusal : Refusal) → carried_out plant command ≡ Err refusal → refusal.cause ≢ Memory
not_memory_carried_out plant (One edit) refusal is = with_cause (edited plant None edit) refusal.cause (complete_err (edited plant None edit) refusal is) (not_memory_edited plant None edit)
not_memory_carried_out plant (Swap a b) refusal is = with_cause (swapped plant a b) refusal.cause (complete_err (swapped plant a b) refusal is) (not_memory_swapped plant a b)
not_memory_carried_out plant (Group edits) refusal is = not_memory_grouped plant (map unguarded edits) refusal is
not_memory_carried_out plant (Guarded edits) refusal is = not_memory_grouped plant edits refusal is

over_limit : (refusal : Refusal) → refusal ≡ entire ImageOverLimit → refusal.cause ≢ Memory
over_limit refusal is = λ memory. let never : ImageOverLimit ≡ Memory = sym (ap (λ (r : Refusal). r.cause) is) ∙ memory in cc

-- the definition of a command never gives `Memory`
pub not_memory : (plant : List (List ℕ)) (command : Command) (refusal : Refusal) → outcome plant command ≡ Err refusal → refusal.cause ≢ Memory
not_memory plant command refusal is =
    elim (with_process_image_refuses (carried_out plant command) refusal is) [
      | inl before ↦ not_memory_carried_out plant command refusal before
      | inr over ↦ over_limit refusal over
    ]
