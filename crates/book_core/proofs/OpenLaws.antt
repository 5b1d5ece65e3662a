-- The invariant of a book that was just opened.
use Rattle.std.proofs.Common.{◌≡◌, inl, ℕ, zero, suc, ◌+◌, ◌<◌, List, [], ◌∷◌, ◌++◌, length, get_or, map, None, refl, sym, ◌∙◌, ap, subst, arith}
use Rattle.std.proofs.lemmas.Bool.{eq-eqb}
use Rattle.std.specs.List.{AllByRecursion, filter}
use Rattle.std.specs.Prelude.{◌==◌, not, true}
use Rattle.std.proofs.lemmas.List.{append-nil, get_or-map, length-map, map-append}
use Rattle.std.proofs.lemmas.Grind.{flat_map-append}
use Rattle.sii_words.specs.declared.run.Run.{Run}
use Rattle.sii_words.specs.Redo.{redone}
use Rattle.jrn_format.specs.declared.journal.Entry.{Entry}
use Rattle.jrn_format.specs.declared.journal.Batch.{Batch}
use Rattle.jrn_format.specs.declared.journal.Form.{Form}
use Rattle.jrn_format.specs.declared.journal.Form.TheVariants.{One, Two, Moving}
use Rattle.jrn_format.specs.declared.journal.Spelling.TheVariants.{Plain}
use Rattle.jrn_format.specs.Batch.{CanStand}
use Rattle.jrn_format.specs.Halves.{live}
use Rattle.jrn_format.specs.Live.{halves_in, FitForm}
use Rattle.book_model.specs.Cells.{since, cell_of, opened}
use Rattle.book_model.specs.Entries.{namings, runs_of, entries_of, live_runs, sizes_of}
use Rattle.book_model.specs.Book.{Slave, NoOperation, nobody}
use Rattle.book_model.specs.Open.{opened_slave, owing_slaves}
use Rattle.book_model.specs.Worn.{named_for, owed_in}
use Rattle.book_parts.specs.Line.{LineState}
use Rattle.book_parts.proofs.OwingLaws.{sizes-owing}
use Rattle.book_parts.specs.Room.{Room}
use Rattle.book_parts.specs.Ledger.{Ledger}
use Rattle.book_parts.specs.Ledger as ledgers
use Rattle.book_parts.specs.Shown.{Shown}
use Rattle.book_core.specs.declared.step.Step.TheVariants as steps
use Rattle.book_core.specs.Stands.{as_found, cell_counts, runs_each, OperationStands, OperationsStand, live_for, PartsStand}
use Rattle.book_core.specs.OpenedState.{TakenUp, IsTaken}
use Rattle.book_core.proofs.LiveLaws.{operations-owed}
use Rattle.book_core.proofs.RunLaws.{same-runs}

-- ---- the batches stand in their halves

same-test : (n m : ℕ) → n ≡ m → (n == m) ≡ true
same-test n m is = eq-eqb n m is

all-here : (half : ℕ) (batches : List Batch) → half ≡ 0 → AllByRecursion (CanStand Plain 0) batches → filter (λ (b : Batch). b.half == half) batches ≡ batches
all-here half [] first can = refl
all-here half (b ∷ bs) first can =
    let t : (b.half == half) ≡ true = same-test b.half half (can.0.of_half ∙ sym first) in
    rw t (ap (λ (l : List Batch). b ∷ l) (all-here half bs first can.1))

none-there : (half : ℕ) (batches : List Batch) → half ≡ 0 → AllByRecursion (CanStand Plain 0) batches → filter (λ (b : Batch). not (b.half == half)) batches ≡ []
none-there half [] first can = refl
none-there half (b ∷ bs) first can =
    let t : (b.half == half) ≡ true = same-test b.half half (can.0.of_half ∙ sym first) in
    rw t (none-there half bs first can.1)

one-live : (batches : List Batch) → AllByRecursion (CanStand Plain 0) batches → live (halves_in batches) ≡ batches
one-live [] can = refl
one-live (b ∷ bs) can =
    ap (λ (l : List Batch). (b ∷ l) ++ filter (λ (x : Batch). not (x.half == b.half)) bs) (all-here b.half bs can.0.of_half can.1)
    ∙ ap (λ (l : List Batch). (b ∷ bs) ++ l) (none-there b.half bs can.0.of_half can.1) ∙ append-nil (b ∷ bs)

pub form-live : (form : Form) (capacity : ℕ) (batches : List Batch) → FitForm form capacity batches → live (halves_in batches) ≡ batches
form-live One capacity batches fit = one-live batches fit.can_stand
form-live Two capacity batches fit = fit.1
form-live Moving capacity batches fit = ap (λ (l : List Batch). live (halves_in l)) fit ∙ sym fit

-- ---- the slaves as they were read

counts-opened : (words : List (List ℕ)) → cell_counts (map opened_slave words) ≡ sizes_of words
counts-opened [] = refl
counts-opened (w ∷ ws) = ap (λ (n : ℕ). n ∷ cell_counts (map opened_slave ws)) (length-opened w) ∙ ap (λ (l : List ℕ). length w ∷ l) (counts-opened ws)
  where
    length-opened : (values : List ℕ) → length (map opened values) ≡ length values
    length-opened [] = refl
    length-opened (v ∷ vs) = ap suc (length-opened vs)

pub opened-counts : (line : LineState) (words : List (List ℕ)) → line.slaves ≡ map opened_slave words → cell_counts line.slaves ≡ sizes_of words
opened-counts line words is = ap cell_counts is ∙ counts-opened words

opened-vacant : (words : List (List ℕ)) (i : ℕ) → (get_or (map opened_slave words) i nobody).operation ≡ NoOperation
opened-vacant [] i = refl
opened-vacant (w ∷ ws) zero = refl
opened-vacant (w ∷ ws) (suc i) = opened-vacant ws i

word-known : (values : List ℕ) (at : ℕ) → since (cell_of (map opened values) at).known ≡ 0
word-known [] at = refl
word-known (v ∷ vs) zero = refl
word-known (v ∷ vs) (suc at) = word-known vs at

opened-known : (words : List (List ℕ)) (i at : ℕ) → since (cell_of (get_or (map opened_slave words) i nobody).cells at).known ≡ 0
opened-known [] i at = refl
opened-known (w ∷ ws) zero at = word-known w at
opened-known (w ∷ ws) (suc i) at = opened-known ws i at

none-owed : (values : List ℕ) → owed_in (map opened values) ≡ 0
none-owed [] = refl
none-owed (v ∷ vs) = none-owed vs

word-owed : (values : List ℕ) (at : ℕ) → (cell_of (map opened values) at).owed ≡ []
word-owed [] at = refl
word-owed (v ∷ vs) zero = refl
word-owed (v ∷ vs) (suc at) = word-owed vs at

-- a slave whose words were just read: nothing was named for it yet
operation-read : (values : List ℕ) → OperationStands 0 [] None (opened_slave values)
operation-read values = record {
  word = λ at is. absurd is;
  issues = λ none at. omega (arith, word-known values at);
  others = λ none at not. omega (arith, word-known values at);
  worn = record {
    few = omega (arith, none-owed values);
    most = λ at. omega (arith, word-known values at);
    three = λ at. omega (arith, word-known values at);
    calm = λ ok at. inl (omega (arith, word-known values at));
  };
  owed = tt;
  last = λ at w some. let none : length (cell_of (map opened values) at).owed ≡ 0 = ap (λ (l : List ℕ). length l) (word-owed values at) in absurd (omega (arith, some, none));
}

operation-opened : (runs : List Run) (words : List (List ℕ)) (i : ℕ) → i < length (owing_slaves runs 0 (map opened_slave words))
    → OperationStands (length (namings runs i)) (namings runs i) None (get_or (owing_slaves runs 0 (map opened_slave words)) i nobody)
operation-opened runs words i inside =
    let count : 0 + length (namings runs i) ≡ length (namings runs i) = omega arith in
    subst (λ (n : ℕ). OperationStands n (namings runs i) None (get_or (owing_slaves runs 0 (map opened_slave words)) i nobody)) count
    (operations-owed (λ k. 0) (λ k. []) None runs (map opened_slave words) (owing_slaves runs 0 (map opened_slave words)) refl
    (λ k within. subst (OperationStands 0 [] None) (sym (get_or-map opened_slave words k [] nobody (omega (arith, within, length-map words opened_slave)))) (operation-read (get_or words k []))) i inside)

-- the errands of a book that was just opened
operations-found : (batches : List Batch) (words : List (List ℕ)) (work : LineState) → work.slaves ≡ owing_slaves (live_runs batches) 0 (map opened_slave words) → runs_of (work.older ++ work.newer) ≡ live_runs batches
    → OperationsStand (entries_of batches) (ledgers.opened (redone words (live_runs batches))) None work
operations-found batches words work slaves runs = λ i inside.
    let within : i < length (owing_slaves (live_runs batches) 0 (map opened_slave words)) = subst (λ (l : List Slave). i < length l) slaves inside in
    let named : length (namings (live_runs batches) i) ≡ named_for (entries_of batches ++ []) i = ap (λ (l : List Entry). named_for l i) (sym (append-nil (entries_of batches))) in
    subst (λ (l : List Slave). OperationStands (named_for (entries_of batches ++ []) i) (live_for work i) None (get_or l i nobody)) (sym slaves)
    (subst (λ (n : ℕ). OperationStands n (live_for work i) None (get_or (owing_slaves (live_runs batches) 0 (map opened_slave words)) i nobody)) named
    (subst (λ (l : List (ℕ × ℕ)). OperationStands (length (namings (live_runs batches) i)) l None (get_or (owing_slaves (live_runs batches) 0 (map opened_slave words)) i nobody)) (ap (λ (l : List Run). namings l i) (sym runs))
    (operation-opened (live_runs batches) words i within)))

-- ---- all of it

each-found : (entries : List Entry) → runs_each (map as_found entries) ≡ runs_each entries
each-found [] = refl
each-found (e ∷ es) = ap (λ (l : List (List Run)). e.runs ∷ l) (each-found es)

pub is-taken : (words : List (List ℕ)) (batches : List Batch) (line work : LineState) → line.slaves ≡ map opened_slave words → line.older ≡ [] → line.newer ≡ [] → TakenUp batches line work → IsTaken words batches work
is-taken words batches line work slaves older newer taken = record {
  slaves = taken.slaves ∙ ap (owing_slaves (live_runs batches) 0) slaves;
  older = taken.older ∙ ap (λ (l : List Entry). l ++ map as_found (entries_of (halves_in batches).older)) older;
  newer = taken.newer ∙ ap (λ (l : List Entry). l ++ map as_found (entries_of (halves_in batches).newer)) newer;
}

all-found : (batches : List Batch) (work : LineState) (words : List (List ℕ)) → live (halves_in batches) ≡ batches → IsTaken words batches work → work.older ++ work.newer ≡ map as_found (entries_of batches) ++ []
all-found batches work words all taken =
    ap (λ (l : List Entry). l ++ work.newer) taken.older
    ∙ ap (λ (l : List Entry). map as_found (entries_of (halves_in batches).older) ++ l) taken.newer
    ∙ sym (map-append as_found (entries_of (halves_in batches).older) (entries_of (halves_in batches).newer))
    ∙ ap (map as_found) (sym (flat_map-append (λ (b : Batch). b.entries) (halves_in batches).older (halves_in batches).newer))
    ∙ ap (λ (l : List Batch). map as_found (entries_of l)) all
    ∙ sym (append-nil (map as_found (entries_of batches)))

first-stands : (words : List (List ℕ)) (form : Form) (capacity : ℕ) (batches : List Batch) (work : LineState) → live (halves_in batches) ≡ batches → IsTaken words batches work
    → PartsStand words (entries_of batches) (record { form = form; capacity = capacity; halves = halves_in batches }) steps.Resting (ledgers.opened (redone words (live_runs batches))) work
    (record { contents = redone words (live_runs batches); count = 0 }) None
first-stands words form capacity batches work all taken = record {
  base = refl;
  old_journal = λ is. refl;
  durable = omega arith;
  cells = ap cell_counts taken.slaves ∙ sizes-owing (live_runs batches) 0 (map opened_slave words) ∙ counts-opened words;
  operations = operations-found batches words work taken.slaves
      (ap runs_of (all-found batches work words all taken ∙ append-nil (map as_found (entries_of batches)))
      ∙ same-runs (map as_found (entries_of batches)) (entries_of batches) (each-found (entries_of batches)));
  live = record {
    older = ap runs_each taken.older ∙ each-found (entries_of (halves_in batches).older);
    newer = ap runs_each taken.newer ∙ each-found (entries_of (halves_in batches).newer);
  };
  latest = record { gone = []; all = all-found batches work words all taken };
  doing = refl;
  is_shown = record { contents = refl; few = omega arith };
}

pub opened-stands : (words : List (List ℕ)) (form : Form) (capacity : ℕ) (batches : List Batch) (found : List Entry) (area : Room) (ledger : Ledger) (work : LineState) (shown : Shown)
    → live (halves_in batches) ≡ batches → IsTaken words batches work → found ≡ entries_of batches → area ≡ record { form = form; capacity = capacity; halves = halves_in batches }
    → ledger ≡ ledgers.opened (redone words (live_runs batches)) → shown ≡ record { contents = redone words (live_runs batches); count = 0 }
    → PartsStand words found area steps.Resting ledger work shown None
opened-stands words form capacity batches found area ledger work shown all taken found_is area_is ledger_is shown_is =
    subst (λ (f : List Entry). PartsStand words f area steps.Resting ledger work shown None) (sym found_is)
    (subst (λ (a : Room). PartsStand words (entries_of batches) a steps.Resting ledger work shown None) (sym area_is)
    (subst (λ (l : Ledger). PartsStand words (entries_of batches) (record { form = form; capacity = capacity; halves = halves_in batches }) steps.Resting l work shown None) (sym ledger_is)
    (subst (λ (s : Shown). PartsStand words (entries_of batches) (record { form = form; capacity = capacity; halves = halves_in batches }) steps.Resting (ledgers.opened (redone words (live_runs batches))) work s None) (sym shown_is)
    (first-stands words form capacity batches work all taken))))
