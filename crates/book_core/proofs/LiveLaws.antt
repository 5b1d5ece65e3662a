-- The book's invariant holds again once a batch goes live, the older half is retired, or a migration ends.
use Rattle.std.proofs.Common.{◌≡◌, ℕ, zero, suc, ◌+◌, ◌<◌, ◌≤◌, true, List, [], ◌∷◌, ◌++◌, length, get_or, map, take, Option, Some, refl, sym, ◌∙◌, ap, subst, arith, append_assoc, length-append, add-zero, suc-add, add-suc}
use Rattle.std.specs.Prelude.{is_some}
use Rattle.std.proofs.Math.Seq.{take-add}
use Rattle.std.proofs.lemmas.List.{append-nil, map-append}
use Rattle.std.proofs.lemmas.List.Concat.{flat_map-append}
use Rattle.sii_words.specs.declared.run.Run.{Run}
use Rattle.jrn_format.specs.declared.journal.Entry.{Entry}
use Rattle.jrn_format.specs.declared.journal.Batch.{Batch}
use Rattle.jrn_format.specs.declared.journal.Form.TheVariants.{Two}
use Rattle.jrn_format.specs.Halves.{Halves, Place, InOlder, InNewer, with_batch, batch_in, live, left_of}
use Rattle.jrn_format.specs.Halves as halves
use Rattle.book_model.specs.Cells.{Cell, cell_of}
use Rattle.book_model.specs.declared.fault.Fault.{Fault}
use Rattle.book_model.specs.Pending.{namings_settled}
use Rattle.book_model.specs.Entries.{namings, runs_of, entries_of, values}
use Rattle.book_model.specs.Book.{Slave, Operation, nobody, all_cells, cell_at, IsAbout}
use Rattle.book_model.specs.Open.{owing_words, owing_slaves}
use Rattle.book_model.specs.Reading.{settled_prefix}
use Rattle.book_model.specs.Fits.{OwesNoMore}
use Rattle.book_model.specs.Worn.{named_for}
use Rattle.book_model.proofs.BookLaws.{cells_of, length-all_cells}
use Rattle.book_model.proofs.CellLaws.{length-all_named, namings-append}
use Rattle.book_model.proofs.FitLaws.{runs_of-append}
use Rattle.book_model.proofs.SettlingLaws.{prefix-stays, slave-settled}
use Rattle.book_model.proofs.WornSlaves.{worn-failed, worn-owing}
use Rattle.book_parts.specs.Line.{LineState, is_settled, slave_at, retired}
use Rattle.book_parts.proofs.OwingLaws.{SameButOwed, owed-slave, owing-keeps, slave-owing, sizes-owing, length-owing_slaves}
use Rattle.book_parts.specs.Room.{Room}
use Rattle.book_parts.specs.Ledger.{Ledger, own, appended, gone_durable}
use Rattle.book_parts.specs.Shown.{Shown}
use Rattle.book_core.specs.declared.step.Step.{Step}
use Rattle.book_core.specs.declared.step.Step.TheVariants.{Resting}
use Rattle.book_core.specs.Stands.{as_found, OperationStands, OperationsStand, runs_each, HasLive, AreLatest, OwesLast, applied_of, live_for, named_since, PartsStand}
use Rattle.book_core.specs.Live.{joined, with_live}
use Rattle.book_core.proofs.WearLaws.{last-left, last-owing, owed-owing}

-- ---- the slaves

pub joined-slaves : (place : Place) (line : LineState) (entries : List Entry) → (joined place line entries).slaves ≡ owing_slaves (runs_of entries) 0 line.slaves
joined-slaves InOlder line entries = refl
joined-slaves InNewer line entries = refl

operation-owed : (named : ℕ) (live : List (ℕ × ℕ)) (fault : Option Fault) (runs : List Run) (i : ℕ) (old : Slave) → SameButOwed old (owed-slave runs i old) → OperationStands named live fault old
    → OperationStands (named + length (namings runs i)) (live ++ namings runs i) fault (owed-slave runs i old)
operation-owed named live fault runs i old same stands = record {
  word = λ at is. let inside : at < length old.cells = stands.word at (subst (λ (e : Operation). IsAbout e at) same.operation is) in omega (arith, same.words);
  issues = λ none at. rw (same.known at) (stands.issues none at);
  others = λ none at not. rw (same.known at) (stands.others none at (λ is. not (subst (λ (e : Operation). IsAbout e at) (sym same.operation) is)));
  worn = worn-owing named (is_some fault) old runs i stands.worn;
  owed = owed-owing runs i old.cells old.operation stands.owed;
  last = last-owing runs i live old.cells stands.last;
}

pub operations-owed : (named : ℕ → ℕ) (live : ℕ → List (ℕ × ℕ)) (fault : Option Fault) (runs : List Run) (slaves later : List Slave) → later ≡ owing_slaves runs 0 slaves
    → ((i : ℕ) → i < length slaves → OperationStands (named i) (live i) fault (get_or slaves i nobody)) → (i : ℕ) → i < length later
    → OperationStands (named i + length (namings runs i)) (live i ++ namings runs i) fault (get_or later i nobody)
operations-owed named live fault runs slaves later is stand i inside =
    let within : i < length slaves = omega (arith, ap length is, length-owing_slaves runs 0 slaves) in
    let old = get_or slaves i nobody in
    let new_is : get_or later i nobody ≡ owed-slave runs i old =
    ap (λ (l : List Slave). get_or l i nobody) is ∙ slave-owing runs 0 slaves i within ∙ ap (λ (n : ℕ). owed-slave runs n old) (omega arith) in
    let same : SameButOwed old (owed-slave runs i old) = subst (SameButOwed old) (ap (λ (l : List Slave). get_or l i nobody) (sym is) ∙ new_is) (owing-keeps runs 0 slaves i) in
    subst (OperationStands (named i + length (namings runs i)) (live i ++ namings runs i) fault) (sym new_is) (operation-owed (named i) (live i) fault runs i old same (stand i within))

-- what is named since the open, and what is live, once the batch has gone live
named-joined : (found : List Entry) (ledger : Ledger) (i : ℕ) → named_since found ledger i + length (namings (runs_of (appended ledger)) i) ≡ named_since found (gone_durable ledger) i
named-joined found ledger i =
    let before : List Entry = found ++ take ledger.durable (own ledger) in
    let all : before ++ appended ledger ≡ found ++ take (ledger.durable + ledger.begun) (own ledger) =
    append_assoc found (take ledger.durable (own ledger)) (appended ledger) ∙ ap (λ (l : List Entry). found ++ l) (sym (take-add ledger.durable ledger.begun (own ledger))) in
    let both : namings (runs_of (before ++ appended ledger)) i ≡ namings (runs_of before) i ++ namings (runs_of (appended ledger)) i =
    ap (λ (l : List Run). namings l i) (runs_of-append before (appended ledger)) ∙ namings-append (runs_of before) (runs_of (appended ledger)) i in
    sym (length-append (namings (runs_of before) i) (namings (runs_of (appended ledger)) i)) ∙ sym (ap length both) ∙ ap (λ (l : List Entry). named_for l i) all

operations-joined : (place : Place) (found : List Entry) (ledger : Ledger) (fault : Option Fault) (work : LineState) → (joined place work (appended ledger)).older ++ (joined place work (appended ledger)).newer ≡ (work.older ++ work.newer) ++ appended ledger
    → OperationsStand found ledger fault work → OperationsStand found (gone_durable ledger) fault (joined place work (appended ledger))
operations-joined place found ledger fault work after stand = λ i inside.
    let runs = runs_of (appended ledger) in
    let new = joined place work (appended ledger) in
    let here = operations-owed (named_since found ledger) (live_for work) fault runs work.slaves new.slaves (joined-slaves place work (appended ledger)) stand i inside in
    let live_is : live_for work i ++ namings runs i ≡ live_for new i =
    sym (namings-append (runs_of (work.older ++ work.newer)) runs i) ∙ ap (λ (l : List Run). namings l i) (sym (runs_of-append (work.older ++ work.newer) (appended ledger)) ∙ ap runs_of (sym after)) in
    subst (λ (n : ℕ). OperationStands n (live_for new i) fault (get_or new.slaves i nobody)) (named-joined found ledger i)
    (subst (λ (l : List (ℕ × ℕ)). OperationStands (named_since found ledger i + length (namings runs i)) l fault (get_or new.slaves i nobody)) live_is here)

pub owes-word : (runs : List Run) (slave first : ℕ) (cells : List Cell) (k : ℕ)
    → length (cell_of (owing_words runs slave first cells) k).owed ≤ length (cell_of cells k).owed + length (values runs slave (first + k))
owes-word runs slave first [] k = omega arith
owes-word runs slave first (c ∷ cs) zero = rw add-zero (length-all_named c.known c.owed (values runs slave first))
owes-word runs slave first (c ∷ cs) (suc k) = rw (add-suc first k, ← suc-add first k) (owes-word runs slave (suc first) cs k)

pub owes-slave : (runs : List Run) (first : ℕ) (slaves : List Slave) (k at : ℕ)
    → length (cell_at (all_cells (owing_slaves runs first slaves)) k at).owed ≤ length (cell_at (all_cells slaves) k at).owed + length (values runs (first + k) at)
owes-slave runs first [] k at = omega arith
owes-slave runs first (s ∷ ss) zero at =
    rw add-zero (subst (λ (n : ℕ). length (cell_of (owing_words runs first 0 s.cells) at).owed ≤ length (cell_of s.cells at).owed + length (values runs first n)) (omega arith) (owes-word runs first 0 s.cells at))
owes-slave runs first (s ∷ ss) (suc k) at = rw (add-suc first k, ← suc-add first k) (owes-slave runs (suc first) ss k at)

pub owes-joined : (runs : List Run) (slaves : List Slave) → OwesNoMore (all_cells slaves) (all_cells (owing_slaves runs 0 slaves)) runs
owes-joined runs slaves = λ k at. subst (λ (n : ℕ). length (cell_at (all_cells (owing_slaves runs 0 slaves)) k at).owed ≤ length (cell_at (all_cells slaves) k at).owed + length (values runs n at)) (omega arith) (owes-slave runs 0 slaves k at)

-- ---- a batch goes live

each-more : (entries more : List Entry) (batches : List Batch) (batch : Batch) → batch.entries ≡ more → runs_each entries ≡ runs_each (entries_of batches)
    → runs_each (entries ++ more) ≡ runs_each (entries_of (batches ++ batch ∷ []))
each-more entries more batches batch is same =
    map-append (λ (e : Entry). e.runs) entries more ∙ ap (λ (l : List (List Run)). l ++ runs_each more) same
    ∙ ap (λ (l : List Entry). runs_each (entries_of batches) ++ runs_each l) (sym is)
    ∙ sym (map-append (λ (e : Entry). e.runs) (entries_of batches) batch.entries)
    ∙ ap (λ (l : List Entry). runs_each (entries_of batches ++ l)) (sym (append-nil batch.entries))
    ∙ ap runs_each (sym (flat_map-append (λ (b : Batch). b.entries) batches (batch ∷ [])))

live-joined : (place : Place) (halves : Halves) (work : LineState) (entries : List Entry) → HasLive halves work → HasLive (with_batch halves place (batch_in halves place entries)) (joined place work entries)
live-joined InOlder halves work entries has = record { older = each-more work.older entries halves.older (batch_in halves InOlder entries) refl has.older; newer = has.newer }
live-joined InNewer halves work entries has = record { older = has.older; newer = each-more work.newer entries halves.newer (batch_in halves InNewer entries) refl has.newer }

no-entries : (entries : List Entry) → runs_each entries ≡ [] → entries ≡ []
no-entries [] is = refl
no-entries (e ∷ es) is = absurd (cc is)

-- while nothing is live in the newer half
pub none-newer : (halves : Halves) (work : LineState) → HasLive halves work → halves.newer ≡ [] → work.newer ≡ []
none-newer halves work has none = no-entries work.newer (has.newer ∙ ap (λ (l : List Batch). runs_each (entries_of l)) none)

after-all : (place : Place) (work : LineState) (entries : List Entry) → (place ≡ InOlder → work.newer ≡ []) → (joined place work entries).older ++ (joined place work entries).newer ≡ (work.older ++ work.newer) ++ entries
after-all InOlder work entries alone =
    let none = alone refl in
    ap (λ (l : List Entry). (work.older ++ entries) ++ l) none ∙ append-nil (work.older ++ entries)
    ∙ ap (λ (l : List Entry). l ++ entries) (sym (append-nil work.older) ∙ ap (λ (l : List Entry). work.older ++ l) (sym none))
after-all InNewer work entries alone = sym (append_assoc work.older work.newer entries)

latest-joined : (place : Place) (found : List Entry) (ledger : Ledger) (work : LineState) → (place ≡ InOlder → work.newer ≡ []) → AreLatest found ledger work → AreLatest found (gone_durable ledger) (joined place work (appended ledger))
latest-joined place found ledger work alone latest = record {
  gone = latest.gone;
  all = ap (λ (l : List Entry). latest.gone ++ l) (after-all place work (appended ledger) alone) ∙ sym (append_assoc latest.gone (work.older ++ work.newer) (appended ledger))
      ∙ ap (λ (l : List Entry). l ++ appended ledger) latest.all ∙ append_assoc (map as_found found) (take ledger.durable (own ledger)) (appended ledger)
      ∙ ap (λ (l : List Entry). map as_found found ++ l) (sym (take-add ledger.durable ledger.begun (own ledger)));
}

applied-joined : (place : Place) (found : List Entry) (ledger : Ledger) (work : LineState) → applied_of found ledger work ≤ applied_of found (gone_durable ledger) (joined place work (appended ledger))
applied-joined place found ledger work =
    let runs = runs_of (appended ledger) in
    let cells = all_cells work.slaves in
    let later = all_cells (owing_slaves runs 0 work.slaves) in
    let entries : List Entry = found ++ take ledger.durable (own ledger) in
    let same : length later ≡ length cells = length-all_cells (owing_slaves runs 0 work.slaves) ∙ length-owing_slaves runs 0 work.slaves ∙ sym (length-all_cells work.slaves) in
    let le : settled_prefix cells entries ≤ settled_prefix later (entries ++ appended ledger) = prefix-stays cells later entries (appended ledger) same (owes-joined runs work.slaves) in
    let all : entries ++ appended ledger ≡ found ++ take (ledger.durable + ledger.begun) (own ledger) =
    append_assoc found (take ledger.durable (own ledger)) (appended ledger) ∙ ap (λ (l : List Entry). found ++ l) (sym (take-add ledger.durable ledger.begun (own ledger))) in
    let up : settled_prefix cells entries ≤ settled_prefix (all_cells (joined place work (appended ledger)).slaves) (found ++ take (ledger.durable + ledger.begun) (own ledger)) =
    rw (joined-slaves place work (appended ledger), ← all) le in
    omega (arith, up)

pub live-stands : (words : List (List ℕ)) (found : List Entry) (area : Room) (step : Step) (ledger : Ledger) (work : LineState) (shown : Shown) (fault : Option Fault) (place : Place)
    → (place ≡ InOlder → work.newer ≡ []) → PartsStand words found area step ledger work shown fault
    → PartsStand words found (with_live place area (appended ledger)) Resting (gone_durable ledger) (joined place work (appended ledger)) shown fault
live-stands words found area step ledger work shown fault place alone stands = record {
  base = stands.base;
  old_journal = stands.old_journal;
  durable = omega (arith, stands.durable);
  cells = ap (λ (l : List Slave). map (λ (s : Slave). length s.cells) l) (joined-slaves place work (appended ledger)) ∙ sizes-owing (runs_of (appended ledger)) 0 work.slaves ∙ stands.cells;
  operations = operations-joined place found ledger fault work (after-all place work (appended ledger) alone) stands.operations;
  live = live-joined place area.halves work (appended ledger) stands.live;
  latest = latest-joined place found ledger work alone stands.latest;
  doing = refl;
  is_shown = record { contents = stands.is_shown.contents; few = omega (arith, stands.is_shown.few, applied-joined place found ledger work) };
}

-- ---- the older half is retired

live-left : (halves : Halves) (newer : List Batch) (work : LineState) → runs_each work.newer ≡ runs_each (entries_of newer) → HasLive (left_of halves newer) (retired work)
live-left halves [] work same = record { older = same; newer = refl }
live-left halves (b ∷ newer) work same = record { older = same; newer = refl }

-- the live namings are those of the newer half then
operations-left : (found : List Entry) (ledger : Ledger) (fault : Option Fault) (work : LineState) → is_settled work ≡ true → OperationsStand found ledger fault work → OperationsStand found ledger fault (retired work)
operations-left found ledger fault work settled stand = λ i inside.
    let s = stand i inside in
    let cells = (slave_at work i).cells in
    let older = namings (runs_of work.older) i in
    let newer = namings (runs_of work.newer) i in
    let both : live_for work i ≡ older ++ newer = ap (λ (l : List Run). namings l i) (runs_of-append work.older work.newer) ∙ namings-append (runs_of work.older) (runs_of work.newer) i in
    let left : live_for (retired work) i ≡ newer = ap (λ (l : List Entry). namings (runs_of l) i) (append-nil work.newer) in
    let at : namings_settled (get_or (all_cells work.slaves) i []) newer older ≡ true =
    subst (λ (n : ℕ). namings_settled (get_or (all_cells work.slaves) i []) (namings (runs_of work.newer) n) (namings (runs_of work.older) n) ≡ true) (omega arith)
    (slave-settled 0 (all_cells work.slaves) (runs_of work.newer) (runs_of work.older) i settled (omega (arith, inside, length-all_cells work.slaves))) in
    let here : namings_settled cells newer older ≡ true = subst (λ (c : List Cell). namings_settled c newer older ≡ true) (cells_of work.slaves i) at in
    record {
      word = s.word;
      issues = s.issues;
      others = s.others;
      worn = s.worn;
      owed = s.owed;
      last = subst (λ (l : List (ℕ × ℕ)). OwesLast l cells) (sym left) (last-left older newer cells here (subst (λ (l : List (ℕ × ℕ)). OwesLast l cells) both s.last));
    }

pub retired-stands : (words : List (List ℕ)) (found : List Entry) (area : Room) (step : Step) (ledger : Ledger) (work : LineState) (shown : Shown) (fault : Option Fault)
    → ledger.begun ≡ 0 → is_settled work ≡ true → PartsStand words found area step ledger work shown fault
    → PartsStand words found (record area { halves = halves.retired area.halves }) Resting ledger (retired work) shown fault
retired-stands words found area step ledger work shown fault none settled stands = record {
  base = stands.base;
  old_journal = stands.old_journal;
  durable = stands.durable;
  cells = stands.cells;
  operations = operations-left found ledger fault work settled stands.operations;
  live = live-left area.halves area.halves.newer work stands.live.newer;
  latest = record {
    gone = stands.latest.gone ++ work.older;
    all = ap (λ (l : List Entry). (stands.latest.gone ++ work.older) ++ l) (append-nil work.newer) ∙ append_assoc stands.latest.gone work.older work.newer ∙ stands.latest.all;
  };
  doing = none;
  is_shown = record { contents = stands.is_shown.contents; few = stands.is_shown.few };
}

-- ---- a migration ends

pub migrated-stands : (words : List (List ℕ)) (found : List Entry) (area : Room) (step : Step) (ledger : Ledger) (work : LineState) (shown : Shown) (fault : Option Fault)
    → ledger.begun ≡ 0 → PartsStand words found area step ledger work shown fault
    → PartsStand words found (record area { form = Two }) Resting ledger work shown fault
migrated-stands words found area step ledger work shown fault none stands = record {
  base = stands.base;
  old_journal = λ is. absurd (cc is);
  durable = stands.durable;
  cells = stands.cells;
  operations = stands.operations;
  live = record { older = stands.live.older; newer = stands.live.newer };
  latest = record { gone = stands.latest.gone; all = stands.latest.all };
  doing = none;
  is_shown = record { contents = stands.is_shown.contents; few = stands.is_shown.few };
}

-- ---- a fault

pub failed-stands : (words : List (List ℕ)) (found : List Entry) (area : Room) (step : Step) (ledger : Ledger) (work : LineState) (shown : Shown) (fault : Option Fault) (first : Fault)
    → PartsStand words found area step ledger work shown fault → PartsStand words found area step ledger work shown (Some first)
failed-stands words found area step ledger work shown fault first stands = record {
  base = stands.base;
  old_journal = stands.old_journal;
  durable = stands.durable;
  cells = stands.cells;
  operations = λ i inside.
      let s = stands.operations i inside in record {
        word = s.word;
        issues = λ none at. absurd (cc none);
        others = λ none at not. absurd (cc none);
        worn = worn-failed (named_since found ledger i) (is_some fault) (slave_at work i) (slave_at work i).operation s.worn;
        owed = s.owed;
        last = s.last;
      };
  live = stands.live;
  latest = stands.latest;
  doing = stands.doing;
  is_shown = stands.is_shown;
}
