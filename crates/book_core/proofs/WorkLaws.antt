-- A change of the slaves alone keeps the book's invariant.
use Rattle.std.proofs.Common.{◌≡◌, ℕ, suc, ◌<◌, ◌≤◌, Bool, true, false, List, [], ◌∷◌, ◌++◌, length, take, Option, Some, None, refl, sym, ◌∙◌, ap, subst, arith}
use Rattle.std.specs.Prelude.{is_some, if◌then◌else◌}
use Rattle.std.proofs.lemmas.List.{append-nil, length-map}
use Rattle.sii_words.specs.declared.run.Run.{Run}
use Rattle.jrn_format.specs.declared.journal.Entry.{Entry}
use Rattle.jrn_format.specs.Halves.{Place}
use Rattle.book_model.specs.Cells.{Cell}
use Rattle.book_model.specs.declared.fault.Fault.{Fault}
use Rattle.book_model.specs.Entries.{runs_of, namings}
use Rattle.book_model.specs.Pending.{first}
use Rattle.book_model.specs.Book.{Slave, Operation, NoOperation, all_cells, IsAbout, Settling}
use Rattle.book_model.specs.Reading.{runs_settled, settled_prefix}
use Rattle.book_model.specs.Fits.{OwesNoMore}
use Rattle.book_model.proofs.BookLaws.{length-all_cells}
use Rattle.book_model.proofs.SettlingLaws.{prefix-stays}
use Rattle.book_parts.specs.Line.{LineState, slave_at, with_slave, to_do, with_issue, with_written}
use Rattle.book_parts.specs.Room.{Room}
use Rattle.book_parts.specs.Ledger.{Ledger, own}
use Rattle.book_parts.specs.Shown.{Shown}
use Rattle.book_core.specs.declared.step.Step.{Step}
use Rattle.book_core.specs.declared.step.Step.TheVariants.{Resting, Payload, PayloadSync, OpenGate, OpenSync, CloseGate, CloseSync, FarGate, Mark, MarkSync, Version, VersionSync}
use Rattle.book_core.specs.Stands.{cell_counts, runs_each, OperationStands, OperationsStand, IsAppending, IsRetiring, StepStands, applied_of, live_for, named_since, PartsStand}
use Rattle.book_core.proofs.SlaveLaws.{GoesOn, counts-set, owes-set, operations-set, issued_slave, issued-goes, operation-issued, written_slave, written-goes, operation-written}
use Rattle.book_core.proofs.RomLaws.{to_do-inside}
use Rattle.book_core.proofs.WearLaws.{issue-owed}

-- The live entries and their room stay, as do the numbers of words, and nothing more is owed.
pub record Moves (old new : LineState) : Type 0 where
  pub older : new.older ≡ old.older
  pub newer : new.newer ≡ old.newer
  pub rooms : new.rooms ≡ old.rooms
  pub counts : cell_counts new.slaves ≡ cell_counts old.slaves
  pub owed : OwesNoMore (all_cells old.slaves) (all_cells new.slaves) []

pub moves-one : (line : LineState) (i : ℕ) (s : Slave) → i < length line.slaves → GoesOn (slave_at line i) s → Moves line (with_slave line i s)
moves-one line i s within goes = record {
  older = refl;
  newer = refl;
  rooms = refl;
  counts = counts-set line.slaves i s goes.words;
  owed = owes-set line.slaves i s within goes;
}

same-slaves : (old new : LineState) → Moves old new → length new.slaves ≡ length old.slaves
same-slaves old new moves =
    sym (length-map new.slaves (λ (s : Slave). length s.cells)) ∙ ap length moves.counts ∙ length-map old.slaves (λ (s : Slave). length s.cells)

same-cells : (old new : LineState) → Moves old new → length (all_cells new.slaves) ≡ length (all_cells old.slaves)
same-cells old new moves = length-all_cells new.slaves ∙ same-slaves old new moves ∙ sym (length-all_cells old.slaves)

-- ---- what is settled stays so

was-yes : (b : Bool) (n m : ℕ) → suc n ≤ (if b then suc m else 0) → b ≡ true
was-yes true n m le = refl
was-yes false n m le = absurd (omega arith)

pub settled-later : (cells later : List (List Cell)) (after : List Entry) (runs : List Run) → length later ≡ length cells → OwesNoMore cells later []
    → runs_settled cells (runs_of after) runs ≡ true → runs_settled later (runs_of after) runs ≡ true
settled-later cells later after runs same owes is =
    let first : Entry = record { number = 0; runs = runs } in
    let le : settled_prefix cells (first ∷ after) ≤ settled_prefix later ((first ∷ after) ++ []) = prefix-stays cells later (first ∷ after) [] same owes in
    let all : settled_prefix cells (first ∷ after) ≤ settled_prefix later (first ∷ after) = subst (λ (l : List Entry). settled_prefix cells (first ∷ after) ≤ settled_prefix later l) (append-nil (first ∷ after)) le in
    was-yes (runs_settled later (runs_of after) runs) (settled_prefix cells after) (settled_prefix later after)
    (subst (λ (b : Bool). (if b then suc (settled_prefix cells after) else 0) ≤ settled_prefix later (first ∷ after)) is all)

pub applied-later : (found : List Entry) (ledger : Ledger) (old new : LineState) → Moves old new → applied_of found ledger old ≤ applied_of found ledger new
applied-later found ledger old new moves =
    let entries : List Entry = found ++ take ledger.durable (own ledger) in
    let le : settled_prefix (all_cells old.slaves) entries ≤ settled_prefix (all_cells new.slaves) (entries ++ []) = prefix-stays (all_cells old.slaves) (all_cells new.slaves) entries [] (same-cells old new moves) moves.owed in
    let all : settled_prefix (all_cells old.slaves) entries ≤ settled_prefix (all_cells new.slaves) entries = subst (λ (l : List Entry). settled_prefix (all_cells old.slaves) entries ≤ settled_prefix (all_cells new.slaves) l) (append-nil entries) le in
    omega (arith, all)

-- ---- the step

appending-later : (place : Place) (area : Room) (ledger : Ledger) (old new : LineState) → Moves old new → IsAppending place area ledger old → IsAppending place area ledger new
appending-later place area ledger old new moves is = record {
  version_2 = is.version_2;
  in_older = is.in_older;
  payload = is.payload;
  fit = is.fit;
  room = λ i inside. rw moves.rooms (is.room i (omega (arith, same-slaves old new moves)));
}

retiring-later : (ledger : Ledger) (old new : LineState) → Moves old new → IsRetiring ledger old → IsRetiring ledger new
retiring-later ledger old new moves is = record {
  no_append = is.no_append;
  settled = rw (moves.older, moves.newer) (settled-later (all_cells old.slaves) (all_cells new.slaves) old.newer (runs_of old.older) (same-cells old new moves) moves.owed is.settled);
}

step-later : (step : Step) (area : Room) (ledger : Ledger) (old new : LineState) → Moves old new → StepStands step area ledger old → StepStands step area ledger new
step-later Resting area ledger old new moves is = is
step-later (Payload spot) area ledger old new moves is = appending-later _ area ledger old new moves is
step-later (PayloadSync spot) area ledger old new moves is = appending-later _ area ledger old new moves is
step-later (OpenGate spot) area ledger old new moves is = appending-later _ area ledger old new moves is
step-later (OpenSync spot) area ledger old new moves is = appending-later _ area ledger old new moves is
step-later CloseGate area ledger old new moves is = retiring-later ledger old new moves is
step-later CloseSync area ledger old new moves is = retiring-later ledger old new moves is
step-later FarGate area ledger old new moves is = is
step-later Mark area ledger old new moves is = is
step-later MarkSync area ledger old new moves is = is
step-later Version area ledger old new moves is = is
step-later VersionSync area ledger old new moves is = is

-- ---- all of it

pub moved-stands : (words : List (List ℕ)) (found : List Entry) (area : Room) (step : Step) (ledger : Ledger) (old new : LineState) (shown : Shown) (fault later : Option Fault)
    → Moves old new → OperationsStand found ledger later new → PartsStand words found area step ledger old shown fault → PartsStand words found area step ledger new shown later
moved-stands words found area step ledger old new shown fault later moves operations stands = record {
  base = stands.base;
  old_journal = stands.old_journal;
  durable = stands.durable;
  cells = moves.counts ∙ stands.cells;
  operations = operations;
  live = record { older = ap runs_each moves.older ∙ stands.live.older; newer = ap runs_each moves.newer ∙ stands.live.newer };
  latest = record { gone = stands.latest.gone; all = rw (moves.older, moves.newer) stands.latest.all };
  doing = step-later step area ledger old new moves stands.doing;
  is_shown = record { contents = stands.is_shown.contents; few = omega (arith, stands.is_shown.few, applied-later found ledger old new moves) };
}

-- one slave goes on
pub slave-stands : (words : List (List ℕ)) (found : List Entry) (area : Room) (step : Step) (ledger : Ledger) (work : LineState) (shown : Shown) (fault later : Option Fault) (i : ℕ) (s : Slave)
    → (is_some later ≡ false → is_some fault ≡ false) → i < length work.slaves → GoesOn (slave_at work i) s → OperationStands (named_since found ledger i) (live_for work i) later s
    → PartsStand words found area step ledger work shown fault → PartsStand words found area step ledger (with_slave work i s) shown later
slave-stands words found area step ledger work shown fault later i s same within goes operation stands =
    moved-stands words found area step ledger work (with_slave work i s) shown fault later (moves-one work i s within goes) (operations-set found ledger fault later work i s same within stands.operations operation) stands

-- another errand of a slave
pub operation-stands : (words : List (List ℕ)) (found : List Entry) (area : Room) (step : Step) (ledger : Ledger) (work : LineState) (shown : Shown) (fault later : Option Fault) (i : ℕ) (operation : Operation)
    → (is_some later ≡ false → is_some fault ≡ false) → i < length work.slaves → OperationStands (named_since found ledger i) (live_for work i) later (record (slave_at work i) { operation = operation })
    → PartsStand words found area step ledger work shown fault → PartsStand words found area step ledger (with_slave work i (record (slave_at work i) { operation = operation })) shown later
operation-stands words found area step ledger work shown fault later i operation same within here stands =
    slave-stands words found area step ledger work shown fault later i (record (slave_at work i) { operation = operation }) same within (record { words = refl; owed = λ at. omega arith }) here stands

-- a free slave's next word is handed out to be issued
pub issue-stands : (words : List (List ℕ)) (found : List Entry) (area : Room) (step : Step) (ledger : Ledger) (work : LineState) (shown : Shown) (fault : Option Fault) (i : ℕ) (o : Option (ℕ × ℕ))
    → o ≡ first (to_do work i) → i < length work.slaves → (slave_at work i).operation ≡ NoOperation → is_some fault ≡ false
    → PartsStand words found area step ledger work shown fault → PartsStand words found area step ledger (with_issue work i o) shown fault
issue-stands words found area step ledger work shown fault i None is within vacant none stands = stands
issue-stands words found area step ledger work shown fault i (Some w) is within vacant none stands =
    let inside : w.0 < length (slave_at work i).cells = to_do-inside (slave_at work i).cells (namings (runs_of (work.older ++ work.newer)) i) w (sym is) in
    let owed = issue-owed (live_for work i) (slave_at work i).cells w (stands.operations i within).last (sym is) in
    slave-stands words found area step ledger work shown fault fault i (issued_slave (slave_at work i) w.0 w.1) (λ none. none) within (issued-goes (slave_at work i) w.0 w.1 inside)
    (operation-issued (named_since found ledger i) (live_for work i) fault (slave_at work i) w.0 w.1 vacant none inside owed.0 owed.1 (stands.operations i within)) stands

-- the errand's word is written
pub write-stands : (words : List (List ℕ)) (found : List Entry) (area : Room) (step : Step) (ledger : Ledger) (work : LineState) (shown : Shown) (fault : Option Fault) (i word value : ℕ) (taken : Bool)
    → i < length work.slaves → (slave_at work i).operation ≡ Settling word value taken
    → PartsStand words found area step ledger work shown fault → PartsStand words found area step ledger (with_written work i word value) shown fault
write-stands words found area step ledger work shown fault i word value taken within is stands =
    let inside : word < length (slave_at work i).cells = (stands.operations i within).word word (subst (λ (e : Operation). IsAbout e word) (sym is) refl) in
    slave-stands words found area step ledger work shown fault fault i (written_slave (slave_at work i) word value) (λ none. none) within (written-goes (slave_at work i) word value inside)
    (operation-written (named_since found ledger i) (live_for work i) fault (slave_at work i) word value taken is inside (stands.operations i within)) stands
