-- The invariant that ties the parts of the running book to one another.
use Rattle.std.specs.Prelude.{◌≡◌, ◌≤◌, ◌<◌, ℕ, ◌+◌, ◌-◌, true, false, List, [], ◌++◌, length, map, take, Option, is_some}
use Rattle.sii_words.specs.declared.run.Run.{Run}
use Rattle.sii_words.specs.Redo.{redone}
use Rattle.jrn_format.specs.declared.journal.Entry.{Entry}
use Rattle.jrn_format.specs.declared.journal.Form.TheVariants.{Two}
use Rattle.jrn_format.specs.Batch.{PayloadFits}
use Rattle.jrn_format.specs.Halves.{Halves, Place, InOlder, live, batches_in, fits}
use Rattle.book_model.specs.Cells.{Cell, since, cell_of}
use Rattle.book_model.specs.declared.fault.Fault.{Fault}
use Rattle.book_model.specs.Pending.{values_of}
use Rattle.book_model.specs.Entries.{namings, runs_of, entries_of, sizes_of}
use Rattle.book_model.specs.Book.{Slave, Operation, NoOperation, Issuing, Unsettled, Settling, IsAbout, all_cells, is_version_2}
use Rattle.book_model.specs.Reading.{settled_prefix}
use Rattle.book_model.specs.Owed.{IsAmong, IsUnsure, due}
use Rattle.book_model.specs.Worn.{named_for, SlaveWorn}
use Rattle.book_parts.specs.Line.{LineState, HasRoom, is_settled, slave_at}
use Rattle.book_parts.specs.Room.{Room, half_room}
use Rattle.book_parts.specs.Spot.{as_place}
use Rattle.book_parts.specs.Ledger.{Ledger, own, appended}
use Rattle.book_parts.specs.Shown.{Shown, IsAfter}
use Rattle.book_core.specs.declared.step.Step.{Step}
use Rattle.book_core.specs.declared.step.Step.TheVariants.{Resting, Payload, PayloadSync, OpenGate, OpenSync, CloseGate, CloseSync, FarGate, Mark, MarkSync, Version, VersionSync}
use Rattle.book_core.specs.declared.book.Core.TheInside.{Inside}

-- ---- the slaves

-- The number of cells of each slave.
abbrev pub cell_counts : List Slave → List ℕ
cell_counts slaves = map (λ (s : Slave). length s.cells) slaves

-- The errand's word is owed its value, and what the word holds is unknown.
abbrev pub IsOwed : Operation → List Cell → Type 0
IsOwed NoOperation cells = Unit {0}
IsOwed (Issuing word value) cells = IsUnsure (cell_of cells word).known × IsAmong value (cell_of cells word).owed
IsOwed (Unsettled word value taken) cells = IsUnsure (cell_of cells word).known × IsAmong value (cell_of cells word).owed
IsOwed (Settling word value taken) cells = IsUnsure (cell_of cells word).known × IsAmong value (cell_of cells word).owed

-- A word that is owed anything is last owed the value that these namings give it last.
abbrev pub OwesLast : List (ℕ × ℕ) → List Cell → Type 0
OwesLast live cells = (at word : ℕ) → 0 < length (cell_of cells at).owed → due word (cell_of cells at).owed ≡ due word (values_of at live)

-- The errand is about a word of the slave, and its value is owed. Without a fault, no word has had more than three issues since it was
-- known, and a word that the errand isn't about at most two. So the slave is spared wear. `named`: how many words were named for it
-- since the open. `live`: the namings that are live.
pub record OperationStands (named : ℕ) (live : List (ℕ × ℕ)) (fault : Option Fault) (slave : Slave) : Type 0 where
  pub word : (at : ℕ) → IsAbout slave.operation at → at < length slave.cells
  pub issues : is_some fault ≡ false → (at : ℕ) → since (cell_of slave.cells at).known ≤ 3
  pub others : is_some fault ≡ false → (at : ℕ) → ¬ (IsAbout slave.operation at) → since (cell_of slave.cells at).known ≤ 2
  pub worn : SlaveWorn named (is_some fault) slave
  pub owed : IsOwed slave.operation slave.cells
  pub last : OwesLast live slave.cells

-- How many words the entries found at the open and the durable commands name for slave i.
abbrev pub named_since : List Entry → Ledger → ℕ → ℕ
named_since found ledger i = named_for (found ++ take ledger.durable (own ledger)) i

-- The live namings of slave i.
abbrev pub live_for : LineState → ℕ → List (ℕ × ℕ)
live_for work i = namings (runs_of (work.older ++ work.newer)) i

-- This holds of each slave of the line.
abbrev pub OperationsStand : List Entry → Ledger → Option Fault → LineState → Type 0
OperationsStand found ledger fault work = (i : ℕ) → i < length work.slaves
    → OperationStands (named_since found ledger i) (live_for work i) fault (slave_at work i)

-- ---- the live entries

-- The runs of each entry.
abbrev pub runs_each : List Entry → List (List Run)
runs_each entries = map (λ (e : Entry). e.runs) entries

-- In each half the live entries have the same runs as the entries of the live batches.
pub record HasLive (halves : Halves) (work : LineState) : Type 0 where
  pub older : runs_each work.older ≡ runs_each (entries_of halves.older)
  pub newer : runs_each work.newer ≡ runs_each (entries_of halves.newer)

-- An entry found at the open, with the number 0.
abbrev pub as_found : Entry → Entry
as_found entry = record entry { number = 0 }

-- The live entries are the last of all that have been live since the open; those before them are retired.
pub record AreLatest (found : List Entry) (ledger : Ledger) (work : LineState) : Type 0 where
  pub gone : List Entry
  pub all : gone ++ (work.older ++ work.newer) ≡ map as_found found ++ take ledger.durable (own ledger)

-- ---- the step

-- A batch is being appended in version 2: it fits at its place, and memory is reserved for its words.
pub record IsAppending (place : Place) (area : Room) (ledger : Ledger) (work : LineState) : Type 0 where
  pub version_2 : area.form ≡ Two
  pub in_older : place ≡ InOlder → area.halves.newer ≡ []
  pub payload : PayloadFits (appended ledger)
  pub fit : fits (half_room area) (batches_in area.halves place) (appended ledger) ≡ true
  pub room : HasRoom work (runs_of (appended ledger))

-- The older half is being retired: nothing is being appended, and all its words are settled.
pub record IsRetiring (ledger : Ledger) (work : LineState) : Type 0 where
  pub no_append : ledger.begun ≡ 0
  pub settled : is_settled work ≡ true

-- The journal is being migrated: nothing is being appended, and nothing is live.
pub record IsMigrating (area : Room) (ledger : Ledger) : Type 0 where
  pub no_append : ledger.begun ≡ 0
  pub nothing : live area.halves ≡ []

-- What each step of the disk requires of the other parts.
abbrev pub StepStands : Step → Room → Ledger → LineState → Type 0
StepStands Resting area ledger work = ledger.begun ≡ 0
StepStands (Payload spot) area ledger work = IsAppending (as_place spot) area ledger work
StepStands (PayloadSync spot) area ledger work = IsAppending (as_place spot) area ledger work
StepStands (OpenGate spot) area ledger work = IsAppending (as_place spot) area ledger work
StepStands (OpenSync spot) area ledger work = IsAppending (as_place spot) area ledger work
StepStands CloseGate area ledger work = IsRetiring ledger work
StepStands CloseSync area ledger work = IsRetiring ledger work
StepStands FarGate area ledger work = IsMigrating area ledger
StepStands Mark area ledger work = IsMigrating area ledger
StepStands MarkSync area ledger work = IsMigrating area ledger
StepStands Version area ledger work = IsMigrating area ledger
StepStands VersionSync area ledger work = IsMigrating area ledger

-- ---- the contents for plans

-- How many accepted commands are settled from the first on; 0 until all entries found at the open are settled.
abbrev pub applied_of : List Entry → Ledger → LineState → ℕ
applied_of found ledger work = settled_prefix (all_cells work.slaves) (found ++ take ledger.durable (own ledger)) - length found

-- The contents kept for plans are those after a prefix of the settled commands.
pub record IsShown (found : List Entry) (ledger : Ledger) (work : LineState) (shown : Shown) : Type 0 where
  pub contents : IsAfter ledger.base ledger.accepted shown
  pub few : shown.count ≤ applied_of found ledger work

-- ---- all parts together

-- The whole invariant, of the parts one by one.
pub record PartsStand (words : List (List ℕ)) (found : List Entry) (area : Room) (step : Step) (ledger : Ledger) (work : LineState)
    (shown : Shown) (fault : Option Fault) : Type 0 where
  pub base : ledger.base ≡ redone words (runs_of found)
  pub old_journal : is_version_2 area.form ≡ false → ledger.accepted ≡ []
  pub durable : ledger.durable + ledger.begun ≤ length ledger.accepted
  pub cells : cell_counts work.slaves ≡ sizes_of words
  pub operations : OperationsStand found ledger fault work
  pub live : HasLive area.halves work
  pub latest : AreLatest found ledger work
  pub doing : StepStands step area ledger work
  pub is_shown : IsShown found ledger work shown

-- The invariant of the running book.
abbrev pub Stands : Inside → Type 0
Stands core = PartsStand core.words.value core.found core.area core.step core.ledger core.work core.shown core.fault
