-- The book: what it was opened with, what it has accepted since, and its current action on the disk and on each slave.
use Rattle.std.specs.Prelude.{◌≡◌, ℕ, ◌+◌, ◌*◌, ◌/◌, Bool, true, false, ◌||◌, List, [], ◌∷◌, length, take, drop, slice_set, slice_index_or, Option, Some, None, is_some}
use Rattle.sii_edit.specs.declared.command.Command.{Command}
use Rattle.sii_words.specs.Redo.{redone}
use Rattle.sii_edit.specs.Fold.{contents}
use Rattle.jrn_format.specs.declared.journal.Entry.{Entry}
use Rattle.jrn_format.specs.declared.journal.Form.{Form}
use Rattle.jrn_format.specs.declared.journal.Form.TheVariants.{One, Two, Moving}
use Rattle.book_model.specs.declared.fault.Fault.{Fault}
use Rattle.book_model.specs.Cells.{Cell, nothing, cell_of}
use Rattle.book_model.specs.Entries.{runs_of, entries_from}
use Rattle.jrn_format.specs.Halves.{Halves, Place}

-- The step of the disk that is handed out, or will be next. An append has four steps, with the place of its batch and its entries;
-- a retire has two; a migration has five, or four if it was interrupted before and has its mark.
pub data Doing : Type 0 where
  -- nothing to do
  Resting : Doing
  -- append: write the batch after its gate, sync, open the gate, sync
  Payload : Place → List Entry → Doing
  PayloadSync : Place → List Entry → Doing
  OpenGate : Place → List Entry → Doing
  OpenSync : Place → List Entry → Doing
  -- retire: close the first gate of the older half, sync
  CloseGate : Doing
  CloseSync : Doing
  -- migration: close the first gate of half 1, write the mark, sync, write the version byte, sync
  FarGate : Doing
  Mark : Doing
  MarkSync : Doing
  Version : Doing
  VersionSync : Doing

-- The book's action on a slave. Issuing and Settling are handed out; Unsettled waits until its settle is handed out. `taken`: the
-- slave is known to have taken the datagram.
pub data Operation : Type 0 where
  NoOperation : Operation
  Issuing : (word value : ℕ) → Operation
  Unsettled : (word value : ℕ) (taken : Bool) → Operation
  Settling : (word value : ℕ) (taken : Bool) → Operation

-- The action on the slave is about this word.
abbrev pub IsAbout : Operation → ℕ → Type 0
IsAbout NoOperation at = ⊥
IsAbout (Issuing word value) at = word ≡ at
IsAbout (Unsettled word value taken) at = word ≡ at
IsAbout (Settling word value taken) at = word ≡ at

-- A slave as the book knows it: a cell for each word, the action on the slave, and the number of issues since the open, which only
-- contracts use.
pub record Slave : Type 0 where
  pub cells : List Cell
  pub operation : Operation
  pub issues : ℕ

-- The state of the book.
pub record Book : Type 0 where
  -- the words as read at the open, and the entries that were live then
  pub words : List (List ℕ)
  pub found : List Entry
  -- the length of the journal's area, in bytes
  pub capacity : ℕ
  pub form : Form
  pub halves : Halves
  pub doing : Doing
  pub is_handed_out : Bool
  pub accepted : List Command
  pub durable : ℕ
  pub slaves : List Slave
  pub is_finished : Bool
  pub is_migrating : Bool
  pub fault : Option Fault

-- The contents at the open: the words as read, after redo of the entries that were live then.
abbrev pub base_of : Book → List (List ℕ)
base_of book = redone book.words (runs_of book.found)

-- The contents after all accepted commands.
abbrev pub contents_of : Book → List (List ℕ)
contents_of book = contents (base_of book) book.accepted

-- The accepted commands as entries, numbered from 0.
abbrev pub own : Book → List Entry
own book = entries_from 0 (base_of book) book.accepted

-- A book that was finished, or has a fault, accepts no command.
abbrev pub is_closed : Book → Bool
is_closed book = book.is_finished || is_some book.fault

-- Only a journal of version 2 takes commands.
abbrev pub is_version_2 : Form → Bool
is_version_2 One = false
is_version_2 Two = true
is_version_2 Moving = false

-- ---- the queue

-- The place and the entries of the batch that is being appended.
abbrev pub appended : Doing → Option (Place × List Entry)
appended (Payload place entries) = Some (place, entries)
appended (PayloadSync place entries) = Some (place, entries)
appended (OpenGate place entries) = Some (place, entries)
appended (OpenSync place entries) = Some (place, entries)
appended doing = None

-- The entries of that batch.
abbrev pub being_appended : Option (Place × List Entry) → List Entry
being_appended (Some a) = a.1
being_appended None = []

-- The queue: accepted commands that are neither durable nor being appended.
abbrev pub queued : Book → List Entry
queued book = drop (book.durable + length (being_appended (appended book.doing))) (own book)

-- ---- offsets in the journal

-- The length of a half, in bytes.
abbrev pub room : Book → ℕ
room book = book.capacity / 2

-- The file offset of a half, in bytes.
abbrev pub half_at : Book → ℕ → ℕ
half_at book half = 8 + half * room book

-- ---- the slaves

-- The default for a slave that the line doesn't have.
abbrev pub nobody : Slave
nobody = record { cells = []; operation = NoOperation; issues = 0 }

-- Slave i.
abbrev pub slave_at : Book → ℕ → Slave
slave_at book i = slice_index_or book.slaves i nobody

-- The book with slave i replaced.
abbrev pub with_slave : Book → ℕ → Slave → Book
with_slave book i slave = record book { slaves = slice_set book.slaves i slave }

-- The cells of all slaves.
abbrev pub all_cells : List Slave → List (List Cell)
all_cells [] = []
all_cells (slave ∷ slaves) = slave.cells ∷ all_cells slaves

-- The cell of word `at` of a slave.
abbrev pub cell_at : List (List Cell) → ℕ → ℕ → Cell
cell_at cells slave at = cell_of (slice_index_or cells slave []) at

-- ---- faults

-- A book keeps its first fault.
abbrev pub first_fault : Option Fault → Fault → Fault
first_fault (Some old) fault = old
first_fault None fault = fault

-- The book after a fault.
abbrev pub with_fault : Book → Fault → Book
with_fault book fault = record book { fault = Some (first_fault book.fault fault) }
