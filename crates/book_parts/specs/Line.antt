-- What remains to be written to the slaves of a line, as contracts see it.
use Rattle.std.specs.Prelude.{◌≡◌, ℕ, suc, ◌+◌, ◌-◌, ◌<◌, ◌≤◌, List, [], ◌∷◌, ◌++◌, length, slice_index_or, slice_set, Bool, Option, Some, None, if◌then◌else◌}
use Rattle.std.specs.List.Sorted.{IsNonDecreasingBy}
use Rattle.sii_words.specs.declared.run.Run.{Run}
use Rattle.jrn_format.specs.declared.journal.Entry.{Entry}
use Rattle.book_model.specs.Entries.{runs_of, namings, values}
use Rattle.book_model.specs.Cells.{Cell, asked, written, cell_of}
use Rattle.book_model.specs.Pending as pending
use Rattle.book_model.specs.Book.{Slave, nobody, all_cells, cell_at, NoOperation, Issuing}
use Rattle.book_model.specs.Open.{owing_slaves}
use Rattle.book_model.specs.Reading.{runs_settled}

-- The slaves, the live entries of the older half and of the newer one, and for each slave how many more words can be named without
-- taking memory (`rooms`).
pub record LineState : Type 0 where
  pub slaves : List Slave
  pub older : List Entry
  pub newer : List Entry
  pub rooms : List ℕ

-- The run names words of this line.
pub record IsOfLine (slaves : List Slave) (run : Run) : Type 0 where
  pub slave : run.slave < length slaves
  pub words : run.first + length run.words ≤ length (slice_index_or slaves run.slave nobody).cells

-- All runs do.
abbrev pub AreOfLine : List Slave → List Run → Type 0
AreOfLine slaves [] = Unit {0}
AreOfLine slaves (run ∷ runs) = IsOfLine slaves run × AreOfLine slaves runs

-- The numbers of the entries never fall.
abbrev pub NeverFall : List Entry → Type 0
NeverFall entries = IsNonDecreasingBy (λ (e : Entry). e.number) entries

-- Memory is reserved for the words that the runs name.
abbrev pub HasRoom : LineState → List Run → Type 0
HasRoom line runs = (i : ℕ) → i < length line.slaves → length (namings runs i) ≤ slice_index_or line.rooms i 0

-- Only the reserved memory may differ.
pub record SameButRooms (old new : LineState) : Type 0 where
  pub slaves : new.slaves ≡ old.slaves
  pub older : new.older ≡ old.older
  pub newer : new.newer ≡ old.newer

-- The memory left to the slaves, counted from slave i on, once the runs are live.
abbrev pub rooms_left : List Run → ℕ → List ℕ → List ℕ
rooms_left runs i [] = []
rooms_left runs i (room ∷ rooms) = (room - length (namings runs i)) ∷ rooms_left runs (suc i) rooms

-- The entries go live in the older half.
abbrev pub with_older : LineState → List Entry → LineState
with_older line entries =
    record {
      slaves = owing_slaves (runs_of entries) 0 line.slaves;
      older = line.older ++ entries;
      newer = line.newer;
      rooms = rooms_left (runs_of entries) 0 line.rooms;
    }

-- The entries go live in the newer half.
abbrev pub with_newer : LineState → List Entry → LineState
with_newer line entries =
    record {
      slaves = owing_slaves (runs_of entries) 0 line.slaves;
      older = line.older;
      newer = line.newer ++ entries;
      rooms = rooms_left (runs_of entries) 0 line.rooms;
    }

-- All words that the older half's entries name are settled.
abbrev pub is_settled : LineState → Bool
is_settled line = runs_settled (all_cells line.slaves) (runs_of line.newer) (runs_of line.older)

-- The number of the first entry that isn't settled; None if all are.
abbrev pub first_unsettled : List (List Cell) → List Entry → Option ℕ
first_unsettled cells [] = None
first_unsettled cells (e ∷ es) = if runs_settled cells (runs_of es) e.runs then first_unsettled cells es else Some e.number

-- No word has more pending writes than the entries name it.
abbrev pub OweNoMore : List Slave → List Entry → Type 0
OweNoMore slaves entries = (slave at : ℕ) → length (cell_at (all_cells slaves) slave at).owed ≤ length (values (runs_of entries) slave at)

-- The memory left to the slaves, counted from slave i on, once the runs are retired.
abbrev pub rooms_freed : List Run → ℕ → List ℕ → List ℕ
rooms_freed runs i [] = []
rooms_freed runs i (room ∷ rooms) = (room + length (namings runs i)) ∷ rooms_freed runs (suc i) rooms

-- The older half is retired, and the newer one becomes the older.
abbrev pub retired : LineState → LineState
retired line = record { slaves = line.slaves; older = line.newer; newer = []; rooms = rooms_freed (runs_of line.older) 0 line.rooms }

-- ---- one slave

-- What is known of slave i.
abbrev pub slave_at : LineState → ℕ → Slave
slave_at line i = slice_index_or line.slaves i nobody

-- The line with this as slave i.
abbrev pub with_slave : LineState → ℕ → Slave → LineState
with_slave line i slave = record line { slaves = slice_set line.slaves i slave }

-- The words that remain to be written to a slave, in order, with their values.
abbrev pub to_do : LineState → ℕ → List (ℕ × ℕ)
to_do line i = pending.to_do (slave_at line i).cells (namings (runs_of (line.older ++ line.newer)) i)

-- A word of slave i is handed out to be issued, if there is one.
abbrev pub with_issue : LineState → ℕ → Option (ℕ × ℕ) → LineState
with_issue line i None = line
with_issue line i (Some w) =
    with_slave line i (record {
      cells = slice_set (slave_at line i).cells w.0 (asked (cell_of (slave_at line i).cells w.0));
      operation = Issuing w.0 w.1;
      issues = (slave_at line i).issues + 1;
    })

-- The word holds the value, and nothing is being done with it.
abbrev pub with_written : LineState → ℕ → (word value : ℕ) → LineState
with_written line i word value =
    with_slave line i (record (slave_at line i) {
      cells = slice_set (slave_at line i).cells word (written (cell_of (slave_at line i).cells word) value);
      operation = NoOperation;
    })
