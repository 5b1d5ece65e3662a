-- The running data of each slave, and the invariant that ties it to the line.
use Rattle.std.specs.Prelude.{◌≡◌, ℕ, ◌+◌, ◌<◌, ◌≤◌, min, List, [], ◌∷◌, ◌++◌, length, map, drop, slice_index, slice_index_or, Bool, true, ◌&&◌, Option, Some, None}
use Rattle.std.specs.List.{flat_map}
use Rattle.sii_words.specs.declared.run.Run.{Run}
use Rattle.jrn_format.specs.declared.journal.Entry.{Entry}
use Rattle.book_model.specs.Cells.{cell_of}
use Rattle.book_model.specs.Pending.{Pending, values_of, word_named, retired, can_retire, unsettled, to_do, first, issued, word_written}
use Rattle.book_model.specs.Entries.{runs_of, namings}
use Rattle.book_model.specs.Book.{Slave}
use Rattle.book_model.specs.Book as book
use Rattle.book_parts.specs.Line.{LineState, NeverFall}
use Rattle.book_parts.specs.declared.work.SlaveWork.{SlaveWork}
use Rattle.book_parts.specs.declared.work.Operation.{Operation}
use Rattle.book_parts.specs.declared.work.Operation.TheVariants as operations

-- Nothing pending, of no words.
abbrev pub no_pending : Pending
no_pending = record { cells = []; live = []; numbers = []; room = 0 }

-- What `work_at` gives beyond the line.
abbrev pub no_work : SlaveWork
no_work = record { queue = no_pending; older = 0; operation = operations.NoOperation; issued = [] }

-- The running data of slave i.
abbrev pub work_at : List SlaveWork → ℕ → SlaveWork
work_at works i = slice_index_or works i no_work

-- The slave with these pending writes.
abbrev pub with_queue : SlaveWork → Pending → SlaveWork
with_queue work queue = record work { queue = queue }

-- Words are named one after another, by the entry of this number.
abbrev pub words_named : Pending → List (ℕ × ℕ) → ℕ → Pending
words_named p [] number = p
words_named p (n ∷ ns) number = words_named (word_named p n.0 n.1 number) ns number

-- The words of slave i that the entries name are named, entry by entry.
abbrev pub entries_named : Pending → List Entry → ℕ → Pending
entries_named p [] i = p
entries_named p (e ∷ es) i = entries_named (words_named p (namings e.runs i) e.number) es i

-- A run of no words.
abbrev pub no_run : Run
no_run = record { slave = 0; first = 0; words = [] }

-- The run names words of this line, whose slaves have at most 4,096 words.
pub record RunLies (works : List SlaveWork) (run : Run) : Type 0 where
  pub slave : run.slave < length works
  pub words : run.first + length run.words ≤ length (work_at works run.slave).queue.cells
  pub few : length (work_at works run.slave).queue.cells ≤ 4096

-- All runs do.
abbrev pub RunsLie : List SlaveWork → List Run → Type 0
RunsLie works [] = Unit {0}
RunsLie works (run ∷ runs) = RunLies works run × RunsLie works runs

-- Memory is reserved for the words that the runs name of each slave.
abbrev pub HasRooms : List SlaveWork → List Run → Type 0
HasRooms works runs = (i : ℕ) → i < length works → length (namings runs i) ≤ (work_at works i).queue.room

-- ---- memory for words

-- Each run names one of the first `slaves` slaves.
abbrev pub AreOfSlaves : ℕ → List Run → Type 0
AreOfSlaves slaves [] = Unit {0}
AreOfSlaves slaves (run ∷ runs) = (run.slave < slaves) × AreOfSlaves slaves runs

-- The number of words that the runs name of each slave was added to its count.
pub record Counted (old now : List ℕ) (runs : List Run) : Type 0 where
  pub same : length now ≡ length old
  pub each : (i : ℕ) → i < length old → slice_index now i ≡ slice_index old i + length (namings runs i)

-- The slave with this much memory reserved.
abbrev pub with_room : SlaveWork → ℕ → SlaveWork
with_room work room = record work { queue = record work.queue { room = room } }

-- Only the reserved memory may differ.
pub record OnlyRooms (old now : List SlaveWork) : Type 0 where
  pub same : length now ≡ length old
  pub each : (i : ℕ) → i < length old → work_at now i ≡ with_room (work_at old i) (work_at now i).queue.room

-- For each of the first slaves memory is reserved for as many words as its count says.
abbrev pub HasCounted : List SlaveWork → List ℕ → ℕ → Type 0
HasCounted works counts slaves = (i : ℕ) → i < slaves → slice_index counts i ≤ (work_at works i).queue.room

-- ---- what ties them to the line

-- The errand of the book for an errand of the running code.
abbrev pub operation_of : Operation → book.Operation
operation_of operations.NoOperation = book.NoOperation
operation_of (operations.Issuing word value) = book.Issuing word value
operation_of (operations.Unsettled word value taken) = book.Unsettled word value taken
operation_of (operations.Settling word value taken) = book.Settling word value taken

-- What the book knows of a slave.
abbrev pub slave_of : SlaveWork → Slave
slave_of work = record { cells = work.queue.cells; operation = operation_of work.operation; issues = length work.issued }

-- How many more words can be named without taking memory.
abbrev pub room_of : SlaveWork → ℕ
room_of work = work.queue.room

-- For each word that the entries name of slave i, the number of its entry.
abbrev pub numbers_named : List Entry → ℕ → List ℕ
numbers_named entries i = flat_map (λ (e : Entry). map (λ (n : ℕ × ℕ). e.number) (namings e.runs i)) entries

-- A slave's live writes are those that the live entries name, in order, the older half's first.
pub record WorkStands (work : SlaveWork) (i : ℕ) (older newer : List Entry) : Type 0 where
  pub live : work.queue.live ≡ namings (runs_of (older ++ newer)) i
  pub numbers : work.queue.numbers ≡ numbers_named (older ++ newer) i
  pub first : work.older ≡ length (namings (runs_of older) i)
  pub few : length work.queue.cells ≤ 4096

-- This holds of each slave.
abbrev pub WorksStand : List SlaveWork → (older newer : List Entry) → Type 0
WorksStand works older newer = (i : ℕ) → i < length works → WorkStands (work_at works i) i older newer

-- The invariant of a line's running data.
pub record LineStands (works : List SlaveWork) (older newer : List Entry) : Type 0 where
  pub each : WorksStand works older newer
  pub order : NeverFall (older ++ newer)

-- ---- the half that is retired

-- All that the older half names of this slave is settled.
abbrev pub older_settled : SlaveWork → Bool
older_settled work = can_retire work.queue work.older

-- This holds of each slave.
abbrev pub all_older_settled : List SlaveWork → Bool
all_older_settled [] = true
all_older_settled (work ∷ works) = older_settled work && all_older_settled works

-- The slave once the older half is retired: what is left is the older half now.
abbrev pub work_retired : SlaveWork → SlaveWork
work_retired work = record work { queue = retired work.queue work.older; older = length (drop work.older work.queue.live) }

-- The slave with everything live in the older half.
abbrev pub all_older : SlaveWork → SlaveWork
all_older work = record work { older = length work.queue.live }

-- The older half's writes are among the live ones.
abbrev pub AreOlder : List SlaveWork → Type 0
AreOlder works = (i : ℕ) → i < length works → (work_at works i).older ≤ length (work_at works i).queue.live

-- The line that the running data stands for.
abbrev pub line_of : List SlaveWork → (older newer : List Entry) → LineState
line_of works older newer = record { slaves = map slave_of works; older = older; newer = newer; rooms = map room_of works }

-- ---- what isn't settled

-- The number of the first entry that names a word of this slave that isn't settled.
abbrev pub unsettled_of : SlaveWork → Option ℕ
unsettled_of work = unsettled work.queue

-- The smaller of two numbers, either of which may be missing.
abbrev pub smaller : Option ℕ → Option ℕ → Option ℕ
smaller None number = number
smaller (Some a) None = Some a
smaller (Some a) (Some b) = Some (min a b)

-- The smallest of numbers, each of which may be missing.
abbrev pub least : List (Option ℕ) → Option ℕ
least [] = None
least (number ∷ numbers) = smaller number (least numbers)

-- No word of the first slaves has more pending writes than are live for it.
abbrev pub OweLive : List SlaveWork → ℕ → Type 0
OweLive works slaves = (i at : ℕ) → i < slaves
    → length (cell_of (work_at works i).queue.cells at).owed ≤ length (values_of at (work_at works i).queue.live)

-- ---- one word of a slave

-- The slave once a word is handed out to be issued, if there is one.
abbrev pub work_issued : SlaveWork → Option (ℕ × ℕ) → SlaveWork
work_issued work None = work
work_issued work (Some n) = record work { queue = issued work.queue (Some n); operation = operations.Issuing n.0 n.1; issued = work.issued ++ n.0 ∷ [] }

-- The slave once the word holds the value.
abbrev pub work_written : SlaveWork → (word value : ℕ) → SlaveWork
work_written work word value = record work { queue = word_written work.queue word value; operation = operations.NoOperation }

-- The slave's next word to write, with its value.
abbrev pub work_to_do : SlaveWork → Option (ℕ × ℕ)
work_to_do work = first (to_do work.queue.cells work.queue.live)
