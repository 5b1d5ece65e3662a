-- What contracts see of a book under a desk's lock, and what ties it to its history.
use Rattle.std.specs.Prelude.{◌≡◌, ◌≢◌, ◌<◌, ◌^◌, ℕ, Bool, List, [], ◌++◌, ◌∷◌, length, count_by, slice_index_or}
use Rattle.book_model.specs.declared.next.RomNext.{RomNext}
use Rattle.book_model.specs.declared.next.RomOutcome.{RomOutcome}
use Rattle.book_model.specs.declared.status.Status.{Status}
use Rattle.book_model.specs.Book.{Book}
use Rattle.station_jobs.specs.declared.cycle.CycleNote.{CycleNote}
use Rattle.desk_book.specs.declared.call.Call.{Call}
use Rattle.station_jobs.specs.Noted.{Noted}
use Rattle.desk_book.specs.Calls.{replayed, AreAnswered, is_refusal}
use Rattle.desk_book.specs.Logs.{DiskEntry, RomEntry, disk_log, rom_log, cycle_log}

-- how many parts of each ledger aren't given out, and how many shares are given out
pub record Pooled : Type 0 where
  pub tickets : ℕ
  pub refusals : ℕ
  pub given : ℕ

-- the tickets and refusals that a share counts
pub record ShareCounts : Type 0 where
  pub tickets : ℕ
  pub refusals : ℕ

-- The calls of the book since the desk was made, the totals of the two ledgers, and their parts; whether the jobs have stopped for want of
-- memory; and the status that `progress` answered last, or at first that of the open.
pub record Serving : Type 0 where
  pub calls : List Call
  pub tickets : ℕ
  pub refusals : ℕ
  pub pool : Pooled
  pub has_stopped : Bool
  pub seen : Status

-- The calls, each answered as the book answers it, led from the book that the desk was made of to this one.
pub record IsReplayed (opened book : Book) (calls : List Call) : Type 0 where
  pub same : book ≡ replayed opened calls
  pub answers : AreAnswered opened calls

-- The ledgers count a ticket for each accepted command, and each refusal in the history.
pub record AreCounted (book : Book) (calls : List Call) (tickets refusals : ℕ) : Type 0 where
  pub accepted : tickets ≡ length book.accepted
  pub refused : refusals ≡ count_by is_refusal calls
  pub fit : tickets < 2 ^ 64
  pub refused_fit : refusals < 2 ^ 64

-- empty notes
abbrev pub no_entries : Noted RomNext RomOutcome
no_entries = record { entries = []; spare = 0 }

-- the jobs that are noted for slave `i`
abbrev pub entries_at : List (Noted RomNext RomOutcome) → ℕ → List RomEntry
entries_at slaves i = (slice_index_or slaves i no_entries).entries

-- The notes of each slave have the jobs that the calls handed out for it.
abbrev pub AreRomLogs : List Call → List (Noted RomNext RomOutcome) → Type 0
AreRomLogs calls slaves = (i : ℕ) → i < length slaves → entries_at slaves i ≡ rom_log i calls

-- There are notes for each slave of the line.
abbrev pub IsEach : Book → List (Noted RomNext RomOutcome) → Type 0
IsEach opened slaves = length slaves ≡ length opened.words

-- The notes of this slave are these now, and those of the others stay the same.
pub record IsNoted (old : List (Noted RomNext RomOutcome)) (at : ℕ) (log : List RomEntry) (new : List (Noted RomNext RomOutcome)) : Type 0 where
  pub count : length new ≡ length old
  pub here : entries_at new at ≡ log
  pub others : (i : ℕ) → i ≢ at → entries_at new i ≡ entries_at old i

-- All notes have the jobs that the calls handed out.
pub record AreLogs (calls : List Call) (disk : List DiskEntry) (slaves : List (Noted RomNext RomOutcome)) (cycle : List CycleNote) : Type 0 where
  pub of_disk : disk ≡ disk_log calls
  pub of_slaves : AreRomLogs calls slaves
  pub of_cycle : cycle ≡ cycle_log calls

-- one call more
abbrev pub with_call : Serving → Call → Serving
with_call serving call = record serving { calls = serving.calls ++ call ∷ [] }
