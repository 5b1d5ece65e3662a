-- The ends of a desk's threads, as one disk and its slaves.
use Rattle.std.specs.Prelude.{◌≡◌, ℕ, List, length, map, Some, slice_get}
use Rattle.jrn_format.specs.declared.journal.Journal.{Journal}
use Rattle.site_core.specs.State.{State, Seen}
use Rattle.site_core.specs.Passes.{LeavesOnly}
use Rattle.book_model.specs.Book.{Book, contents_of}
use Rattle.book_model.specs.Machine.{Machine}
use Rattle.book_model.specs.Opening.{book_on}
use Rattle.station_jobs.specs.declared.log.SlaveLog.{SlaveLog}
use Rattle.station_jobs.specs.Ends.{Stay}
use Rattle.desk_book.specs.declared.call.Call.{Call}
use Rattle.desk_book.specs.Calls.{replayed}
use Rattle.desk_book.specs.Logs.{DiskEntry}
use Rattle.desk_laws.specs.Joined.{IsOpenedOn, IsKeptAs, LeadsTo}

-- The state has the disk of the flusher's site, and each slave's half of its worker's site.
pub record AreTogether {S : Type 0} (seen : S → Seen) (flusher : S) (workers : List S) (state : State) : Type 0 where
  pub disk : state.disk ≡ (seen flusher).state.disk
  pub count : length state.halves ≡ length workers
  pub halves : (slave : ℕ) (site : S) → slice_get workers slave ≡ Some site
      → slice_get state.halves slave ≡ slice_get (seen site).state.halves slave

-- the workers' sites when their work began
abbrev pub starts : {S : Type 0} → List (Stay S SlaveLog) → List S
starts {S} workers = map (λ (end : Stay S SlaveLog). end.start) workers

-- the workers' sites at their ends
abbrev pub sites : {S : Type 0} → List (Stay S SlaveLog) → List S
sites {S} workers = map (λ (end : Stay S SlaveLog). end.site) workers

-- What a power cut leaves is recoverable for the session, and redo of it gives the contents after all accepted commands.
pub record IsLeft (machine : Machine) (book : Book) (state : State) : Type 0 where
  pub kept : IsKeptAs machine book state
  pub leads : LeavesOnly (LeadsTo (contents_of book)) state

-- If the book was opened on the disk and slaves with which the threads began, `so` holds of the disk and slaves with which they ended.
abbrev pub AllEndSo : {S : Type 0} → (Machine → Book → State → Type 0) → (opened : Book) → List Call → (S → Seen)
    → Stay S (List DiskEntry) → List (Stay S SlaveLog) → Type 0
AllEndSo {S} so opened calls seen flusher workers =
    (machine : Machine) (journal : Journal) (old new : State) → opened ≡ book_on old journal → IsOpenedOn machine journal old calls
    → AreTogether seen flusher.start (starts workers) old → AreTogether seen flusher.site (sites workers) new
    → so machine (replayed opened calls) new
