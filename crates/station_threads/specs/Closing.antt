-- What has to be handed in to close a desk, and what its process data cycles were.
use Rattle.std.specs.Prelude.{◌≡◌, List, [], Option, Some, None}
use Rattle.std.specs.List.{AllByRecursion}
use Rattle.book_model.specs.Book.{Book, base_of}
use Rattle.station_jobs.specs.declared.cycle.CycleNote.{CycleNote}
use Rattle.station_jobs.specs.Ends.{Stay}
use Rattle.desk_book.specs.declared.call.Call.{Call}
use Rattle.desk_book.specs.Calls.{replayed}
use Rattle.desk_book.specs.Logs.{disk_log, cycle_log}
use Rattle.desk_book.specs.Numbered.{Numbered}
use Rattle.desk_book.specs.Serving.{ShareCounts}
use Rattle.desk_book.specs.Closing.{CountAll, AreReceiptsOf, AreWorkersOf}
use Rattle.desk_laws.specs.Turns.{IsTurnOf, NeverFall}
use Rattle.station_threads.specs.declared.closing.Ends.{Ends}

-- The cycle's log has the turns that the calls handed out. Without a cycle they handed out none.
abbrev pub IsCycleOf : {S : Type 0} → List Call → Option (Stay S (List CycleNote)) → Type 0
IsCycleOf calls None = cycle_log calls ≡ []
IsCycleOf calls (Some end) = end.log ≡ cycle_log calls

-- The ends are the disk's, one for each slave in the order of the line, and at most one of the cycle. Each log has what the calls
-- handed out.
pub record AreEndsOf {S : Type 0} (opened : Book) (calls : List Call) (ends : Ends S) : Type 0 where
  pub flusher : ends.flusher.log ≡ disk_log calls
  pub workers : AreWorkersOf opened calls ends.workers.items
  pub cycle : IsCycleOf calls ends.cycle

-- Shares, receipts and ends match what the book handed out.
pub record IsHandedIn {S : Type 0} (opened : Book) (calls : List Call) (shares : List ShareCounts) (receipts : List Numbered)
    (ends : Ends S) : Type 0 where
  pub counted : CountAll (replayed opened calls) calls shares
  pub received : AreReceiptsOf (replayed opened calls) receipts
  pub ended : AreEndsOf opened calls ends

-- Each cycle in the log is of the contents after a prefix of the accepted commands, with the size of their process image. No cycle has a
-- shorter prefix than the one before it.
pub record AreTurnsOf (opened : Book) (calls : List Call) (log : List CycleNote) : Type 0 where
  pub images : AllByRecursion (IsTurnOf (base_of opened) (replayed opened calls).accepted) log
  pub rising : NeverFall log
