-- What a book has handed out that hasn't ended.
use Rattle.std.specs.Prelude.{◌≡◌, true, false, List, map, Option, Some, None, is_some, if◌then◌else◌}
use Rattle.std.specs.List.{AllByRecursion}
use Rattle.book_model.specs.declared.next.DiskNext.{DiskNext}
use Rattle.book_model.specs.declared.next.DiskNext.TheVariants as disk
use Rattle.book_model.specs.declared.next.RomNext.{RomNext}
use Rattle.book_model.specs.declared.next.RomNext.TheVariants as next
use Rattle.book_model.specs.declared.next.RomOutcome.{RomOutcome}
use Rattle.book_model.specs.declared.next.RomOutcome.TheVariants as outcomes
use Rattle.book_model.specs.Book.{Book, Slave, Operation, NoOperation, Issuing, Unsettled, Settling}
use Rattle.book_model.specs.DiskSteps.{action_of}
use Rattle.world_run.specs.declared.station.Asked.{Asked}
use Rattle.world_run.specs.declared.station.Asked.TheVariants.{Nothing, Issue, Settle}

-- The action of the disk that is in progress.
abbrev pub handed_out : Book → Option DiskNext
handed_out book = if book.is_handed_out then action_of book book.doing else None

-- The action that is in progress once this is handed out for the disk.
abbrev pub as_action : DiskNext → Option DiskNext
as_action (disk.Write at bytes) = Some (disk.Write at bytes)
as_action (disk.Gate at closed) = Some (disk.Gate at closed)
as_action disk.Sync = Some disk.Sync
as_action disk.Idle = None
as_action disk.Stop = None

-- What is in progress with a slave.
abbrev pub asked_of : Operation → Asked
asked_of NoOperation = Nothing
asked_of (Issuing word value) = Issue
asked_of (Unsettled word value taken) = Nothing
asked_of (Settling word value taken) = Settle taken

-- What is in progress with a slave once this is handed out for it.
abbrev pub asked_next : RomNext → Asked → Asked
asked_next (next.Issue word value) before = Issue
asked_next (next.Settle taken) before = Settle taken
asked_next next.Idle before = before
asked_next next.Stop before = before

-- What is in progress with a slave after this outcome.
abbrev pub asked_then : Asked → RomOutcome → Asked
asked_then Nothing outcome = Nothing
asked_then Issue (outcomes.Issued how) = Nothing
asked_then Issue (outcomes.Settled how) = Issue
asked_then Issue outcomes.Stopped = Nothing
asked_then (Settle taken) (outcomes.Issued how) = Settle taken
asked_then (Settle taken) (outcomes.Settled how) = Nothing
asked_then (Settle taken) outcomes.Stopped = Nothing

-- What is in progress with each slave.
abbrev pub all_asked : List Slave → List Asked
all_asked slaves = map (λ (slave : Slave). asked_of slave.operation) slaves

-- The invariant of a station that is up: it knows what is in progress with the disk and with each slave.
pub record KnowsProgress (action : Option DiskNext) (asked : List Asked) (book : Book) : Type 0 where
  pub disk : action ≡ handed_out book
  pub out : is_some action ≡ book.is_handed_out
  pub slaves : asked ≡ all_asked book.slaves

-- A fault has closed the book, and nothing is in progress.
pub record IsClosedAndIdle (book : Book) : Type 0 where
  pub fault : is_some book.fault ≡ true
  pub disk : book.is_handed_out ≡ false
  pub slaves : AllByRecursion (λ (slave : Slave). asked_of slave.operation ≡ Nothing) book.slaves
