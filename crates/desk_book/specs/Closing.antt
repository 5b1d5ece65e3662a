-- What has to be handed in to close a desk, as the history of its book says.
use Rattle.std.specs.Prelude.{◌≡◌, ◌≢◌, ◌<◌, ◌&&◌, ◌==◌, ℕ, Bool, not, List, length, sum_by, count_by, is_some, Some, slice_get, All}
use Rattle.sii_edit.specs.declared.command.Command.{Command}
use Rattle.sii_edit.specs.Fold.{contents}
use Rattle.site_core.specs.State.{Seen}
use Rattle.book_model.specs.Book.{Book, base_of}
use Rattle.book_core.specs.Settled.{is_settled}
use Rattle.station_jobs.specs.declared.log.SlaveLog.{SlaveLog}
use Rattle.station_jobs.specs.Ends.{Stay}
use Rattle.station_jobs.specs.Working.{IsWorked}
use Rattle.desk_book.specs.declared.call.Call.{Call}
use Rattle.desk_book.specs.Calls.{replayed, AreAnswered, is_refusal}
use Rattle.desk_book.specs.Logs.{rom_log}
use Rattle.desk_book.specs.Numbered.{Numbered}
use Rattle.desk_book.specs.Serving.{ShareCounts}

-- ---- shares

-- The shares together count as many tickets as commands were accepted, and as many refusals as commands were refused.
pub record CountAll (book : Book) (calls : List Call) (shares : List ShareCounts) : Type 0 where
  pub tickets : sum_by (λ (s : ShareCounts). s.tickets) shares ≡ length book.accepted
  pub refusals : sum_by (λ (s : ShareCounts). s.refusals) shares ≡ count_by is_refusal calls

-- ---- receipts

-- The command of this number in the list is this one, and it is among the first `durable`.
pub record StandsAt (commands : List Command) (durable : ℕ) (numbered : Numbered) : Type 0 where
  pub below : numbered.number < durable
  pub command : slice_get commands numbered.number ≡ Some numbered.command

-- At some moment since the book was opened, the accepted command of this number was this one, and it was durable.
pub record IsReceiptOf (opened : Book) (receipt : Numbered) : Type 0 where
  pub calls : List Call
  pub answered : AreAnswered opened calls
  pub stands : StandsAt (replayed opened calls).accepted (replayed opened calls).durable receipt

-- one of the first `count` receipts has this number
abbrev pub HasNumber : List Numbered → ℕ → ℕ → Type 0
HasNumber receipts count number = (k : ℕ) × (one : Numbered) × (k < count) × (slice_get receipts k ≡ Some one) × (one.number ≡ number)

-- no two receipts have the same number
abbrev pub AreSeparate : List Numbered → Type 0
AreSeparate receipts = (i k : ℕ) (one other : Numbered) → slice_get receipts i ≡ Some one → slice_get receipts k ≡ Some other → k < i
    → other.number ≢ one.number

-- The receipts are for different durable commands of this book.
pub record AreReceiptsOf (book : Book) (receipts : List Numbered) : Type 0 where
  pub each : All (StandsAt book.accepted book.durable) receipts
  pub separate : AreSeparate receipts

-- ---- workers

-- The log is this slave's, and has the jobs that the calls handed out for it.
abbrev pub IsWorkOf : List Call → ℕ → SlaveLog → Type 0
IsWorkOf calls i log = (log.slave ≡ i) × (log.jobs ≡ rom_log i calls)

-- There is one end for each slave, in the order of the line, with that slave's log.
pub record AreWorkersOf {S : Type 0} (opened : Book) (calls : List Call) (workers : List (Stay S SlaveLog)) : Type 0 where
  pub count : length workers ≡ length (contents (base_of opened) (replayed opened calls).accepted)
  pub each : (i : ℕ) (end : Stay S SlaveLog) → slice_get workers i ≡ Some end → IsWorkOf calls i end.log

-- The jobs of each log led its slave to where it is.
abbrev pub AllWorked : {S : Type 0} → (S → Seen) → List (Stay S SlaveLog) → Type 0
AllWorked {S} seen workers = (i : ℕ) (end : Stay S SlaveLog) → slice_get workers i ≡ Some end
    → IsWorked end.log.slave end.log.jobs (seen end.start) (seen end.site)

-- ---- the book

-- The book has no fault, and everything that it found at the open or accepted since is settled.
abbrev pub is_served : Book → Bool
is_served book = not (is_some book.fault) && (book.durable == length book.accepted) && is_settled book
