-- Commands that are submitted at a desk, with their tickets, receipts and answers.
use Rattle.std.specs.Prelude.{◌≡◌, ◌≢◌, ◌⊎◌, ℕ, ◌+◌, List, [], map, length, slice_get, Option, Some, None, Result, Ok, Err}
use Rattle.std.specs.Global.{Vec}
use Rattle.sii_edit.specs.declared.command.Command.{Command}
use Rattle.desk_book.specs.Numbered.{Numbered}
use Rattle.desk_book.specs.Serving.{ShareCounts}
use Rattle.station_files.specs.Faults.{IsOfStream}
use Rattle.station_files.specs.declared.faults.Fault.{Fault}
use Rattle.station_files.specs.declared.faults.Fault.TheVariants.{Unserved}
use Rattle.station_line.specs.declared.answered.Answered.{Answered}
use Rattle.station_line.specs.declared.answered.Answered.TheVariants.{AllAccepted}
use Rattle.station_line.specs.Rounds.{AreAmong}

-- the commands of tickets or receipts
abbrev pub commands_of : List Numbered → List Command
commands_of numbered = map (λ (one : Numbered). one.command) numbered

-- the number of each is its place in the list
abbrev pub AreInOrder : List Numbered → Type 0
AreInOrder numbered = (place : ℕ) (one : Numbered) → slice_get numbered place ≡ Some one → one.number ≡ place

-- One command was submitted: it was accepted with a ticket, which the share counts, or it was refused.
abbrev pub Asks : Command → (before after : Answered) → (had has : ShareCounts) → Option Numbered → Type 0
Asks command before after had has (Some ticket) = (ticket.command ≡ command) × (after ≡ before) × (has.tickets ≡ had.tickets + 1)
Asks command before after had has None = (after ≢ AllAccepted) × (has.tickets ≡ had.tickets)

-- These commands were submitted in order. Some were accepted with these tickets, which the share counts: all of them if none was refused. Where there
-- is none, the share counts nothing.
pub record AsksAll (commands : List Command) (before after : Answered) (had has : ShareCounts) (tickets : List Numbered) : Type 0 where
  pub among : AreAmong (commands_of tickets) commands
  pub all : after ≡ AllAccepted → (before ≡ AllAccepted) × (commands_of tickets ≡ commands)
  pub counted : has.tickets ≡ had.tickets + length tickets
  pub none : commands ≡ [] → has ≡ had

-- They were submitted so, and all accepted ones are durable, with these receipts, each at the place of its number.
pub record Receives (commands : List Command) (before after : Answered) (had has : ShareCounts) (receipts : List Numbered) : Type 0 where
  pub asked : AsksAll commands before after had has receipts
  pub in_order : AreInOrder receipts

-- a submitter: the counts of its share, the worst of the answers, and its result, once it has submitted
pub record Submission : Type 0 where
  pub counts : ShareCounts
  pub answered : Answered
  pub came : Option (Result (Vec Numbered) Fault)

-- a share that has counted nothing yet
abbrev pub no_counts : ShareCounts
no_counts = record { tickets = 0; refusals = 0 }

-- why a submitter gave up: an answer couldn't be printed, memory was refused, or a command didn't become durable
abbrev pub GivesUp : Fault → Type 0
GivesUp fault = IsOfStream fault ⊎ (fault ≡ Unserved)

-- this is the result of a submitter of these commands, or it hasn't submitted any
abbrev pub ComesTo : List Command → Answered → ShareCounts → Option (Result (Vec Numbered) Fault) → Type 0
ComesTo commands answered counts None = (answered ≡ AllAccepted) × (counts ≡ no_counts)
ComesTo commands answered counts (Some (Ok receipts)) = Receives commands AllAccepted answered no_counts counts receipts.items
ComesTo commands answered counts (Some (Err fault)) = GivesUp fault

-- the receipts in a submitter's result, if it has any
abbrev pub receipts_of : Option (Result (Vec Numbered) Fault) → List Numbered
receipts_of (Some (Ok receipts)) = receipts.items
receipts_of came = []

-- the fault in a submitter's result, if it has one
abbrev pub fault_of : Option (Result (Vec Numbered) Fault) → Result (Unit {0}) Fault
fault_of (Some (Err fault)) = Err fault
fault_of came = Ok tt
