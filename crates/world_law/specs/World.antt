-- The world of the main law: a station with its disk and its slaves, the events, and what callers are told.
use Rattle.std.specs.Prelude.{ℕ, Bool, List, Option, Result}
use Rattle.sii_image.specs.ProcessImage.{ProcessImageParts}
use Rattle.sii_edit.specs.declared.command.Command.{Command}
use Rattle.site_core.specs.declared.fault.DeviceFault.{DeviceFault}
use Rattle.site_core.specs.State.{State}
use Rattle.book_model.specs.declared.next.RomOutcome.{RomOutcome}
use Rattle.book_model.specs.declared.refusal.SubmitRefusal.{SubmitRefusal}
use Rattle.book_model.specs.Book.{Book}

-- The book exists while the station is up, and says which actions are in progress on the disk and on each slave.
pub record World : Type 0 where
  pub book : Option Book
  -- the disk, and the half of each slave
  pub state : State
  -- for each slave whether it took the datagram of the last issue
  pub took : List Bool

-- What can happen. Events happen one at a time; an action has a begin and an end.
pub data Event : Type 0 where
  -- a caller asks the station for something
  Submit : Command → Event
  Plan : Event
  Migrate : Event
  Finish : Event
  -- an action of the disk begins, and ends
  DiskBegin : Event
  DiskDone : Result (Unit {0}) DeviceFault → Event
  -- an action on a slave begins, and ends; and a busy slave becomes idle
  RomIssue : (slave : ℕ) → Event
  RomDone : (slave : ℕ) → RomOutcome → Event
  RomResolve : (slave : ℕ) → Event
  -- the power is cut, and the station is opened again
  Stop : Event
  Open : Event

-- What callers are told.
pub data Reported : Type 0 where
  Nothing : Reported
  -- a command is accepted with this number, or refused
  Accepted : Command → (number : ℕ) → Reported
  Refused : Command → SubmitRefusal → Reported
  -- this number of commands is acknowledged
  Acknowledged : (count : ℕ) → Reported
  -- the plan: a number of commands, and the process image of the contents after them, if they have one
  Planned : (count : ℕ) → Option ProcessImageParts → Reported
  -- a finish or a fault has closed the station
  Closed : Reported
  -- the journal is of version 2 now
  Migrated : Reported
  -- a session has begun, on a journal of version 2 or on an old one
  Opened : (is_version_2 : Bool) → Reported

-- One step of a run: the event, what callers are told, and the world after it.
pub record Step : Type 0 where
  pub event : Event
  pub reported : Reported
  pub world : World
