-- What a station needs for its next device call, whatever its callers know of it.
use Rattle.std.specs.Prelude.{◌≡◌, Bool, false, List, is_some, IsTrue, Result, Ok, Err}
use Rattle.site_core.specs.declared.fault.DeviceFault.{DeviceFault}
use Rattle.site_core.specs.declared.answers.Issued.{Issued}
use Rattle.site_core.specs.declared.answers.Settled.{Settled}
use Rattle.site_core.specs.State.{Seen}
use Rattle.book_model.specs.declared.next.RomOutcome.{RomOutcome}
use Rattle.book_model.specs.declared.next.RomOutcome.TheVariants as outcomes
use Rattle.book_model.specs.Book.{Book}
use Rattle.book_model.specs.Machine.{Machine}
use Rattle.book_model.specs.Frame.{JournalFrame}
use Rattle.book_model.specs.Up.{Up}

-- The station's invariant holds for some machine.
abbrev pub IsUp : Book → Seen → Type 0
IsUp book seen = (frame : JournalFrame) × (took : List Bool) × (machine : Machine) × Up frame book seen.state took machine

-- Nothing is handed out for the disk. The station's invariant holds while the book has no fault, and after a fault as long as the site
-- hasn't stopped.
pub record IsReady (book : Book) (seen : Seen) : Type 0 where
  pub rests : book.is_handed_out ≡ false
  pub up : is_some book.fault ≡ false → IsUp book seen
  pub going : ¬ IsTrue seen.is_stopped → IsUp book seen

-- The outcome of an issue that is reported to the book.
abbrev pub issue_outcome : Result Issued DeviceFault → RomOutcome
issue_outcome (Ok issued) = outcomes.Issued issued
issue_outcome (Err fault) = outcomes.Stopped

-- The outcome of a settle that is reported to the book.
abbrev pub settle_outcome : Result Settled DeviceFault → RomOutcome
settle_outcome (Ok settled) = outcomes.Settled settled
settle_outcome (Err fault) = outcomes.Stopped
