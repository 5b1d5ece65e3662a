-- What each step of a station does: one call of the book, or one action of the book that is carried out and reported to it.
use Rattle.std.specs.Prelude.{◌≡◌, ℕ, ◌+◌, Bool, List, [], ◌∷◌, Option, Some, None, Result, Ok, Err, if◌then◌else◌}
use Rattle.sii_edit.specs.declared.command.Command.{Command}
use Rattle.sii_edit.specs.declared.refusal.Cause.{Cause}
use Rattle.sii_edit.specs.declared.refusal.Cause.TheVariants as causes
use Rattle.esc_rom.specs.Access.{IssuesWord, SettlesSlave}
use Rattle.site_core.specs.declared.fault.DeviceFault.{DeviceFault}
use Rattle.site_core.specs.declared.answers.Issued.{Issued}
use Rattle.site_core.specs.declared.answers.Settled.{Settled}
use Rattle.book_model.specs.declared.fault.Fault.{Fault}
use Rattle.book_model.specs.declared.next.DiskNext.{DiskNext}
use Rattle.book_model.specs.declared.next.DiskNext.TheVariants as disk
use Rattle.book_model.specs.declared.next.RomNext.{RomNext}
use Rattle.book_model.specs.declared.next.RomNext.TheVariants as rom
use Rattle.book_model.specs.declared.refusal.SubmitRefusal.{SubmitRefusal}
use Rattle.book_model.specs.declared.refusal.SubmitRefusal.TheVariants as refusals
use Rattle.book_model.specs.Book.{Book}
use Rattle.book_model.specs.Submit.{IsSubmitted, with_command}
use Rattle.book_model.specs.DiskSteps.{disk_next, disk_done}
use Rattle.book_model.specs.RomSteps.{rom_next, rom_done}
use Rattle.book_model.specs.Open.{migrate}
use Rattle.book_core.specs.Handing.{TakesMemory}
use Rattle.site_journal.specs.Running.{CallsDisk}
use Rattle.site_journal.specs.Ready.{issue_outcome, settle_outcome}
use Rattle.station_alone.specs.declared.choice.Choice.{Choice}
use Rattle.station_alone.specs.declared.choice.Choice.TheVariants.{Submit, Disk, Rom, Migrate}
use Rattle.station_alone.specs.declared.choice.Answer.{Answer}
use Rattle.station_alone.specs.declared.choice.Answer.TheVariants.{Accepted, Refused, Did, Idle, Ended, Failed, NoMemory}
use Rattle.station_alone.specs.Station.{Station}

-- Nothing was done, and this was the answer.
pub record DoesNothing (reported : Answer) (old : Station) (answer : Answer) (new : Station) : Type 0 where
  pub answered : answer ≡ reported
  pub same : new ≡ old

-- The answer after an action. A book with a fault hands no action out, so the fault is the one that this action met.
abbrev pub done_with : Option Fault → Answer
done_with None = Did
done_with (Some fault) = Failed fault

-- ---- a command

-- The answer to a refused command.
abbrev pub reported_refusal : SubmitRefusal → Cause → Answer
reported_refusal refusal causes.Memory = NoMemory
reported_refusal refusal cause = Refused refusal

-- The answer to a command: its number, its refusal, or that memory was refused.
abbrev pub reported_number : Result ℕ SubmitRefusal → Answer
reported_number (Ok number) = Accepted number
reported_number (Err (refusals.Command refusal)) = reported_refusal (refusals.Command refusal) refusal.cause
reported_number (Err refusal) = Refused refusal

-- The book once a command was answered.
abbrev pub submitted : Book → Command → Result ℕ SubmitRefusal → Book
submitted book command (Ok number) = with_command book command
submitted book command (Err refusal) = book

-- The command is submitted to the book, and no device call is made.
pub record Submits (command : Command) (old : Station) (answer : Answer) (new : Station) : Type 0 where
  pub result : Result ℕ SubmitRefusal
  pub is_submitted : IsSubmitted old.book command result
  pub answered : answer ≡ reported_number result
  pub book : new.book ≡ submitted old.book command result
  pub seen : new.seen ≡ old.seen

-- ---- the disk

-- The action is carried out as one device call, and its outcome is reported to the book.
pub record DoesDisk (action : DiskNext) (old : Station) (answer : Answer) (new : Station) : Type 0 where
  pub result : Result (Unit {0}) DeviceFault
  pub calls : CallsDisk action old.seen result new.seen
  pub book : new.book ≡ disk_done (disk_next old.book).1 result
  pub answered : answer ≡ done_with new.book.fault

-- The answer if there is no action; None if there is one.
abbrev pub reported_at_once : DiskNext → Option Answer
reported_at_once disk.Idle = Some Idle
reported_at_once disk.Stop = Some Ended
reported_at_once action = None

-- What the book hands out for the disk is carried out.
abbrev pub CarriesOut : DiskNext → Station → Answer → Station → Type 0
CarriesOut disk.Idle old answer new = DoesNothing Idle old answer new
CarriesOut disk.Stop old answer new = DoesNothing Ended old answer new
CarriesOut action old answer new = DoesDisk action old answer new

-- The next action for the disk is carried out; or it is a write, memory was refused for it, and nothing was done.
pub data StepsDisk (old : Station) (answer : Answer) (new : Station) : Type 0 where
  carried_out : CarriesOut (disk_next old.book).0 old answer new → StepsDisk old answer new
  out_of_memory : TakesMemory (disk_next old.book).0 → DoesNothing NoMemory old answer new → StepsDisk old answer new

-- ---- a slave

-- The word is issued, and the outcome is reported to the book.
pub record DoesIssue (slave word value : ℕ) (old : Station) (answer : Answer) (new : Station) : Type 0 where
  pub result : Result Issued DeviceFault
  pub issues : IssuesWord old.seen slave word value result new.seen
  pub book : new.book ≡ rom_done (rom_next old.book slave).1 slave (issue_outcome result)
  pub answered : answer ≡ done_with new.book.fault

-- The word that was issued is settled, and the outcome is reported to the book.
pub record DoesSettle (slave : ℕ) (taken : Bool) (old : Station) (answer : Answer) (new : Station) : Type 0 where
  pub result : Result Settled DeviceFault
  pub settles : SettlesSlave old.seen slave taken result new.seen
  pub book : new.book ≡ rom_done (rom_next old.book slave).1 slave (settle_outcome result)
  pub answered : answer ≡ done_with new.book.fault

-- What the book hands out for a slave is carried out.
abbrev pub Serves : RomNext → ℕ → Station → Answer → Station → Type 0
Serves (rom.Issue word value) slave old answer new = DoesIssue slave word value old answer new
Serves (rom.Settle taken) slave old answer new = DoesSettle slave taken old answer new
Serves rom.Idle slave old answer new = DoesNothing Idle old answer new
Serves rom.Stop slave old answer new = DoesNothing Ended old answer new

-- ---- a migration

-- The book is asked for a migration, and no device call is made.
pub record AsksMigration (old : Station) (answer : Answer) (new : Station) : Type 0 where
  pub answered : answer ≡ (if (migrate old.book).0 then Did else Idle)
  pub book : new.book ≡ (migrate old.book).1
  pub seen : new.seen ≡ old.seen

-- ---- a step, and steps in a row

-- The step of each choice.
abbrev pub Steps : Choice → Station → Answer → Station → Type 0
Steps (Submit command) old answer new = Submits command old answer new
Steps Disk old answer new = StepsDisk old answer new
Steps (Rom slave) old answer new = Serves (rom_next old.book slave).0 slave old answer new
Steps Migrate old answer new = AsksMigration old answer new

-- Steps in a row, each with its answer.
abbrev pub StepsInOrder : List Choice → Station → List Answer → Station → Type 0
StepsInOrder [] old [] new = new ≡ old
StepsInOrder (choice ∷ choices) old (answer ∷ answers) new = (mid : Station) × Steps choice old answer mid
    × StepsInOrder choices mid answers new
StepsInOrder choices old answers new = ⊥

-- The most device calls that a step makes: a write or a sync, an issue, or a settle.
abbrev pub most_calls : Choice → ℕ
most_calls (Submit command) = 0
most_calls Disk = 1
most_calls (Rom slave) = 10001
most_calls Migrate = 0

-- The most device calls that steps in a row make.
abbrev pub most_calls_of : List Choice → ℕ
most_calls_of [] = 0
most_calls_of (choice ∷ choices) = most_calls choice + most_calls_of choices
