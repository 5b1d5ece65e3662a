-- What each event does to the world. Where an event leaves a choice, such as what a power cut leaves, any choice is possible.
use Rattle.std.specs.Prelude.{not, ◌&&◌, if◌then◌else◌, ◌≡◌, ◌≢◌, ◌⊎◌, ℕ, Bool, true, false, is_some, Some, None, Result, Ok, Err, Option, slice_get, slice_index_or}
use Rattle.std.specs.List.{AllByRecursion}
use Rattle.sii_image.specs.ProcessImage.{process_image}
use Rattle.sii_edit.specs.declared.command.Command.{Command}
use Rattle.jrn_format.specs.declared.journal.Journal.{Journal}
use Rattle.esc_model.specs.SlaveHalf.{SlaveHalf, MayRest}
use Rattle.site_core.specs.declared.fault.DeviceFault.{DeviceFault}
use Rattle.site_core.specs.declared.fault.DeviceFault.TheVariants as device
use Rattle.site_core.specs.Disk.{Disk, synced}
use Rattle.site_core.specs.State.{State, Stopped, HalfGoes, with_half}
use Rattle.book_model.specs.declared.next.RomOutcome.{RomOutcome}
use Rattle.book_model.specs.declared.refusal.SubmitRefusal.{SubmitRefusal}
use Rattle.book_model.specs.Book.{Book, Slave, Operation, NoOperation, Issuing, Unsettled, Settling, is_version_2, slave_at}
use Rattle.book_model.specs.Submit.{submit, with_command}
use Rattle.book_model.specs.Open.{finish, migrate}
use Rattle.book_model.specs.DiskSteps.{disk_next, disk_done}
use Rattle.book_model.specs.RomSteps.{rom_next, rom_done}
use Rattle.book_model.specs.Reading.{applied, planned}
use Rattle.book_model.specs.Events.{begun_on, ended_on, FailsOn, in_progress}
use Rattle.book_model.specs.Steps.{MayBegin, took_after, MayComeBack}
use Rattle.book_model.specs.Opening.{IsFound, book_on}
use Rattle.world_law.specs.World.{World, Event, Submit, Plan, Migrate, Finish, DiskBegin, DiskDone, RomIssue, RomDone, RomResolve, Stop, Open, Reported, Nothing, Accepted, Refused, Acknowledged, Planned, Closed, Migrated, Opened}

-- ---- while the station is up

-- The world with another book.
abbrev pub with_book : World → Book → World
with_book world book = record world { book = Some book }

-- The world with another book and another disk.
abbrev pub with_disk : World → Book → Disk → World
with_disk world book disk = record world { book = Some book; state = record world.state { disk = disk } }

-- The book after a submit with this result, and what its caller is told.
abbrev pub submitted : Book → Command → Result ℕ SubmitRefusal → Book × Reported
submitted book command (Ok number) = (with_command book command, Accepted command number)
submitted book command (Err refusal) = (book, Refused command refusal)

-- What callers are told when an action of the disk succeeds: that the journal is of version 2 now, or how many commands are
-- acknowledged.
abbrev pub reported_of : (before later : Book) → Reported
reported_of before later = if is_version_2 later.form && not (is_version_2 before.form) then Migrated else Acknowledged later.durable

-- What callers are told when the book may have got a fault.
abbrev pub fault_reported : Book → Reported
fault_reported later = if is_some later.fault then Closed else Nothing

-- The action of the disk that is handed out ends: with success, or with a fault of the disk or of the whole site.
abbrev pub DiskReturns : Result (Unit {0}) DeviceFault → Book → World → Reported → World → Type 0
DiskReturns (Ok done) book world reported later =
    (reported ≡ reported_of book (disk_done book (Ok tt)))
    × (later ≡ with_disk world (disk_done book (Ok tt)) (ended_on (in_progress book) world.state.disk))
DiskReturns (Err fault) book world reported later =
    (disk : Disk) × (fault ≢ device.Lost) × FailsOn (in_progress book) world.state.disk disk × (reported ≡ Closed)
    × (later ≡ with_disk world (disk_done book (Err fault)) disk)

-- The book hands out its next action on a slave, and the slave takes an issued datagram or doesn't.
pub record SlaveBegins (slave : ℕ) (book : Book) (world later : World) : Type 0 where
  pub half : SlaveHalf
  pub here : slice_get world.state.halves slave ≡ Some half
  pub taken : Bool
  pub after : SlaveHalf
  pub may : MayBegin (rom_next book slave).0 slave taken half after
  pub is : later ≡ record {
    book = Some (rom_next book slave).1;
    state = with_half world.state slave after;
    took = took_after (rom_next book slave).0 world.took slave taken;
  }

-- The action on a slave ends with an outcome that the slave allows.
pub record SlaveReturns (slave : ℕ) (outcome : RomOutcome) (book : Book) (world later : World) : Type 0 where
  pub half : SlaveHalf
  pub here : slice_get world.state.halves slave ≡ Some half
  pub after : SlaveHalf
  pub may : MayComeBack (slice_index_or world.took slave false) (slave_at book slave).operation outcome half after
  pub is : later ≡ record { book = Some (rom_done book slave outcome); state = with_half world.state slave after; took = world.took }

-- What an event does while the station is up with this book. The book hands out no second action for the disk or a slave that has one.
abbrev pub HappensUp : Event → Book → World → Reported → World → Type 0
HappensUp (Submit command) book world reported later =
    (reported ≡ (submitted book command (submit book command)).1) × (later ≡ with_book world (submitted book command (submit book command)).0)
HappensUp Plan book world reported later = (reported ≡ Planned (applied book) (process_image (planned book))) × (later ≡ world)
HappensUp Migrate book world reported later = (reported ≡ Nothing) × (later ≡ with_book world (migrate book).1)
HappensUp Finish book world reported later = (reported ≡ Closed) × (later ≡ with_book world (finish book))
HappensUp DiskBegin book world reported later =
    (reported ≡ Nothing) × (later ≡ with_disk world (disk_next book).1 (begun_on (Some (disk_next book).0) world.state.disk))
HappensUp (DiskDone result) book world reported later = (book.is_handed_out ≡ true) × DiskReturns result book world reported later
HappensUp (RomIssue slave) book world reported later = (reported ≡ Nothing) × SlaveBegins slave book world later
HappensUp (RomDone slave outcome) book world reported later =
    (reported ≡ fault_reported (rom_done book slave outcome)) × SlaveReturns slave outcome book world later
HappensUp event book world reported later = ⊥

-- ---- a session begins

-- An action on the slave is handed out.
abbrev pub is_out : Operation → Bool
is_out NoOperation = false
is_out (Issuing word value) = true
is_out (Unsettled word value taken) = false
is_out (Settling word value taken) = true

-- The station is down, or a fault has closed it and no action is handed out any more.
abbrev pub CanOpen : Option Book → Type 0
CanOpen None = Unit {0}
CanOpen (Some book) =
    (is_some book.fault ≡ true) × (book.is_handed_out ≡ false) × AllByRecursion (λ (slave : Slave). is_out slave.operation ≡ false) book.slaves

-- The state after a sync of the disk.
abbrev pub with_synced : State → State
with_synced state = record state { disk = synced state.disk }

-- The disk is synced, and a book is opened on the journal and the words found, while no slave is busy.
pub record Opens (world : World) (reported : Reported) (later : World) : Type 0 where
  pub can : CanOpen world.book
  pub journal : Journal
  pub found : IsFound journal (with_synced world.state)
  pub says : reported ≡ Opened (is_version_2 journal.form)
  pub is : later ≡ record { book = Some (book_on (with_synced world.state) journal); state = with_synced world.state; took = world.took }

-- ---- all events

-- What an event does to the world, and what callers are told.
abbrev pub Happens : Event → World → Reported → World → Type 0
Happens Stop world reported later =
    (reported ≡ Nothing) × Stopped world.state later.state × (later ≡ record { book = None; state = later.state; took = world.took })
Happens (RomResolve slave) world reported later =
    (reported ≡ Nothing) × HalfGoes MayRest world.state slave later.state × (later ≡ record world { state = later.state })
Happens Open world reported later = Opens world reported later
Happens event world reported later = (book : Book) × (world.book ≡ Some book) × HappensUp event book world reported later

-- An event happens; or it changes nothing, as when its condition doesn't hold or memory is refused.
abbrev pub Steps : Event → World → Reported → World → Type 0
Steps event world reported later = Happens event world reported later ⊎ ((reported ≡ Nothing) × (later ≡ world))
