-- The main law's invariant holds of disk and slaves together, call by call.
use Rattle.std.proofs.Common.{◌≡◌, ◌∙◌, ℕ, Bool, List, [], ◌∷◌, length, refl, sym, subst, Ok, Err}
use Rattle.std.specs.Prelude.{fold}
use Rattle.std.specs.List.{AllByRecursion}
use Rattle.site_core.specs.Disk.{Disk}
use Rattle.site_core.specs.State.{State}
use Rattle.book_model.specs.declared.next.RomOutcome.{RomOutcome}
use Rattle.book_model.specs.Book.{Book}
use Rattle.book_model.specs.Submit.{with_command}
use Rattle.book_model.specs.Open.{finish}
use Rattle.book_model.specs.RomSteps.{rom_done}
use Rattle.world_law.specs.World.{Submit, Finish, Accepted, Closed}
use Rattle.desk_book.specs.declared.call.Call.{Call}
use Rattle.desk_book.specs.declared.call.Call.TheVariants.{Submitted, DiskAsked, DiskReported, SlaveAsked, SlaveReported, PlanAsked, Finished}
use Rattle.desk_book.specs.Calls.{after, replayed, AreAnswered, IsAnswered}
use Rattle.desk_book.specs.Logs.{DiskEntry, disk_noted}
use Rattle.desk_laws.specs.Joined.{CallFits}
use Rattle.desk_laws.proofs.DiskWork.{DiskLedBy}
use Rattle.desk_laws.proofs.DiskLog.{KeepsDisk, asked-keeps, reported-keeps}
use Rattle.desk_laws.proofs.DiskUp.{DiskPart, DiskGoesOn, disk-keeps, disk-asked, disk-reported}
use Rattle.desk_laws.proofs.WorldLaws.{Stays, happens}
use Rattle.desk_laws.proofs.SlaveOn.{Courses, SlaveGoesOn, courses-afterwards, slave-asked, slave-reported}

-- The main law's invariant holds with this book, and the rest of the calls leads the disk and each slave to the end.
pub record Joined (end : State) (calls : List Call) (book : Book) : Type 0 where
  pub state : State
  pub took : List Bool
  pub stays : Stays book state took
  pub disk : DiskPart book calls end.disk state.disk
  pub count : length end.halves ≡ length state.halves
  pub courses : Courses book calls state.halves end.halves

-- a call that the disk has no part in
part-keeps : (book later : Book) (call : Call) (calls : List Call) (end stands : Disk) → KeepsDisk book later → ((log : List DiskEntry) → disk_noted log call ≡ log) → DiskPart book (call ∷ calls) end stands → DiskPart later calls end stands
part-keeps book later call calls end stands keeps unnoted part = record {
  log = part.log;
  real = part.real;
  on = disk-keeps book later part.log part.real stands keeps part.on;
  led = subst (λ (l : List DiskEntry). DiskLedBy (fold disk_noted l calls) part.real end) (unnoted part.log) part.led;
}

module _ (end : State) (calls : List Call) (book : Book) (call : Call) (j : Joined end (call ∷ calls) book) (unreported : (i : ℕ) (outcome : RomOutcome) → call ≡ SlaveReported i outcome → ⊥) where
  -- no half changes, and the disk has no part in the call
  joins-quiet : (took : List Bool) → Stays (after book call) j.state took → KeepsDisk book (after book call) → ((log : List DiskEntry) → disk_noted log call ≡ log) → Joined end calls (after book call)
  joins-quiet took stays keeps unnoted = record {
    state = j.state;
    took = took;
    stays = stays;
    disk = part-keeps book (after book call) call calls end.disk j.state.disk keeps unnoted j.disk;
    count = j.count;
    courses = courses-afterwards book call calls j.state.halves end.halves unreported j.courses;
  }

  joins-disk : DiskGoesOn (after book call) calls end.disk j.state j.took → Joined end calls (after book call)
  joins-disk goes = record {
    state = record j.state { disk = goes.disk };
    took = j.took;
    stays = goes.stays;
    disk = goes.part;
    count = j.count;
    courses = courses-afterwards book call calls j.state.halves end.halves unreported j.courses;
  }

joins-reported : (end : State) (calls : List Call) (book later : Book) (call : Call) → KeepsDisk book later → ((log : List DiskEntry) → disk_noted log call ≡ log) → (j : Joined end (call ∷ calls) book) → SlaveGoesOn later calls end.halves j.state → Joined end calls later
joins-reported end calls book later call keeps unnoted j goes = record {
  state = record j.state { halves = goes.halves };
  took = goes.took;
  stays = goes.stays;
  disk = part-keeps book later call calls end.disk j.state.disk keeps unnoted j.disk;
  count = j.count ∙ sym goes.count;
  courses = goes.courses;
}

joins-call : (end : State) (calls : List Call) (book : Book) (call : Call) → IsAnswered book call → AreAnswered (after book call) calls → CallFits call → Joined end (call ∷ calls) book → Joined end calls (after book call)
joins-call end calls book (Submitted command (Ok number)) is all small j =
    joins-quiet end calls book (Submitted command (Ok number)) j (λ i outcome no. cc no) j.took
    (happens (Submit command) (Accepted command number) book (with_command book command) j.state j.state j.took j.took j.stays small (book, refl, (rw (sym is) refl, rw (sym is) refl)))
    (record { out = refl; action = refl; failed = λ has. has }) (λ log. refl)
joins-call end calls book (Submitted command (Err refusal)) is all small j =
    joins-quiet end calls book (Submitted command (Err refusal)) j (λ i outcome no. cc no) j.took j.stays (record { out = refl; action = refl; failed = λ has. has }) (λ log. refl)
joins-call end calls book (DiskAsked answer) is all small j =
    joins-disk end calls book (DiskAsked answer) j (λ i outcome no. cc no) (disk-asked book calls end.disk j.state j.took j.stays j.disk.log j.disk.real answer is j.disk.on j.disk.led)
joins-call end calls book (DiskReported outcome) is all small j =
    joins-disk end calls book (DiskReported outcome) j (λ i outcome no. cc no) (disk-reported book calls end.disk j.state j.took j.stays j.disk.log j.disk.real outcome is j.disk.on all j.disk.led)
joins-call end calls book (SlaveAsked slave answer) is all small j =
    let now = slave-asked book j.state j.took slave j.stays in joins-quiet end calls book (SlaveAsked slave answer) j (λ i outcome no. cc no) now.took now.stays (asked-keeps book slave) (λ log. refl)
joins-call end calls book (SlaveReported slave outcome) is all small j =
    joins-reported end calls book (rom_done book slave outcome) (SlaveReported slave outcome) (reported-keeps book slave outcome) (λ log. refl) j (slave-reported book calls end.halves j.state j.took j.stays slave outcome j.courses j.count is)
joins-call end calls book (PlanAsked answer) is all small j =
    joins-quiet end calls book (PlanAsked answer) j (λ i outcome no. cc no) j.took j.stays (record { out = refl; action = refl; failed = λ has. has }) (λ log. refl)
joins-call end calls book Finished is all small j =
    joins-quiet end calls book Finished j (λ i outcome no. cc no) j.took (happens Finish Closed book (finish book) j.state j.state j.took j.took j.stays tt (book, refl, (refl, refl))) (record { out = refl; action = refl; failed = λ has. has }) (λ log. refl)

pub joins-all : (end : State) (calls : List Call) (book : Book) → AreAnswered book calls → AllByRecursion CallFits calls → Joined end calls book → Joined end [] (replayed book calls)
joins-all end [] book all small j = j
joins-all end (call ∷ calls) book all small j = joins-all end calls (after book call) all.1 small.1 (joins-call end calls book call all.0 all.1 small.0 j)
