-- Calls of callers and actions of the disk, as events of a world.
use Rattle.std.proofs.Common.{◌≡◌, ◌≢◌, ◌∙◌, ℕ, Bool, true, false, List, [], Option, Some, None, Result, Ok, Err, refl, sym, ap, subst, arith}
use Rattle.std.specs.Prelude.{if◌then◌else◌}
use Rattle.sii_image.specs.ProcessImage.{process_image}
use Rattle.sii_edit.specs.declared.command.Command.{Command}
use Rattle.site_core.specs.declared.fault.DeviceFault.{DeviceFault}
use Rattle.site_core.specs.declared.fault.DeviceFault.TheVariants as device
use Rattle.site_core.specs.Disk.{Disk, DiskStopped}
use Rattle.site_core.proofs.StopImages.{equal_by_elements}
use Rattle.book_model.specs.Events.{begun_on, ended_on, FailsOn, in_progress}
use Rattle.book_model.specs.declared.next.DiskNext.{DiskNext}
use Rattle.book_model.specs.declared.next.DiskNext.TheVariants as next
use Rattle.book_model.specs.declared.refusal.SubmitRefusal.{SubmitRefusal}
use Rattle.book_model.specs.Memory.{OutOfMemory}
use Rattle.book_model.specs.Book.{Book}
use Rattle.book_model.specs.Submit.{submit, with_command, IsSubmitted, answered, out_of_memory}
use Rattle.book_model.specs.Open.{migrate, finish}
use Rattle.book_model.specs.Reading.{applied, planned}
use Rattle.book_model.specs.DiskSteps.{action_of, disk_next, disk_done}
use Rattle.world_law.specs.World as law
use Rattle.world_law.specs.World.{World, Reported}
use Rattle.world_law.specs.Happenings.{with_book, with_disk, submitted, reported_of}
use Rattle.site_journal.proofs.DiskLaws.{not-both}
use Rattle.world_run.specs.declared.leaving.LeftByte.{LeftByte}
use Rattle.world_run.specs.declared.happenings.Event.{Event}
use Rattle.world_run.specs.declared.happenings.Event.TheVariants as events
use Rattle.world_run.specs.declared.happenings.DiskEnd.TheVariants as ends
use Rattle.std.specs.Global.{Vec}
use Rattle.world_run.specs.Left.{HoldsLeft}
use Rattle.world_run.specs.Torn.{FailsAs, StopsAs}
use Rattle.world_run.specs.Progress.{handed_out, as_action}
use Rattle.world_run.specs.Step.{Happened, happens, cannot}
use Rattle.world_run.proofs.ProgressLaws.{begins}

-- where an old world is seen
pub seen : (event : Event) (now old new : World) → now ≡ old → Happened event now new → Happened event old new
seen event now old new is happened = subst (λ (w : World). Happened event w new) is happened

-- the world with the book that it has
same-book : (world : World) (book : Book) → world.book ≡ Some book → with_book world book ≡ world
same-book world book is = ap (λ (b : Option Book). record world { book = b }) (sym is)

-- ---- callers

pub migrates : (world : World) (book later : Book) → world.book ≡ Some book → later ≡ (migrate book).1 → Happened events.Migrate world (with_book world later)
migrates world book later up is = happens law.Nothing (book, up, (refl, ap (with_book world) is)) tt

pub finishes : (world : World) (book later : Book) → world.book ≡ Some book → later ≡ finish book → Happened events.Finish world (with_book world later)
finishes world book later up is = happens law.Closed (book, up, (refl, ap (with_book world) is)) tt

pub plans : (world : World) (book later : Book) → world.book ≡ Some book → later ≡ book → Happened events.Plan world (with_book world later)
plans world book later up is = happens (law.Planned (applied book) (process_image (planned book))) (book, up, (refl, ap (with_book world) is ∙ same-book world book up)) tt

pub submits : (world : World) (book later : Book) (command : Command) (number : ℕ) → world.book ≡ Some book → IsSubmitted book command (Ok number) → later ≡ with_command book command
    → Happened (events.Submit command) world (with_book world later)
submits world book later command number up (answered is) goes =
    happens (submitted book command (submit book command)).1 (book, up, (refl, ap (with_book world) (goes ∙ ap (λ (r : Result ℕ SubmitRefusal). (submitted book command r).0) is))) tt
submits world book later command number up (out_of_memory memory not_closed new) goes = absurd memory

pub refuses : (world : World) (book later : Book) (command : Command) (refusal : SubmitRefusal) → world.book ≡ Some book → IsSubmitted book command (Err refusal) → ¬ OutOfMemory refusal
    → later ≡ book → Happened (events.Submit command) world (with_book world later)
refuses world book later command refusal up (answered is) not goes =
    happens (submitted book command (submit book command)).1 (book, up, (refl, ap (with_book world) (goes ∙ ap (λ (r : Result ℕ SubmitRefusal). (submitted book command r).0) is))) tt
refuses world book later command refusal up (out_of_memory memory not_closed new) not goes = absurd (not memory)

-- ---- an action of the disk begins

begun-as : (answer : DiskNext) (disk : Disk) → begun_on (Some answer) disk ≡ begun_on (as_action answer) disk
begun-as (next.Write at bytes) disk = refl
begun-as (next.Gate at closed) disk = refl
begun-as next.Sync disk = refl
begun-as next.Idle disk = refl
begun-as next.Stop disk = refl

pub begins-action : (world : World) (book later : Book) (disk : Disk) → world.book ≡ Some book → book.is_handed_out ≡ false → later ≡ (disk_next book).1
    → disk ≡ begun_on (handed_out later) world.state.disk → Happened events.DiskBegin world (with_disk world later disk)
begins-action world book later disk up out goes is =
    let e : disk ≡ begun_on (Some (disk_next book).0) world.state.disk =
    is ∙ ap (λ (b : Book). begun_on (handed_out b) world.state.disk) goes ∙ sym (begun-as (disk_next book).0 world.state.disk ∙ ap (λ (o : Option DiskNext). begun_on o world.state.disk) (begins book out).disk) in
    happens law.Nothing (book, up, (refl, ap (λ (b : Book). with_disk world b disk) goes ∙ ap (with_disk world (disk_next book).1) e)) tt

pub waits : (world new : World) (book : Book) → world.book ≡ Some book → book.is_handed_out ≡ true → new ≡ world → Happened events.DiskBegin world new
waits world new book up out same =
    let e : disk_next book ≡ (next.Idle, book) = rw out refl in
    happens law.Nothing (
      book,
      up,
      (
        refl,
        same ∙ sym (ap (λ (p : DiskNext × Book). with_disk world p.1 (begun_on (Some p.0) world.state.disk)) e ∙ same-book world book up),
      ),
    ) tt

-- ---- an action of the disk ends

is-out : (book : Book) (out : Bool) (action : DiskNext) → book.is_handed_out ≡ out → (if out then action_of book book.doing else None) ≡ Some action → (out ≡ true) × (action_of book book.doing ≡ Some action)
is-out book true action is there = (refl, there)
is-out book false action is there = absurd cc

pub ends-action : (world : World) (book later : Book) (action : DiskNext) (disk : Disk) → world.book ≡ Some book → handed_out book ≡ Some action → later ≡ disk_done book (Ok tt)
    → disk ≡ ended_on (Some action) world.state.disk → Happened (events.DiskDone ends.Done) world (with_disk world later disk)
ends-action world book later action disk up out goes is =
    let o = is-out book book.is_handed_out action refl out in
    let e : disk ≡ ended_on (in_progress book) world.state.disk = is ∙ ap (λ (a : Option DiskNext). ended_on a world.state.disk) (sym o.1) in
    happens (reported_of book (disk_done book (Ok tt))) (book, up, (o.0, (refl, ap (λ (b : Book). with_disk world b disk) goes ∙ ap (with_disk world (disk_done book (Ok tt))) e))) tt

pub some-one : (a b : Book) (x : Option Book) → x ≡ Some a → x ≡ Some b → a ≡ b
some-one a b x is there = let both : Some a ≡ Some b = sym is ∙ there in cc

pub nothing-ends : (world : World) (book : Book) → world.book ≡ Some book → book.is_handed_out ≡ false → Happened (events.DiskDone ends.Done) world world
nothing-ends world book up out = cannot (λ reported later h. not-both h.0.is_handed_out h.2.0 (ap (λ (b : Book). b.is_handed_out) (some-one h.0 book world.book h.1 up) ∙ out)) refl

pub nothing-fails : (world : World) (book : Book) (fault : DeviceFault) (bytes : Vec LeftByte) → world.book ≡ Some book → book.is_handed_out ≡ false → Happened (events.DiskDone (ends.Failed fault bytes)) world world
nothing-fails world book fault bytes up out = cannot (λ reported later h. not-both h.0.is_handed_out h.2.0 (ap (λ (b : Book). b.is_handed_out) (some-one h.0 book world.book h.1 up) ∙ out)) refl

pub never-lost : (world : World) (bytes : Vec LeftByte) → Happened (events.DiskDone (ends.Failed device.Lost bytes)) world world
never-lost world bytes = cannot (λ reported later h. h.2.1.1 refl) refl

-- a disk of which no byte changed
held-none : (choice : List LeftByte) (old new : Disk) → HoldsLeft [] choice old.bytes new.bytes → new ≡ record old { bytes = new.bytes } → new ≡ old
held-none choice old new holds rest = rest ∙ ap (λ (b : List ℕ). record old { bytes = b }) (equal_by_elements new.bytes old.bytes (λ at. holds.outside at tt))

fails-on : (action : DiskNext) (choice : List LeftByte) (old new : Disk) → FailsAs action choice old new → FailsOn (Some action) old new
fails-on (next.Write at bytes) choice old new fails = record {
  bytes = λ place out. fails.bytes.outside place (out, tt);
  no_shorter = let same = fails.bytes.long in omega arith;
  unsynced = ap (λ (d : Disk). d.unsynced) fails.rest;
  synced_length = ap (λ (d : Disk). d.synced_length) fails.rest;
}
fails-on (next.Gate at closed) choice old new fails = record {
  bytes = λ place out. fails.bytes.outside place (out, tt);
  no_shorter = let same = fails.bytes.long in omega arith;
  unsynced = ap (λ (d : Disk). d.unsynced) fails.rest;
  synced_length = ap (λ (d : Disk). d.synced_length) fails.rest;
}
fails-on next.Sync choice old new fails = held-none choice old new fails.bytes fails.rest
fails-on next.Idle choice old new fails = held-none choice old new fails.bytes fails.rest
fails-on next.Stop choice old new fails = held-none choice old new fails.bytes fails.rest

pub fails-action : (world : World) (book later : Book) (action : DiskNext) (fault : DeviceFault) (bytes : Vec LeftByte) (disk : Disk) → world.book ≡ Some book → handed_out book ≡ Some action
    → fault ≢ device.Lost → later ≡ disk_done book (Err fault) → FailsAs action bytes.items world.state.disk disk → Happened (events.DiskDone (ends.Failed fault bytes)) world (with_disk world later disk)
fails-action world book later action fault bytes disk up out not goes fails =
    let o = is-out book book.is_handed_out action refl out in
    let on : FailsOn (in_progress book) world.state.disk disk = subst (λ (a : Option DiskNext). FailsOn a world.state.disk disk) (sym o.1) (fails-on action bytes.items world.state.disk disk fails) in
    happens law.Closed (book, up, (o.0, (disk, not, on, refl, ap (λ (b : Book). with_disk world b disk) goes)))
    (λ other act there is.
    let one : book ≡ other = some-one book other world.book up there in
    let acts : Some action ≡ Some act = sym out ∙ ap handed_out one ∙ is in
    let e : action ≡ act = cc in
    subst (λ (a : DiskNext). FailsAs a bytes.items world.state.disk disk) e fails)

-- ---- a stop

pub stops-disk : (choice : List LeftByte) (old new : Disk) → StopsAs choice old new → DiskStopped old new
stops-disk choice old new stops = record {
  image = record { bytes = stops.bytes.outside; no_shorter = let same = stops.bytes.long in omega arith };
  all_synced = stops.all_synced;
}
