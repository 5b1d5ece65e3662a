-- DiskFits stays true when the book hands out its next action on the disk.
use Rattle.std.proofs.Common.{◌≡◌, ℕ, Bool, true, false, refl, sym, subst, Option, Some, None}
use Rattle.std.specs.Prelude.{is_some, if◌then◌else◌}
use Rattle.jrn_format.specs.Halves.{place_of}
use Rattle.site_core.specs.Disk.{Disk, write_begun}
use Rattle.book_model.specs.declared.next.DiskNext.{DiskNext}
use Rattle.book_model.specs.declared.next.DiskNext.TheVariants as next
use Rattle.book_model.specs.Book.{Book, Doing, Resting, Payload, PayloadSync, OpenGate, OpenSync, CloseGate, CloseSync, FarGate, Mark, MarkSync, Version, VersionSync, queued}
use Rattle.book_model.specs.DiskSteps.{action_of, begun, doing_next, disk_next}
use Rattle.book_model.specs.Frame.{JournalFrame, room}
use Rattle.book_model.specs.Phases.{AtRest, HasGate}
use Rattle.book_model.specs.Doing.{DoingFits, DiskFits}
use Rattle.book_model.specs.Events.{begun_on}
use Rattle.book_model.specs.Queued.{CanBegin}
use Rattle.book_model.proofs.AppendLaws.{gate-begun}
use Rattle.book_model.proofs.DoneLaws.{place-at}
use Rattle.book_model.proofs.CarryLaws.{Carries, carry}
use Rattle.book_model.proofs.BeginLaws.{append-begins, retire-begins, BegunAs, appends, retires, migrates, rests, begun-as}

-- a step that is to be handed out; where the book rests nothing is
abbrev pub Handed : JournalFrame → Book → Disk → Doing → Type 0
Handed frame book disk doing = DoingFits frame book doing true false (begun_on (action_of book doing) disk)

goes-on : (frame : JournalFrame) (book : Book) (disk : Disk) → book.capacity ≡ frame.capacity → (doing : Doing) → DoingFits frame book doing false false disk → Handed frame book disk doing
goes-on frame book disk same Resting f = f
goes-on frame book disk same (Payload place entries) f = absurd f.0
goes-on frame book disk same (PayloadSync place entries) f = f
goes-on frame book disk same (OpenGate place entries) f =
    let g = gate-begun frame book.halves place entries disk f.1 in
    (f.0, (g.0, subst (λ (n : ℕ). HasGate frame book.halves place entries g.0 (write_begun disk n 1)) (sym (place-at frame book place same)) g.1))
goes-on frame book disk same (OpenSync place entries) f = f
goes-on frame book disk same CloseGate f = absurd f.0
goes-on frame book disk same CloseSync f = f
goes-on frame book disk same FarGate f = absurd f
goes-on frame book disk same Mark f = absurd f
goes-on frame book disk same MarkSync f = absurd f
goes-on frame book disk same Version f = absurd f
goes-on frame book disk same VersionSync f = absurd f

begins : (frame : JournalFrame) (book : Book) (disk : Disk) → CanBegin frame book → book.doing ≡ Resting → AtRest frame book.halves disk → (doing : Doing) → BegunAs book doing → Handed frame book disk doing
begins frame book disk can resting rest doing (appends place some is so) =
    let there : place_of (room frame) book.halves (queued book) ≡ Some place = rw (sym can.capacity) is in
    subst (Handed frame book disk) (sym so) (append-begins frame book place disk can.is_frame can.capacity resting can.durable can.queue some there rest)
begins frame book disk can resting rest doing (retires may so) = subst (Handed frame book disk) (sym so) (retire-begins frame book disk can.capacity can.ordered can.tested may rest)
begins frame book disk can resting rest doing (migrates may so) = absurd (cc (can.no_migration))
begins frame book disk can resting rest doing (rests so) = subst (Handed frame book disk) (sym so) rest

next-doing : (frame : JournalFrame) (book : Book) (disk : Disk) → CanBegin frame book → (doing : Doing) → book.doing ≡ doing → DoingFits frame book doing false false disk → Handed frame book disk (doing_next book doing)
next-doing frame book disk can Resting is f = begins frame book disk can is f (begun book) (begun-as book)
next-doing frame book disk can (Payload place entries) is f = goes-on frame book disk can.capacity (Payload place entries) f
next-doing frame book disk can (PayloadSync place entries) is f = goes-on frame book disk can.capacity (PayloadSync place entries) f
next-doing frame book disk can (OpenGate place entries) is f = goes-on frame book disk can.capacity (OpenGate place entries) f
next-doing frame book disk can (OpenSync place entries) is f = goes-on frame book disk can.capacity (OpenSync place entries) f
next-doing frame book disk can CloseGate is f = goes-on frame book disk can.capacity CloseGate f
next-doing frame book disk can CloseSync is f = goes-on frame book disk can.capacity CloseSync f
next-doing frame book disk can FarGate is f = absurd f
next-doing frame book disk can Mark is f = absurd f
next-doing frame book disk can MarkSync is f = absurd f
next-doing frame book disk can Version is f = absurd f
next-doing frame book disk can VersionSync is f = absurd f

-- ---- what is handed out

abbrev pub Begun : JournalFrame → Disk → DiskNext × Book → Type 0
Begun frame disk answer = DiskFits frame answer.1 (begun_on (Some answer.0) disk)

pub nothing-begun : (c : Bool) (disk : Disk) → begun_on (Some (if c then next.Stop else next.Idle)) disk ≡ disk
nothing-begun true disk = refl
nothing-begun false disk = refl

handed : (frame : JournalFrame) (book : Book) (disk : Disk) (action : Option DiskNext) → DiskFits frame book disk → book.is_handed_out ≡ false → is_some book.fault ≡ false → action_of book (doing_next book book.doing) ≡ action
    → Handed frame book disk (doing_next book book.doing) → Begun frame disk (disk_next book)
handed frame book disk None fits out ok is done =
    let e : disk_next book ≡ (if book.is_finished then next.Stop else next.Idle, book) = rw (out, ok, is) refl in
    subst (Begun frame disk) (sym e) (subst (DiskFits frame book) (sym (nothing-begun book.is_finished disk)) fits)
handed frame book disk (Some action) fits out ok is done =
    let doing = doing_next book book.doing in
    let later : Book = record book { doing = doing; is_handed_out = true } in
    let e : disk_next book ≡ (action, later) = rw (out, ok, is) refl in
    let carries : Carries book later = record { halves = refl; appends = λ place entries a. a; retires = λ r. r } in
    subst (Begun frame disk) (sym e)
    (subst (λ (failed : Bool). DoingFits frame later doing true failed (begun_on (Some action) disk)) (sym ok)
    (carry frame book later (begun_on (Some action) disk) carries true false doing
    (subst (λ (a : Option DiskNext). DoingFits frame book doing true false (begun_on a disk)) is done)))

by-fault : (frame : JournalFrame) (book : Book) (disk : Disk) (failed : Bool) → CanBegin frame book → DiskFits frame book disk → book.is_handed_out ≡ false → is_some book.fault ≡ failed → Begun frame disk (disk_next book)
by-fault frame book disk true can fits out ok = let e : disk_next book ≡ (next.Stop, book) = rw (out, ok) refl in subst (Begun frame disk) (sym e) fits
by-fault frame book disk false can fits out ok =
    let f : DoingFits frame book book.doing false false disk = subst (λ (o : Bool). DoingFits frame book book.doing o false disk) out (subst (λ (failed : Bool). DoingFits frame book book.doing book.is_handed_out failed disk) ok fits) in
    handed frame book disk (action_of book (doing_next book book.doing)) fits out ok refl (next-doing frame book disk can book.doing refl f)

by-out : (frame : JournalFrame) (book : Book) (disk : Disk) (out : Bool) → CanBegin frame book → DiskFits frame book disk → book.is_handed_out ≡ out → Begun frame disk (disk_next book)
by-out frame book disk true can fits out = let e : disk_next book ≡ (next.Idle, book) = rw out refl in subst (Begun frame disk) (sym e) fits
by-out frame book disk false can fits out = by-fault frame book disk (is_some book.fault) can fits out refl

pub disk-begins : (frame : JournalFrame) (book : Book) (disk : Disk) → CanBegin frame book → DiskFits frame book disk → Begun frame disk (disk_next book)
disk-begins frame book disk can fits = by-out frame book disk book.is_handed_out can fits refl
