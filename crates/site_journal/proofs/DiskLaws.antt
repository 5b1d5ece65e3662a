-- An action of the disk ends while a book is recovering.
use Rattle.std.proofs.Common.{◌≡◌, ◌≢◌, ◌+◌, ◌≤◌, Bool, true, false, List, [], ◌∷◌, ◌++◌, length, drop, refl, sym, ◌∙◌, ap, subst, arith, Option, Some, None, Result, Ok, Err}
use Rattle.std.specs.Prelude.{is_some, not}
use Rattle.std.proofs.Math.Seq.{drop-nil}
use Rattle.std.proofs.lemmas.Bool.{not-true, false_from_ne_true}
use Rattle.jrn_format.specs.declared.journal.Batch.{Batch}
use Rattle.jrn_format.specs.declared.journal.Entry.{Entry}
use Rattle.jrn_format.specs.declared.journal.Form.{Form}
use Rattle.jrn_format.specs.declared.journal.Form.TheVariants.{One, Two, Moving}
use Rattle.jrn_format.specs.Halves.{Halves, live, left_of}
use Rattle.book_model.specs.Cells.{is_any}
use Rattle.sii_edit.specs.declared.command.Command.{Command}
use Rattle.site_core.specs.declared.fault.DeviceFault.{DeviceFault}
use Rattle.site_core.specs.declared.fault.DeviceFault.TheVariants as device
use Rattle.site_core.specs.State.{State}
use Rattle.book_model.specs.declared.next.DiskNext.{DiskNext}
use Rattle.book_model.specs.declared.next.DiskNext.TheVariants as next
use Rattle.book_model.specs.Entries.{live_runs, entries_from}
use Rattle.book_model.specs.Book.{Book, Doing, Resting, Payload, PayloadSync, OpenGate, OpenSync, CloseGate, CloseSync, FarGate, Mark, MarkSync, Version, VersionSync, all_cells, appended, base_of, being_appended, is_closed, is_version_2, queued}
use Rattle.book_model.specs.Open.{migrate}
use Rattle.book_model.specs.DiskSteps.{action_of, begun, after_far_gate, can_migrate, can_retire, doing_next, disk_next, disk_done, went_on}
use Rattle.book_model.specs.Reading.{runs_settled}
use Rattle.book_model.specs.Machine.{Machine}
use Rattle.book_model.specs.Frame.{JournalFrame}
use Rattle.book_model.proofs.BeginLaws.{BegunAs, appends, retires, migrates, rests, begun-as}
use Rattle.book_model.specs.Up.{Up}
use Rattle.site_journal.specs.Left.{half_calls, halves_calls, disk_calls}
use Rattle.site_journal.specs.Recovering.{IsStep, IsRecovering, GetsNearer, HasAction, fault_after}
use Rattle.book_model.proofs.SettledLaws.{and-right, and-left}

-- ---- what is begun

pub none-queued : (book : Book) → book.accepted ≡ [] → is_any (queued book) ≡ false
none-queued book none =
    let count = book.durable + length (being_appended (appended book.doing)) in
    ap (λ (l : List Command). is_any (drop count (entries_from 0 (base_of book) l))) none ∙ ap (λ (l : List Entry). is_any l) (drop-nil {A = Entry} count)

pub not-both : (b : Bool) → b ≡ true → b ≡ false → ⊥
not-both b is isnt = absurd cc

some-live : (halves : Halves) → (halves.older ≡ [] → halves.newer ≡ []) → is_any (live halves) ≡ true → halves.older ≢ []
some-live halves ordered some none =
    let no : is_any (live halves) ≡ false = ap (λ (l : List Batch). is_any (l ++ halves.newer)) none ∙ ap (λ (l : List Batch). is_any l) (ordered none) in
    not-both (is_any (live halves)) some no

pub none-live : (batches : List Batch) → is_any batches ≡ false → batches ≡ []
none-live [] is = refl
none-live (b ∷ batches) is = absurd cc

-- the step that is handed out next is one of a recovery, and takes the calls that were counted
pub record GoesTo (book : Book) (doing : Doing) : Type 0 where
  pub step : IsStep doing book.halves book.form
  pub calls : disk_calls doing book.halves book.form ≡ disk_calls book.doing book.halves book.form

module _ (frame : JournalFrame) (book : Book) (state : State) (took : List Bool) (m : Machine) (up : Up frame book state took m) (recovering : IsRecovering book) where
  begins : (doing : Doing) → book.doing ≡ Resting → BegunAs book doing → GoesTo book doing
  begins doing resting (appends place some there is) = absurd (not-both (is_any (queued book)) some (none-queued book recovering.none))
  begins doing resting (retires can is) =
      let settled = runs_settled (all_cells book.slaves) (live_runs book.halves.newer) (live_runs book.halves.older) in
      let some = some-live book.halves up.ordered (and-left (is_any (live book.halves)) settled can) in
      subst (GoesTo book) (sym is) (record { step = some; calls = ap (λ (d : Doing). disk_calls d book.halves book.form) (sym resting) })
  begins doing resting (migrates can is) =
      let asked = and-left book.is_migrating (not (is_any (live book.halves))) can in
      let nothing = none-live (live book.halves) (not-true (is_any (live book.halves)) (and-right book.is_migrating (not (is_any (live book.halves))) can)) in
      let old = false_from_ne_true (is_version_2 book.form) (λ new. not-both book.is_migrating asked (up.no_migration new)) in
      subst (GoesTo book) (sym is) (record { step = (old, nothing); calls = ap (λ (d : Doing). disk_calls d book.halves book.form) (sym resting) })
  begins doing resting (rests is) = subst (GoesTo book) (sym is) (record { step = tt; calls = ap (λ (d : Doing). disk_calls d book.halves book.form) (sym resting) })

  stays : (doing : Doing) → book.doing ≡ doing → GoesTo book doing
  stays doing is = record { step = subst (λ (d : Doing). IsStep d book.halves book.form) is recovering.step; calls = ap (λ (d : Doing). disk_calls d book.halves book.form) (sym is) }

  goes-to : (doing : Doing) → book.doing ≡ doing → GoesTo book (doing_next book doing)
  goes-to Resting is = begins (begun book) is (begun-as book)
  goes-to (Payload place entries) is = stays (Payload place entries) is
  goes-to (PayloadSync place entries) is = stays (PayloadSync place entries) is
  goes-to (OpenGate place entries) is = stays (OpenGate place entries) is
  goes-to (OpenSync place entries) is = stays (OpenSync place entries) is
  goes-to CloseGate is = stays CloseGate is
  goes-to CloseSync is = stays CloseSync is
  goes-to FarGate is = stays FarGate is
  goes-to Mark is = stays Mark is
  goes-to MarkSync is = stays MarkSync is
  goes-to Version is = stays Version is
  goes-to VersionSync is = stays VersionSync is

-- ---- a step is done

-- the book as the step is done
abbrev pub at : Book → Doing → Book
at book doing = record book { doing = doing; is_handed_out = false }

some-half : (batches : List Batch) → batches ≢ [] → half_calls batches ≡ 2
some-half [] some = absurd (some refl)
some-half (b ∷ batches) some = refl

calls-retired : (halves : Halves) (newer : List Batch) → halves_calls (left_of halves newer) ≡ half_calls newer
calls-retired halves [] = refl
calls-retired halves (b ∷ newer) = refl

none-half : (batches : List Batch) → batches ≡ [] → half_calls batches ≡ 0
none-half [] is = refl
none-half (b ∷ batches) is = absurd cc

older-none : (older newer : List Batch) → older ++ newer ≡ [] → (older ≡ []) × (newer ≡ [])
older-none [] newer is = (refl, is)
older-none (b ∷ older) newer is = absurd cc

none-halves : (halves : Halves) → live halves ≡ [] → halves_calls halves ≡ 0
none-halves halves none = let both = older-none halves.older halves.newer none in omega (arith, none-half halves.older both.0, none-half halves.newer both.1)

far-step : (halves : Halves) (form : Form) → live halves ≡ [] → IsStep (after_far_gate form) halves form
far-step halves One none = none
far-step halves Two none = none
far-step halves Moving none = none

far-calls : (halves : Halves) (form : Form) → is_version_2 form ≡ false → disk_calls (after_far_gate form) halves form + 1 ≤ disk_calls FarGate halves form
far-calls halves One old = omega arith
far-calls halves Two old = absurd cc
far-calls halves Moving old = omega arith

-- what is left to show of a step: it is followed by one of a recovery, and a device call fewer may come
record StepsOn (book : Book) (doing : Doing) : Type 0 where
  step : IsStep (went_on (at book doing) doing).doing (went_on (at book doing) doing).halves (went_on (at book doing) doing).form
  calls : disk_calls (went_on (at book doing) doing).doing (went_on (at book doing) doing).halves (went_on (at book doing) doing).form + 1 ≤ disk_calls doing book.halves book.form

steps-on : (book : Book) (doing : Doing) → doing ≢ Resting → IsStep doing book.halves book.form → StepsOn book doing
steps-on book Resting some step = absurd (some refl)
steps-on book (Payload place entries) some step = absurd step
steps-on book (PayloadSync place entries) some step = absurd step
steps-on book (OpenGate place entries) some step = absurd step
steps-on book (OpenSync place entries) some step = absurd step
steps-on book CloseGate some step = record { step = step; calls = omega (arith, some-half book.halves.older step) }
steps-on book CloseSync some step = record { step = tt; calls = omega (arith, calls-retired book.halves book.halves.newer) }
steps-on book FarGate some step = record { step = far-step book.halves book.form step.1; calls = far-calls book.halves book.form step.0 }
steps-on book Mark some step = record { step = step; calls = omega arith }
steps-on book MarkSync some step = record { step = step; calls = omega arith }
steps-on book Version some step = record { step = step; calls = omega arith }
steps-on book VersionSync some step = record { step = tt; calls = omega (arith, none-halves book.halves step) }

-- nothing else changes
abbrev Goes : Book → Doing → Type 0
Goes book doing = GetsNearer 1 0 book (went_on (at book doing) doing)

done-as : (book : Book) (doing : Doing) → IsRecovering book → GoesTo book doing → StepsOn book doing → Goes book doing
done-as book Resting r to on =
    let calls = on.calls in
    record { recovering = record { none = r.none; step = tt; rests = refl; going = r.going; between = r.between; worn = r.worn }; left = omega (arith, calls, to.calls); issued = omega arith }
done-as book (Payload place entries) r to on = absurd to.step
done-as book (PayloadSync place entries) r to on = absurd to.step
done-as book (OpenGate place entries) r to on = absurd to.step
done-as book (OpenSync place entries) r to on = absurd to.step
done-as book CloseGate r to on =
    record { recovering = record { none = r.none; step = on.step; rests = refl; going = r.going; between = r.between; worn = r.worn }; left = omega (arith, on.calls, to.calls); issued = omega arith }
done-as book CloseSync r to on =
    record { recovering = record { none = r.none; step = tt; rests = refl; going = r.going; between = r.between; worn = r.worn }; left = omega (arith, on.calls, to.calls); issued = omega arith }
done-as book FarGate r to on =
    record { recovering = record { none = r.none; step = on.step; rests = refl; going = r.going; between = r.between; worn = r.worn }; left = omega (arith, on.calls, to.calls); issued = omega arith }
done-as book Mark r to on =
    record { recovering = record { none = r.none; step = on.step; rests = refl; going = r.going; between = r.between; worn = r.worn }; left = omega (arith, on.calls, to.calls); issued = omega arith }
done-as book MarkSync r to on =
    record { recovering = record { none = r.none; step = on.step; rests = refl; going = r.going; between = r.between; worn = r.worn }; left = omega (arith, on.calls, to.calls); issued = omega arith }
done-as book Version r to on =
    record { recovering = record { none = r.none; step = on.step; rests = refl; going = r.going; between = r.between; worn = r.worn }; left = omega (arith, on.calls, to.calls); issued = omega arith }
done-as book VersionSync r to on =
    record { recovering = record { none = r.none; step = tt; rests = refl; going = r.going; between = r.between; worn = r.worn }; left = omega (arith, on.calls, to.calls); issued = omega arith }

-- ---- the action that is handed out

no-action : (book : Book) (doing : Doing) → action_of book doing ≡ None → doing ≡ Resting
no-action book Resting is = refl
no-action book (Payload place entries) is = absurd cc
no-action book (PayloadSync place entries) is = absurd cc
no-action book (OpenGate place entries) is = absurd cc
no-action book (OpenSync place entries) is = absurd cc
no-action book CloseGate is = absurd cc
no-action book CloseSync is = absurd cc
no-action book FarGate is = absurd cc
no-action book Mark is = absurd cc
no-action book MarkSync is = absurd cc
no-action book Version is = absurd cc
no-action book VersionSync is = absurd cc

not-rest : (book : Book) (doing : Doing) (action : DiskNext) → action_of book doing ≡ Some action → doing ≢ Resting
not-rest book doing action is resting = let none : action_of book doing ≡ None = ap (action_of book) resting in absurd cc

-- a step is handed out
record HandsOut (book : Book) : Type 0 where
  some : doing_next book book.doing ≢ Resting
  is : (disk_next book).1 ≡ record book { doing = doing_next book book.doing; is_handed_out = true }

module _ (book : Book) (recovering : IsRecovering book) (has : HasAction book) where
  with-action : (action : Option DiskNext) → is_some book.fault ≡ false → action_of book (doing_next book book.doing) ≡ action → HandsOut book
  with-action None ok is = let idle : (disk_next book).0 ≡ next.Idle = rw (recovering.rests, ok, is, recovering.going) refl in absurd (has.0 idle)
  with-action (Some action) ok is = record { some = not-rest book (doing_next book book.doing) action is; is = rw (recovering.rests, ok, is) refl }

  with-fault : (failed : Bool) → is_some book.fault ≡ failed → HandsOut book
  with-fault true ok = let stop : (disk_next book).0 ≡ next.Stop = rw (recovering.rests, ok) refl in absurd (has.1 stop)
  with-fault false ok = with-action (action_of book (doing_next book book.doing)) ok refl

  hands-out : HandsOut book
  hands-out = with-fault (is_some book.fault) refl

pub action-done : (frame : JournalFrame) (book : Book) (state : State) (took : List Bool) (m : Machine) → Up frame book state took m → IsRecovering book → HasAction book → GetsNearer 1 0 book (disk_done (disk_next book).1 (Ok tt))
action-done frame book state took m up recovering has =
    let out = hands-out book recovering has in
    let to = goes-to frame book state took m up recovering book.doing refl in
    let doing = doing_next book book.doing in
    subst (λ (b : Book). GetsNearer 1 0 book (disk_done b (Ok tt))) (sym out.is) (done-as book doing recovering to (steps-on book doing out.some to.step))

went-fault : (later : Book) (doing : Doing) → (went_on later doing).fault ≡ later.fault
went-fault later Resting = refl
went-fault later (Payload place entries) = refl
went-fault later (PayloadSync place entries) = refl
went-fault later (OpenGate place entries) = refl
went-fault later (OpenSync place entries) = refl
went-fault later CloseGate = refl
went-fault later CloseSync = refl
went-fault later FarGate = refl
went-fault later Mark = refl
went-fault later MarkSync = refl
went-fault later Version = refl
went-fault later VersionSync = refl

done-fault : (book : Book) (doing : Doing) (result : Result (Unit {0}) DeviceFault) → (disk_done (record book { doing = doing; is_handed_out = true }) result).fault ≡ fault_after result book.fault
done-fault book doing (Ok done) = went-fault (at book doing) doing
done-fault book doing (Err device.Disk) = refl
done-fault book doing (Err device.Lost) = refl
done-fault book doing (Err device.Stopped) = refl

pub action-fault : (book : Book) (result : Result (Unit {0}) DeviceFault) → IsRecovering book → HasAction book → (disk_done (disk_next book).1 result).fault ≡ fault_after result book.fault
action-fault book result recovering has =
    let out = hands-out book recovering has in
    subst (λ (b : Book). (disk_done b result).fault ≡ fault_after result book.fault) (sym out.is) (done-fault book (doing_next book book.doing) result)

-- ---- nobody stops

some-ahead : (book : Book) (doing : Doing) (action : DiskNext) → action_of book doing ≡ Some action → action ≢ next.Stop
some-ahead book Resting action is stop = absurd cc
some-ahead book (Payload place entries) action is stop = absurd cc
some-ahead book (PayloadSync place entries) action is stop = absurd cc
some-ahead book (OpenGate place entries) action is stop = absurd cc
some-ahead book (OpenSync place entries) action is stop = absurd cc
some-ahead book CloseGate action is stop = absurd cc
some-ahead book CloseSync action is stop = absurd cc
some-ahead book FarGate action is stop = absurd cc
some-ahead book Mark action is stop = absurd cc
some-ahead book MarkSync action is stop = absurd cc
some-ahead book Version action is stop = absurd cc
some-ahead book VersionSync action is stop = absurd cc

no-stop : (book : Book) (action : Option DiskNext) → IsRecovering book → is_some book.fault ≡ false → action_of book (doing_next book book.doing) ≡ action → (disk_next book).0 ≢ next.Stop
no-stop book None recovering ok is stop = let idle : (disk_next book).0 ≡ next.Idle = rw (recovering.rests, ok, is, recovering.going) refl in absurd cc
no-stop book (Some action) recovering ok is stop =
    let said : (disk_next book).0 ≡ action = rw (recovering.rests, ok, is) refl in
    absurd (some-ahead book (doing_next book book.doing) action is (sym said ∙ stop))

pub disk-goes : (book : Book) → IsRecovering book → is_some book.fault ≡ false → (disk_next book).0 ≢ next.Stop
disk-goes book recovering ok = no-stop book (action_of book (doing_next book book.doing)) recovering ok refl

-- ---- it rests

some-next : (book : Book) (doing : Doing) (action : DiskNext) → action_of book doing ≡ Some action → action ≢ next.Idle
some-next book Resting action is idle = absurd cc
some-next book (Payload place entries) action is idle = absurd cc
some-next book (PayloadSync place entries) action is idle = absurd cc
some-next book (OpenGate place entries) action is idle = absurd cc
some-next book (OpenSync place entries) action is idle = absurd cc
some-next book CloseGate action is idle = absurd cc
some-next book CloseSync action is idle = absurd cc
some-next book FarGate action is idle = absurd cc
some-next book Mark action is idle = absurd cc
some-next book MarkSync action is idle = absurd cc
some-next book Version action is idle = absurd cc
some-next book VersionSync action is idle = absurd cc

idle-none : (book : Book) (doing : Doing) (action : Option DiskNext) → action_of book doing ≡ action → (disk_next book).0 ≡ next.Idle → book.is_handed_out ≡ false → is_some book.fault ≡ false → doing_next book book.doing ≡ doing → doing ≡ Resting
idle-none book doing None is idle vacant ok to = no-action book doing is
idle-none book doing (Some action) is idle vacant ok to =
    let here : action_of book (doing_next book book.doing) ≡ Some action = ap (action_of book) to ∙ is in
    let said : (disk_next book).0 ≡ action = rw (vacant, ok, here) refl in
    absurd (some-next book doing action is (sym said ∙ idle))

-- where nothing is handed out for the disk, the book rests and begins nothing
pub idle-rests : (book : Book) → IsRecovering book → is_some book.fault ≡ false → (disk_next book).0 ≡ next.Idle → doing_next book book.doing ≡ Resting
idle-rests book recovering ok idle = idle-none book (doing_next book book.doing) (action_of book (doing_next book book.doing)) refl idle recovering.rests ok refl

begun-rest : (book : Book) (doing : Doing) → doing_next book doing ≡ Resting → book.doing ≡ doing → begun book ≡ Resting
begun-rest book Resting is same = is
begun-rest book (Payload place entries) is same = absurd cc
begun-rest book (PayloadSync place entries) is same = absurd cc
begun-rest book (OpenGate place entries) is same = absurd cc
begun-rest book (OpenSync place entries) is same = absurd cc
begun-rest book CloseGate is same = absurd cc
begun-rest book CloseSync is same = absurd cc
begun-rest book FarGate is same = absurd cc
begun-rest book Mark is same = absurd cc
begun-rest book MarkSync is same = absurd cc
begun-rest book Version is same = absurd cc
begun-rest book VersionSync is same = absurd cc

resting-tests : (book : Book) (r g : Bool) → is_any (queued book) ≡ false → can_retire book ≡ r → can_migrate book ≡ g → begun book ≡ Resting → (r ≡ false) × (g ≡ false)
resting-tests book true g none can may is = let goes : begun book ≡ CloseGate = rw (none, can) refl in absurd cc
resting-tests book false true none can may is = let goes : begun book ≡ FarGate = rw (none, can, may) refl in absurd cc
resting-tests book false false none can may is = (refl, refl)

-- then neither a retire nor a migration can begin
pub idle-tests : (book : Book) → IsRecovering book → is_some book.fault ≡ false → (disk_next book).0 ≡ next.Idle → (can_retire book ≡ false) × (can_migrate book ≡ false)
idle-tests book recovering ok idle =
    resting-tests book (can_retire book) (can_migrate book) (none-queued book recovering.none) refl refl (begun-rest book book.doing (idle-rests book recovering ok idle) refl)

-- ---- a migration is asked for

pub asked-for : (book : Book) → IsRecovering book → GetsNearer 0 0 book (migrate book).1
asked-for book r = by_form (is_closed book) (is_version_2 book.form) refl refl
  where
    same : (migrate book).1 ≡ book → GetsNearer 0 0 book (migrate book).1
    same is = subst (GetsNearer 0 0 book) (sym is) (record { recovering = r; left = omega arith; issued = omega arith })

    by_form : (closed two : Bool) → is_closed book ≡ closed → is_version_2 book.form ≡ two → GetsNearer 0 0 book (migrate book).1
    by_form true two closed form = same (rw closed refl)
    by_form false true closed form = same (rw (closed, form) refl)
    by_form false false closed form =
        let goes : (migrate book).1 ≡ record book { is_migrating = true } = rw (closed, form) refl in
        subst (GetsNearer 0 0 book) (sym goes)
        (record { recovering = record { none = r.none; step = r.step; rests = r.rests; going = r.going; between = r.between; worn = r.worn }; left = omega arith; issued = omega arith })
