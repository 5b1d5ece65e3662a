-- Which actions are in progress after each call.
use Rattle.std.proofs.Common.{◌≡◌, ◌≢◌, ◌∙◌, ℕ, suc, ◌<◌, ◌≤◌, Bool, true, false, List, [], ◌∷◌, length, map, get_or, set, replicate, Option, Some, None, Result, Ok, Err, refl, sym, ap, subst, arith}
use Rattle.std.specs.Prelude.{◌↔◌, IsTrue, is_some, nat_lt, if◌then◌else◌}
use Rattle.std.specs.List.{AllByRecursion}
use Rattle.std.proofs.lemmas.List.{map-set, set-get_or}
use Rattle.std.proofs.Math.ListN.{get_or-map}
use Rattle.std.proofs.lemmas.Bool.Decides.{nat_tests}
use Rattle.sii_words.specs.declared.run.Run.{Run}
use Rattle.jrn_format.specs.declared.journal.Journal.{Journal}
use Rattle.jrn_format.specs.Halves.{InOlder, InNewer}
use Rattle.site_core.specs.declared.answers.Settled.TheVariants.{Written, Again, Dead}
use Rattle.site_core.specs.declared.fault.DeviceFault.{DeviceFault}
use Rattle.site_core.specs.declared.fault.DeviceFault.TheVariants as device
use Rattle.book_model.specs.Cells.{cell_of}
use Rattle.book_model.specs.declared.next.DiskNext.{DiskNext}
use Rattle.book_model.specs.declared.next.DiskNext.TheVariants as given
use Rattle.book_model.specs.declared.next.RomNext.TheVariants as next
use Rattle.book_model.specs.declared.fault.Fault.TheVariants as faults
use Rattle.book_model.specs.declared.next.RomNext.{RomNext}
use Rattle.book_model.specs.declared.next.RomOutcome.{RomOutcome}
use Rattle.book_model.specs.declared.next.RomOutcome.TheVariants.{Issued, Settled, Stopped}
use Rattle.book_model.specs.Book.{Book, Slave, Operation, NoOperation, Issuing, Unsettled, Settling, Doing, Resting, Payload, PayloadSync, OpenGate, OpenSync, CloseGate, CloseSync, FarGate, Mark, MarkSync, Version, VersionSync, slave_at, nobody, with_fault}
use Rattle.book_model.specs.Entries.{runs_of, live_runs}
use Rattle.book_model.specs.Open.{owing_slaves, opened_slave, open_book}
use Rattle.book_model.specs.DiskSteps.{action_of, doing_next, disk_next, disk_done, went_on}
use Rattle.book_model.specs.RomSteps.{is_last, was_taken, with_operation, with_issue, with_written, with_again, rom_next, rom_done}
use Rattle.book_model.proofs.SlaveEventLaws.{Asks, nothing, issue, settle, asks}
use Rattle.world_run.specs.declared.station.Asked.{Asked}
use Rattle.world_run.specs.declared.station.Asked.TheVariants.{Nothing, Issue, Settle}
use Rattle.world_run.specs.Progress.{handed_out, as_action, asked_of, asked_next, asked_then, all_asked, KnowsProgress, IsClosedAndIdle}

-- ---- an action of the disk

-- an action depends on the halves and the capacity alone
action-by : (a b : Book) (doing : Doing) → a.halves ≡ b.halves → a.capacity ≡ b.capacity → action_of a doing ≡ action_of b doing
action-by a b Resting halves capacity = refl
action-by a b (Payload InOlder entries) halves capacity = rw (halves, capacity) refl
action-by a b (Payload InNewer entries) halves capacity = rw (halves, capacity) refl
action-by a b (PayloadSync place entries) halves capacity = refl
action-by a b (OpenGate InOlder entries) halves capacity = rw (halves, capacity) refl
action-by a b (OpenGate InNewer entries) halves capacity = rw (halves, capacity) refl
action-by a b (OpenSync place entries) halves capacity = refl
action-by a b CloseGate halves capacity = rw (halves, capacity) refl
action-by a b CloseSync halves capacity = refl
action-by a b FarGate halves capacity = rw capacity refl
action-by a b Mark halves capacity = refl
action-by a b MarkSync halves capacity = refl
action-by a b Version halves capacity = refl
action-by a b VersionSync halves capacity = refl

pub handed-by : (a b : Book) → a.is_handed_out ≡ b.is_handed_out → a.doing ≡ b.doing → a.halves ≡ b.halves → a.capacity ≡ b.capacity → handed_out a ≡ handed_out b
handed-by a b out doing halves capacity =
    ap (λ (o : Bool). if o then action_of a a.doing else None) out
    ∙ ap (λ (d : Doing). if b.is_handed_out then action_of a d else None) doing
    ∙ ap (λ (o : Option DiskNext). if b.is_handed_out then o else None) (action-by a b b.doing halves capacity)

abbrev as_given : Option DiskNext → Option DiskNext
as_given (Some action) = as_action action
as_given None = None

action-given : (book : Book) (doing : Doing) → as_given (action_of book doing) ≡ action_of book doing
action-given book Resting = refl
action-given book (Payload place entries) = refl
action-given book (PayloadSync place entries) = refl
action-given book (OpenGate place entries) = refl
action-given book (OpenSync place entries) = refl
action-given book CloseGate = refl
action-given book CloseSync = refl
action-given book FarGate = refl
action-given book Mark = refl
action-given book MarkSync = refl
action-given book Version = refl
action-given book VersionSync = refl

-- the book that has handed out what was asked of it
pub record Begins (book : Book) (p : DiskNext × Book) : Type 0 where
  pub disk : as_action p.0 ≡ handed_out p.1
  pub out : is_some (as_action p.0) ≡ p.1.is_handed_out
  pub slaves : p.1.slaves ≡ book.slaves

begins-none : (book : Book) (answer : DiskNext) → as_action answer ≡ None → book.is_handed_out ≡ false → Begins book (answer, book)
begins-none book answer none out = record {
  disk = none ∙ sym (ap (λ (o : Bool). if o then action_of book book.doing else None) out);
  out = ap (λ (a : Option DiskNext). is_some a) none ∙ sym out;
  slaves = refl;
}

stop-or-idle : (finished : Bool) → as_action (if finished then given.Stop else given.Idle) ≡ None
stop-or-idle true = refl
stop-or-idle false = refl

begins-some : (book : Book) (doing : Doing) (action : DiskNext) → action_of book doing ≡ Some action → Begins book (action, record book { doing = doing; is_handed_out = true })
begins-some book doing action is =
    let is_given : as_action action ≡ Some action = sym (ap as_given is) ∙ action-given book doing ∙ is in
    record {
      disk = is_given ∙ sym is ∙ sym (action-by (record book { doing = doing; is_handed_out = true }) book doing refl refl);
      out = ap (λ (a : Option DiskNext). is_some a) is_given;
      slaves = refl;
    }

begins-by : (book : Book) (a : Option DiskNext) → book.is_handed_out ≡ false → is_some book.fault ≡ false → action_of book (doing_next book book.doing) ≡ a → Begins book (disk_next book)
begins-by book None out fault is =
    let e : disk_next book ≡ (if book.is_finished then given.Stop else given.Idle, book) = rw (out, fault, is) refl in
    subst (Begins book) (sym e) (begins-none book (if book.is_finished then given.Stop else given.Idle) (stop-or-idle book.is_finished) out)
begins-by book (Some action) out fault is =
    let doing = doing_next book book.doing in
    let e : disk_next book ≡ (action, record book { doing = doing; is_handed_out = true }) = rw (out, fault, is) refl in
    subst (Begins book) (sym e) (begins-some book doing action is)

begins-fault : (book : Book) (failed : Bool) → is_some book.fault ≡ failed → book.is_handed_out ≡ false → Begins book (disk_next book)
begins-fault book true fault out =
    let e : disk_next book ≡ (given.Stop, book) = rw (out, fault) refl in
    subst (Begins book) (sym e) (begins-none book given.Stop refl out)
begins-fault book false fault out = begins-by book (action_of book (doing_next book book.doing)) out fault refl

pub begins : (book : Book) → book.is_handed_out ≡ false → Begins book (disk_next book)
begins book out = begins-fault book (is_some book.fault) refl out

-- a book with nothing handed out for the disk
pub knows-rested : (asked : List Asked) (book : Book) → book.is_handed_out ≡ false → asked ≡ all_asked book.slaves → KnowsProgress None asked book
knows-rested asked book out slaves = record { disk = sym (ap (λ (o : Bool). if o then action_of book book.doing else None) out); out = sym out; slaves = slaves }

-- ---- outcomes of the disk

owing-asked : (runs : List Run) (k : ℕ) (slaves : List Slave) → all_asked (owing_slaves runs k slaves) ≡ all_asked slaves
owing-asked runs k [] = refl
owing-asked runs k (s ∷ ss) = ap (λ (l : List Asked). asked_of s.operation ∷ l) (owing-asked runs (suc k) ss)

abbrev IsBack : Book → Book → Type 0
IsBack old later = (later.is_handed_out ≡ false) × (all_asked later.slaves ≡ all_asked old.slaves)

went-back : (book : Book) (doing : Doing) → book.is_handed_out ≡ false → IsBack book (went_on book doing)
went-back book Resting out = (out, refl)
went-back book (Payload place entries) out = (out, refl)
went-back book (PayloadSync place entries) out = (out, refl)
went-back book (OpenGate place entries) out = (out, refl)
went-back book (OpenSync place entries) out = (out, owing-asked (runs_of entries) 0 book.slaves)
went-back book CloseGate out = (out, refl)
went-back book CloseSync out = (out, refl)
went-back book FarGate out = (out, refl)
went-back book Mark out = (out, refl)
went-back book MarkSync out = (out, refl)
went-back book Version out = (out, refl)
went-back book VersionSync out = (out, refl)

done-back : (book : Book) (out : Bool) (result : Result (Unit {0}) DeviceFault) → book.is_handed_out ≡ out → result ≢ Err device.Lost → IsBack book (disk_done book result)
done-back book false result is not =
    let e : disk_done book result ≡ book = rw is refl in
    subst (IsBack book) (sym e) (is, refl)
done-back book true (Ok done) is not = rw is (went-back (record book { is_handed_out = false }) book.doing refl)
done-back book true (Err device.Disk) is not = rw is (refl, refl)
done-back book true (Err device.Stopped) is not = rw is (refl, refl)
done-back book true (Err device.Lost) is not = absurd (not refl)

pub knows-done : (action : Option DiskNext) (asked : List Asked) (book : Book) (result : Result (Unit {0}) DeviceFault) → KnowsProgress action asked book → result ≢ Err device.Lost
    → KnowsProgress None asked (disk_done book result)
knows-done action asked book result knows not =
    let back = done-back book book.is_handed_out result refl not in
    knows-rested asked (disk_done book result) back.0 (knows.slaves ∙ sym back.1)

-- ---- the slaves

pub get-asked : (slaves : List Slave) (i : ℕ) → get_or (all_asked slaves) i Nothing ≡ asked_of (get_or slaves i nobody).operation
get-asked slaves i = get_or-map (λ (slave : Slave). asked_of slave.operation) slaves i nobody

set-asked : (slaves : List Slave) (i : ℕ) (slave : Slave) → all_asked (set slaves i slave) ≡ set (all_asked slaves) i (asked_of slave.operation)
set-asked slaves i slave = map-set (λ (s : Slave). asked_of s.operation) slaves i slave

keep-asked : (slaves : List Slave) (i : ℕ) → all_asked slaves ≡ set (all_asked slaves) i (asked_of (get_or slaves i nobody).operation)
keep-asked slaves i = sym (ap (λ (a : Asked). set (all_asked slaves) i a) (sym (get-asked slaves i)) ∙ set-get_or (all_asked slaves) i Nothing)

-- one slave's part is so, and the disk's stays
pub record OneAsked (book : Book) (i : ℕ) (asked : Asked) (later : Book) : Type 0 where
  pub slaves : all_asked later.slaves ≡ set (all_asked book.slaves) i asked
  pub out : later.is_handed_out ≡ book.is_handed_out
  pub disk : handed_out later ≡ handed_out book

one-same : (book : Book) (i : ℕ) (asked : Asked) → asked ≡ asked_of (slave_at book i).operation → OneAsked book i asked book
one-same book i asked is = record { slaves = keep-asked book.slaves i ∙ ap (λ (a : Asked). set (all_asked book.slaves) i a) (sym is); out = refl; disk = refl }

one-set : (book later : Book) (i : ℕ) (slave : Slave) → later.slaves ≡ set book.slaves i slave → later.is_handed_out ≡ book.is_handed_out → later.doing ≡ book.doing
    → later.halves ≡ book.halves → later.capacity ≡ book.capacity → OneAsked book i (asked_of slave.operation) later
one-set book later i slave slaves out doing halves capacity =
    record { slaves = ap all_asked slaves ∙ set-asked book.slaves i slave; out = out; disk = handed-by later book out doing halves capacity }

next-asked : (book : Book) (i : ℕ) → Asks book i → OneAsked book i (asked_next (rom_next book i).0 (asked_of (slave_at book i).operation)) (rom_next book i).1
next-asked book i (nothing next.Idle none is) = subst (λ (p : RomNext × Book). OneAsked book i (asked_next p.0 (asked_of (slave_at book i).operation)) p.1) (sym is) (one-same book i _ refl)
next-asked book i (nothing next.Stop none is) = subst (λ (p : RomNext × Book). OneAsked book i (asked_next p.0 (asked_of (slave_at book i).operation)) p.1) (sym is) (one-same book i _ refl)
next-asked book i (nothing (next.Issue word value) none is) = absurd none
next-asked book i (nothing (next.Settle taken) none is) = absurd none
next-asked book i (issue w others todo is) =
    subst (λ (p : RomNext × Book). OneAsked book i (asked_next p.0 (asked_of (slave_at book i).operation)) p.1) (sym is)
    (one-set book (with_issue book i w) i _ refl refl refl refl refl)
next-asked book i (settle word value taken there is) =
    subst (λ (p : RomNext × Book). OneAsked book i (asked_next p.0 (asked_of (slave_at book i).operation)) p.1) (sym is)
    (one-set book (with_operation book i (Settling word value taken)) i _ refl refl refl refl refl)

pub asked-after_next : (book : Book) (i : ℕ) → i < length book.slaves → OneAsked book i (asked_next (rom_next book i).0 (asked_of (slave_at book i).operation)) (rom_next book i).1
asked-after_next book i within = next-asked book i (asks book i (grind (arith, nat_tests)) (slave_at book i).operation refl)

pub next-past : (book : Book) (i : ℕ) → length book.slaves ≤ i → (rom_next book i).1 ≡ book
next-past book i past = let is : nat_lt i (length book.slaves) ≡ false = grind (arith, nat_tests) in rw is refl

again-asked : (book : Book) (i word : ℕ) (last : Bool) → is_last (cell_of (slave_at book i).cells word).known ≡ last → OneAsked book i Nothing (with_again book i word)
again-asked book i word true is = rw is (one-set book (with_fault (with_operation book i NoOperation) (faults.SlaveDead i)) i _ refl refl refl refl refl)
again-asked book i word false is = rw is (one-set book (with_operation book i NoOperation) i _ refl refl refl refl refl)

done-asked : (book : Book) (i : ℕ) (operation : Operation) (outcome : RomOutcome) → (slave_at book i).operation ≡ operation → OneAsked book i (asked_then (asked_of operation) outcome) (rom_done book i outcome)
done-asked book i NoOperation outcome is = rw is (one-same book i Nothing (sym (ap asked_of is)))
done-asked book i (Unsettled word value taken) outcome is = rw is (one-same book i Nothing (sym (ap asked_of is)))
done-asked book i (Issuing word value) (Issued how) is = rw is (one-set book (with_operation book i (Unsettled word value (was_taken how))) i _ refl refl refl refl refl)
done-asked book i (Issuing word value) (Settled how) is = rw is (one-same book i Issue (sym (ap asked_of is)))
done-asked book i (Issuing word value) Stopped is = rw is (one-set book (with_fault (with_operation book i NoOperation) faults.Stopped) i _ refl refl refl refl refl)
done-asked book i (Settling word value taken) (Issued how) is = rw is (one-same book i (Settle taken) (sym (ap asked_of is)))
done-asked book i (Settling word value taken) (Settled Written) is = rw is (one-set book (with_written book i word value) i _ refl refl refl refl refl)
done-asked book i (Settling word value taken) (Settled Again) is = rw is (again-asked book i word (is_last (cell_of (slave_at book i).cells word).known) refl)
done-asked book i (Settling word value taken) (Settled Dead) is = rw is (one-set book (with_fault (with_operation book i NoOperation) (faults.SlaveDead i)) i _ refl refl refl refl refl)
done-asked book i (Settling word value taken) Stopped is = rw is (one-set book (with_fault (with_operation book i NoOperation) faults.Stopped) i _ refl refl refl refl refl)

pub asked-after_done : (book : Book) (i : ℕ) (outcome : RomOutcome) → OneAsked book i (asked_then (asked_of (slave_at book i).operation) outcome) (rom_done book i outcome)
asked-after_done book i outcome = done-asked book i (slave_at book i).operation outcome refl

pub knows-one : (action : Option DiskNext) (asked : List Asked) (book later : Book) (i : ℕ) (now : Asked) → KnowsProgress action asked book → OneAsked book i now later
    → KnowsProgress action (set asked i now) later
knows-one action asked book later i now knows one = record {
  disk = knows.disk ∙ sym one.disk;
  out = knows.out ∙ sym one.out;
  slaves = ap (λ (l : List Asked). set l i now) knows.slaves ∙ sym one.slaves;
}

-- what the station's list says of a slave
pub reads-asked : (action : Option DiskNext) (asked : List Asked) (book : Book) (i : ℕ) → KnowsProgress action asked book → get_or asked i Nothing ≡ asked_of (slave_at book i).operation
reads-asked action asked book i knows = ap (λ (l : List Asked). get_or l i Nothing) knows.slaves ∙ get-asked book.slaves i

-- ---- an opened book

opened-asked : (words : List (List ℕ)) → all_asked (map opened_slave words) ≡ replicate (length words) Nothing
opened-asked [] = refl
opened-asked (w ∷ ws) = ap (λ (l : List Asked). Nothing ∷ l) (opened-asked ws)

pub knows-opened : (words : List (List ℕ)) (capacity : ℕ) (journal : Journal) → KnowsProgress None (replicate (length words) Nothing) (open_book words capacity journal)
knows-opened words capacity journal =
    knows-rested (replicate (length words) Nothing) (open_book words capacity journal) refl
    (sym (owing-asked (live_runs journal.batches) 0 (map opened_slave words) ∙ opened-asked words))

-- ---- nothing is in progress with any slave

pub all-nothing : (slaves : List Slave) → AllByRecursion (λ (a : Asked). a ≡ Nothing) (all_asked slaves) ↔ AllByRecursion (λ (slave : Slave). asked_of slave.operation ≡ Nothing) slaves
all-nothing [] = (λ all. tt, λ all. tt)
all-nothing (s ∷ ss) = (λ all. (all.0, (all-nothing ss).0 all.1), λ all. (all.0, (all-nothing ss).1 all.1))

pub over-is : (action : Option DiskNext) (asked : List Asked) (book : Book) (answer : Bool) → KnowsProgress action asked book → is_some book.fault ≡ true → is_some action ≡ false
    → IsTrue answer ↔ AllByRecursion (λ (a : Asked). a ≡ Nothing) asked → IsTrue answer ↔ IsClosedAndIdle book
over-is action asked book answer knows fault out is =
    let all = all-nothing book.slaves in (
      λ yes. record { fault = fault; disk = sym knows.out ∙ out; slaves = all.0 (subst (λ (l : List Asked). AllByRecursion (λ (a : Asked). a ≡ Nothing) l) knows.slaves (is.0 yes)) },
      λ over. is.1 (subst (λ (l : List Asked). AllByRecursion (λ (a : Asked). a ≡ Nothing) l) (sym knows.slaves) (all.1 over.slaves)),
    )
