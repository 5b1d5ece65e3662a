-- A job without an outcome in the notes is one that the book has handed out.
use Rattle.std.proofs.Common.{◌≡◌, ◌≢◌, ◌∙◌, ◌⊎◌, inl, inr, ℕ, zero, suc, ◌+◌, Bool, true, false, List, [], ◌∷◌, length, get_or, set, refl, sym, ap, subst, arith, ◌<◌, Option, Some, None, Result, Ok, Err}
use Rattle.std.specs.Prelude.{is_some, nat_lt, nat_le, ◌&&◌, fold, if◌then◌else◌}
use Rattle.std.proofs.lemmas.List.{get_or-set_same, get_or-set_other}
use Rattle.std.proofs.lemmas.Bool.Decides.{nat_tests}
use Rattle.sii_words.specs.declared.run.Run.{Run}
use Rattle.site_core.specs.declared.fault.DeviceFault.{DeviceFault}
use Rattle.site_core.specs.declared.fault.DeviceFault.TheVariants.{Disk, Lost, Stopped}
use Rattle.site_core.specs.declared.answers.Settled.TheVariants.{Written, Again, Dead}
use Rattle.book_model.specs.Cells.{asked, written, cell_of}
use Rattle.book_model.specs.declared.fault.Fault.{Fault}
use Rattle.book_model.specs.declared.fault.Fault.TheVariants as faults
use Rattle.book_model.specs.declared.next.DiskNext.{DiskNext}
use Rattle.book_model.specs.declared.next.DiskNext.TheVariants as disk
use Rattle.book_model.specs.declared.next.RomNext.{RomNext}
use Rattle.book_model.specs.declared.next.RomNext.TheVariants as rom
use Rattle.book_model.specs.declared.next.RomOutcome.{RomOutcome}
use Rattle.book_model.specs.declared.next.RomOutcome.TheVariants as outcomes
use Rattle.book_model.specs.Entries.{runs_of}
use Rattle.book_model.specs.Book.{Book, Slave, Doing, Resting, Payload, PayloadSync, OpenGate, OpenSync, CloseGate, CloseSync, FarGate, Mark, MarkSync, Version, VersionSync, Operation, NoOperation, Issuing, Unsettled, Settling, nobody, slave_at, first_fault}
use Rattle.book_model.specs.Open.{owing_slaves}
use Rattle.book_model.specs.DiskSteps.{action_of, doing_next, disk_next, went_on, disk_done}
use Rattle.book_model.specs.RomSteps.{to_do, was_taken, is_last, with_operation, with_issue, with_again, without_work, rom_next, rom_done}
use Rattle.station_jobs.specs.declared.log.Assignment.{Assignment}
use Rattle.station_jobs.specs.Dispatch.{with_outcome}
use Rattle.station_jobs.specs.Noted.{is_waiting}
use Rattle.desk_book.specs.declared.call.Call.{Call}
use Rattle.desk_book.specs.declared.call.Call.TheVariants.{Submitted, DiskAsked, DiskReported, SlaveAsked, SlaveReported, PlanAsked, Finished}
use Rattle.desk_book.specs.Asking.{is_disk_job, is_rom_job}
use Rattle.desk_book.specs.Calls.{after, replayed, AreAnswered, IsAnswered, IsOut}
use Rattle.desk_book.specs.Logs.{DiskEntry, RomEntry, disk_noted, disk_log, rom_noted, rom_log, with_disk_answer, with_rom_answer}
use Rattle.desk_book.proofs.LogLaws.{asked-here, asked-other, reported-here, reported-other, with-disk-rest, with-rom-rest, same-or-not}

-- ---- what a slave is handed out

-- what is answered, and the book that is left
pub data Next (book : Book) (j : ℕ) : Type 0 where
  rests : (answer : RomNext) → is_rom_job answer ≡ false → rom_next book j ≡ (answer, book) → Next book j
  issues : (w : ℕ × ℕ) (others : List (ℕ × ℕ)) → (slave_at book j).operation ≡ NoOperation → to_do book j ≡ w ∷ others → nat_lt j (length book.slaves) ≡ true → rom_next book j ≡ (rom.Issue w.0 w.1, with_issue book j w) → Next book j
  settles : (word value : ℕ) (taken : Bool) → (slave_at book j).operation ≡ Unsettled word value taken → nat_lt j (length book.slaves) ≡ true → rom_next book j ≡ (rom.Settle taken, with_operation book j (Settling word value taken)) → Next book j

no-work : (done : Bool) → is_rom_job (if done then rom.Stop else rom.Idle) ≡ false
no-work true = refl
no-work false = refl

next-by : (book : Book) (j : ℕ) (inside failed : Bool) (operation : Operation) (todo : List (ℕ × ℕ)) → nat_lt j (length book.slaves) ≡ inside → (slave_at book j).operation ≡ operation → is_some book.fault ≡ failed → to_do book j ≡ todo → Next book j
next-by book j false failed operation todo n e f t = rests rom.Stop refl (rw n refl)
next-by book j true true NoOperation todo n e f t = rests rom.Stop refl (rw (n, e, f) refl)
next-by book j true false NoOperation [] n e f t = rests (without_work book) (no-work (book.is_finished && nat_le (length book.accepted) book.durable)) (rw (n, e, f, t) refl)
next-by book j true false NoOperation (w ∷ others) n e f t = issues w others e t n (rw (n, e, f, t) refl)
next-by book j true failed (Issuing word value) todo n e f t = rests rom.Idle refl (rw (n, e) refl)
next-by book j true true (Unsettled word value taken) todo n e f t = rests rom.Stop refl (rw (n, e, f) refl)
next-by book j true false (Unsettled word value taken) todo n e f t = settles word value taken e n (rw (n, e, f) refl)
next-by book j true failed (Settling word value taken) todo n e f t = rests rom.Idle refl (rw (n, e) refl)

pub next-of : (book : Book) (j : ℕ) → Next book j
next-of book j = next-by book j (nat_lt j (length book.slaves)) (is_some book.fault) (slave_at book j).operation (to_do book j) refl refl refl refl

-- ---- its outcome

-- one slave goes on, with nothing out; a fault stays
pub record SlaveGoes (book : Book) (j : ℕ) (later : Book) : Type 0 where
  pub slave : Slave
  pub fault : Option Fault
  pub is : later ≡ record book { slaves = set book.slaves j slave; fault = fault }
  pub failed : is_some book.fault ≡ true → is_some fault ≡ true

goes-failed : (book : Book) (j : ℕ) (later : Book) (slave : Slave) (fault : Fault) → later ≡ record book { slaves = set book.slaves j slave; fault = Some fault } → SlaveGoes book j later
goes-failed book j later slave fault is = record { slave = slave; fault = Some fault; is = is; failed = λ yes. refl }

goes-well : (book : Book) (j : ℕ) (later : Book) (slave : Slave) → later ≡ record book { slaves = set book.slaves j slave } → SlaveGoes book j later
goes-well book j later slave is = record { slave = slave; fault = book.fault; is = is; failed = λ yes. yes }

abbrev freed : Book → ℕ → Slave
freed book j = record (slave_at book j) { operation = NoOperation }

again-goes : (book : Book) (j word : ℕ) (last : Bool) → is_last (cell_of (slave_at book j).cells word).known ≡ last → SlaveGoes book j (with_again book j word)
again-goes book j word true is = goes-failed book j (with_again book j word) (freed book j) (first_fault book.fault (faults.SlaveDead j)) (rw is refl)
again-goes book j word false is = goes-well book j (with_again book j word) (freed book j) (rw is refl)

-- or nothing changes
back-by : (book : Book) (j : ℕ) (operation : Operation) (outcome : RomOutcome) → (slave_at book j).operation ≡ operation → (rom_done book j outcome ≡ book) ⊎ SlaveGoes book j (rom_done book j outcome)
back-by book j NoOperation outcome is = inl (rw is refl)
back-by book j (Unsettled word value taken) outcome is = inl (rw is refl)
back-by book j (Issuing word value) (outcomes.Issued how) is = inr (goes-well book j (rom_done book j (outcomes.Issued how)) (record (slave_at book j) { operation = Unsettled word value (was_taken how) }) (rw is refl))
back-by book j (Issuing word value) (outcomes.Settled how) is = inl (rw is refl)
back-by book j (Issuing word value) outcomes.Stopped is = inr (goes-failed book j (rom_done book j outcomes.Stopped) (freed book j) (first_fault book.fault faults.Stopped) (rw is refl))
back-by book j (Settling word value taken) (outcomes.Issued how) is = inl (rw is refl)
back-by book j (Settling word value taken) (outcomes.Settled Written) is = inr (goes-well book j (rom_done book j (outcomes.Settled Written)) (record (slave_at book j) { cells = set (slave_at book j).cells word (written (cell_of (slave_at book j).cells word) value); operation = NoOperation }) (rw is refl))
back-by book j (Settling word value taken) (outcomes.Settled Again) is = inr (rw is (again-goes book j word (is_last (cell_of (slave_at book j).cells word).known) refl))
back-by book j (Settling word value taken) (outcomes.Settled Dead) is = inr (goes-failed book j (rom_done book j (outcomes.Settled Dead)) (freed book j) (first_fault book.fault (faults.SlaveDead j)) (rw is refl))
back-by book j (Settling word value taken) outcomes.Stopped is = inr (goes-failed book j (rom_done book j outcomes.Stopped) (freed book j) (first_fault book.fault faults.Stopped) (rw is refl))

pub back-of : (book : Book) (j : ℕ) (outcome : RomOutcome) → (rom_done book j outcome ≡ book) ⊎ SlaveGoes book j (rom_done book j outcome)
back-of book j outcome = back-by book j (slave_at book j).operation outcome refl

-- ---- the other slaves

-- a slave that was handed a word to issue
abbrev pub issued-slave : Book → ℕ → ℕ × ℕ → Slave
issued-slave book j w = record { cells = set (slave_at book j).cells w.0 (asked (cell_of (slave_at book j).cells w.0)); operation = Issuing w.0 w.1; issues = (slave_at book j).issues + 1 }

pub asked-separate : (book : Book) (j i : ℕ) → i ≢ j → slave_at (rom_next book j).1 i ≡ slave_at book i
asked-separate book j i other = from (next-of book j)
  where
    from : Next book j → slave_at (rom_next book j).1 i ≡ slave_at book i
    from (rests answer none is) = ap (λ (a : RomNext × Book). slave_at a.1 i) is
    from (issues w others vacant todo within is) = ap (λ (a : RomNext × Book). slave_at a.1 i) is ∙ get_or-set_other book.slaves j i (issued-slave book j w) nobody other
    from (settles word value taken unsettled within is) = ap (λ (a : RomNext × Book). slave_at a.1 i) is ∙ get_or-set_other book.slaves j i (record (slave_at book j) { operation = Settling word value taken }) nobody other

pub reported-separate : (book : Book) (j i : ℕ) (outcome : RomOutcome) → i ≢ j → slave_at (rom_done book j outcome) i ≡ slave_at book i
reported-separate book j i outcome other = from (back-of book j outcome)
  where
    from : (rom_done book j outcome ≡ book) ⊎ SlaveGoes book j (rom_done book j outcome) → slave_at (rom_done book j outcome) i ≡ slave_at book i
    from (inl is) = ap (λ (b : Book). slave_at b i) is
    from (inr goes) = ap (λ (b : Book). slave_at b i) goes.is ∙ get_or-set_other book.slaves j i goes.slave nobody other

-- ---- the disk

-- what is answered of the disk: nothing is handed out, or something is
pub data DiskNexts (book : Book) : Type 0 where
  disk_rests : (answer : DiskNext) → is_disk_job answer ≡ false → disk_next book ≡ (answer, book) → DiskNexts book
  disk_goes : (action : DiskNext) → disk_next book ≡ (action, record book { doing = doing_next book book.doing; is_handed_out = true }) → DiskNexts book

pub no-action : (done : Bool) → is_disk_job (if done then disk.Stop else disk.Idle) ≡ false
no-action true = refl
no-action false = refl

nexts-by : (book : Book) (out failed : Bool) (action : Option DiskNext) → book.is_handed_out ≡ out → is_some book.fault ≡ failed → action_of book (doing_next book book.doing) ≡ action → DiskNexts book
nexts-by book true failed action o f a = disk_rests disk.Idle refl (rw o refl)
nexts-by book false true action o f a = disk_rests disk.Stop refl (rw (o, f) refl)
nexts-by book false false None o f a = disk_rests (if book.is_finished then disk.Stop else disk.Idle) (no-action book.is_finished) (rw (o, f, a) refl)
nexts-by book false false (Some action) o f a = disk_goes action (rw (o, f, a) refl)

pub nexts-of : (book : Book) → DiskNexts book
nexts-of book = nexts-by book book.is_handed_out (is_some book.fault) (action_of book (doing_next book book.doing)) refl refl refl

pub slaves-asked : (book : Book) → (disk_next book).1.slaves ≡ book.slaves
slaves-asked book = from (nexts-of book)
  where
    from : DiskNexts book → (disk_next book).1.slaves ≡ book.slaves
    from (disk_rests answer none is) = ap (λ (a : DiskNext × Book). a.1.slaves) is
    from (disk_goes action is) = ap (λ (a : DiskNext × Book). a.1.slaves) is

-- a batch that goes live leaves the errands
operation-owing : (runs : List Run) (first : ℕ) (slaves : List Slave) (i : ℕ) → (get_or (owing_slaves runs first slaves) i nobody).operation ≡ (get_or slaves i nobody).operation
operation-owing runs first [] i = refl
operation-owing runs first (s ∷ slaves) zero = refl
operation-owing runs first (s ∷ slaves) (suc i) = operation-owing runs (suc first) slaves i

went-operation : (book : Book) (doing : Doing) (i : ℕ) → (slave_at (went_on book doing) i).operation ≡ (slave_at book i).operation
went-operation book Resting i = refl
went-operation book (Payload place entries) i = refl
went-operation book (PayloadSync place entries) i = refl
went-operation book (OpenGate place entries) i = refl
went-operation book (OpenSync place entries) i = operation-owing (runs_of entries) 0 book.slaves i
went-operation book CloseGate i = refl
went-operation book CloseSync i = refl
went-operation book FarGate i = refl
went-operation book Mark i = refl
went-operation book MarkSync i = refl
went-operation book Version i = refl
went-operation book VersionSync i = refl

-- the book with nothing handed out
abbrev rested : Book → Book
rested book = record book { is_handed_out = false }

done-operation : (book : Book) (out : Bool) (result : Result (Unit {0}) DeviceFault) (i : ℕ) → book.is_handed_out ≡ out → (slave_at (disk_done book result) i).operation ≡ (slave_at book i).operation
done-operation book false result i o = rw o refl
done-operation book true (Ok done) i o = rw o (went-operation (rested book) book.doing i)
done-operation book true (Err Disk) i o = rw o refl
done-operation book true (Err Stopped) i o = rw o refl
done-operation book true (Err Lost) i o = rw o refl

pub reported-operation : (book : Book) (result : Result (Unit {0}) DeviceFault) (i : ℕ) → (slave_at (disk_done book result) i).operation ≡ (slave_at book i).operation
reported-operation book result i = done-operation book book.is_handed_out result i refl

-- ---- an outcome that is reported

-- then nothing is out
reported-last : {J O : Type 0} (log : List (Assignment J O)) (outcome : O) → is_waiting (with_outcome log outcome) ≡ false
reported-last [] outcome = refl
reported-last (last ∷ []) outcome = refl
reported-last (first ∷ next ∷ []) outcome = refl
reported-last (first ∷ next ∷ third ∷ jobs) outcome = reported-last (next ∷ third ∷ jobs) outcome

-- ---- a slave's job without an outcome in the notes is out

-- what is noted of the slave's jobs, and what the book is doing with it
abbrev RomWaits : ℕ → Book → List RomEntry → Type 0
RomWaits i book log = is_waiting log ≡ true → IsOut (slave_at book i).operation

same-operation : (i : ℕ) (book later : Book) (log : List RomEntry) → (slave_at later i).operation ≡ (slave_at book i).operation → RomWaits i book log → RomWaits i later log
same-operation i book later log same out waits = subst IsOut (sym same) (out waits)

out-here : (book : Book) (i : ℕ) (slave : Slave) → nat_lt i (length book.slaves) ≡ true → IsOut slave.operation → IsOut (get_or (set book.slaves i slave) i nobody).operation
out-here book i slave within out = let inside : i < length book.slaves = grind (arith, nat_tests) in subst (λ (s : Slave). IsOut s.operation) (sym (get_or-set_same book.slaves i slave nobody inside)) out

asked-out : (i : ℕ) (book : Book) (answer : RomNext) (log : List RomEntry) → answer ≡ (rom_next book i).0 → RomWaits i book log → Next book i → RomWaits i (rom_next book i).1 (with_rom_answer log answer)
asked-out i book answer log is out (rests nothing none goes) =
    let rest : answer ≡ nothing = is ∙ ap (λ (a : RomNext × Book). a.0) goes in
    let log_is : with_rom_answer log answer ≡ log = ap (with_rom_answer log) rest ∙ with-rom-rest log nothing none in
    subst (λ (l : List RomEntry). RomWaits i (rom_next book i).1 l) (sym log_is) (subst (λ (a : RomNext × Book). RomWaits i a.1 log) (sym goes) out)
asked-out i book answer log is out (issues w others vacant todo within goes) =
    λ waits. subst (λ (a : RomNext × Book). IsOut (slave_at a.1 i).operation) (sym goes) (out-here book i (issued-slave book i w) within tt)
asked-out i book answer log is out (settles word value taken unsettled within goes) =
    λ waits. subst (λ (a : RomNext × Book). IsOut (slave_at a.1 i).operation) (sym goes) (out-here book i (record (slave_at book i) { operation = Settling word value taken }) within tt)

-- after a call
rom-waits : (i : ℕ) (book : Book) (call : Call) (log : List RomEntry) → IsAnswered book call → RomWaits i book log → RomWaits i (after book call) (rom_noted i log call)
rom-waits i book (Submitted command (Ok number)) log is out = out
rom-waits i book (Submitted command (Err refusal)) log is out = out
rom-waits i book (DiskAsked answer) log is out = same-operation i book (disk_next book).1 log (ap (λ (l : List Slave). (get_or l i nobody).operation) (slaves-asked book)) out
rom-waits i book (DiskReported outcome) log is out = same-operation i book (disk_done book outcome) log (reported-operation book outcome i) out
rom-waits i book (SlaveAsked j answer) log is out = from (same-or-not i j)
  where
    from : (i ≡ j) ⊎ (i ≢ j) → RomWaits i (rom_next book j).1 (rom_noted i log (SlaveAsked j answer))
    from (inl same) =
        let here = asked-out i book answer log (is ∙ ap (λ (k : ℕ). (rom_next book k).0) (sym same)) out (next-of book i) in
        subst (λ (k : ℕ). RomWaits i (rom_next book k).1 (rom_noted i log (SlaveAsked k answer))) same (subst (RomWaits i (rom_next book i).1) (sym (asked-here i answer log)) here)
    from (inr other) = subst (RomWaits i (rom_next book j).1) (sym (asked-other j answer i log other)) (same-operation i book (rom_next book j).1 log (ap (λ (s : Slave). s.operation) (asked-separate book j i other)) out)
rom-waits i book (SlaveReported j outcome) log is out = from (same-or-not i j)
  where
    none : (log : List RomEntry) → is_waiting log ≡ false → RomWaits i (rom_done book j outcome) log
    none log reported waits = absurd cc

    from : (i ≡ j) ⊎ (i ≢ j) → RomWaits i (rom_done book j outcome) (rom_noted i log (SlaveReported j outcome))
    from (inl same) = none (rom_noted i log (SlaveReported j outcome)) (ap (λ (k : ℕ). is_waiting (rom_noted i log (SlaveReported k outcome))) (sym same) ∙ ap is_waiting (reported-here i outcome log) ∙ reported-last log outcome)
    from (inr other) = subst (RomWaits i (rom_done book j outcome)) (sym (reported-other j outcome i log other)) (same-operation i book (rom_done book j outcome) log (ap (λ (s : Slave). s.operation) (reported-separate book j i outcome other)) out)
rom-waits i book (PlanAsked answer) log is out = out
rom-waits i book Finished log is out = out

rom-out-from : (i : ℕ) (book : Book) (calls : List Call) (log : List RomEntry) → AreAnswered book calls → RomWaits i book log → RomWaits i (replayed book calls) (fold (rom_noted i) log calls)
rom-out-from i book [] log all out = out
rom-out-from i book (call ∷ calls) log all out = rom-out-from i (after book call) calls (rom_noted i log call) all.1 (rom-waits i book call log all.0 out)

pub rom-out : (opened : Book) (calls : List Call) (i : ℕ) → AreAnswered opened calls → is_waiting (rom_log i calls) ≡ true → IsOut (slave_at (replayed opened calls) i).operation
rom-out opened calls i all = rom-out-from i opened calls [] all (λ waits. absurd cc)

-- ---- and so is one of the disk

abbrev DiskWaits : Book → List DiskEntry → Type 0
DiskWaits book log = is_waiting log ≡ true → book.is_handed_out ≡ true

same-out : (book later : Book) (log : List DiskEntry) → later.is_handed_out ≡ book.is_handed_out → DiskWaits book log → DiskWaits later log
same-out book later log same out waits = same ∙ out waits

disk-asked-out : (book : Book) (answer : DiskNext) (log : List DiskEntry) → answer ≡ (disk_next book).0 → DiskWaits book log → DiskNexts book → DiskWaits (disk_next book).1 (with_disk_answer log answer)
disk-asked-out book answer log is out (disk_rests nothing none goes) =
    let rest : answer ≡ nothing = is ∙ ap (λ (a : DiskNext × Book). a.0) goes in
    let log_is : with_disk_answer log answer ≡ log = ap (with_disk_answer log) rest ∙ with-disk-rest log nothing none in
    subst (λ (l : List DiskEntry). DiskWaits (disk_next book).1 l) (sym log_is) (subst (λ (a : DiskNext × Book). DiskWaits a.1 log) (sym goes) out)
disk-asked-out book answer log is out (disk_goes action is_out) = λ waits. ap (λ (a : DiskNext × Book). a.1.is_handed_out) is_out

out-asked : (book : Book) (j : ℕ) → (rom_next book j).1.is_handed_out ≡ book.is_handed_out
out-asked book j = from (next-of book j)
  where
    from : Next book j → (rom_next book j).1.is_handed_out ≡ book.is_handed_out
    from (rests answer none is) = ap (λ (a : RomNext × Book). a.1.is_handed_out) is
    from (issues w others vacant todo within is) = ap (λ (a : RomNext × Book). a.1.is_handed_out) is
    from (settles word value taken unsettled within is) = ap (λ (a : RomNext × Book). a.1.is_handed_out) is

out-reported : (book : Book) (j : ℕ) (outcome : RomOutcome) → (rom_done book j outcome).is_handed_out ≡ book.is_handed_out
out-reported book j outcome = from (back-of book j outcome)
  where
    from : (rom_done book j outcome ≡ book) ⊎ SlaveGoes book j (rom_done book j outcome) → (rom_done book j outcome).is_handed_out ≡ book.is_handed_out
    from (inl is) = ap (λ (b : Book). b.is_handed_out) is
    from (inr goes) = ap (λ (b : Book). b.is_handed_out) goes.is

disk-waits : (book : Book) (call : Call) (log : List DiskEntry) → IsAnswered book call → DiskWaits book log → DiskWaits (after book call) (disk_noted log call)
disk-waits book (Submitted command (Ok number)) log is out = out
disk-waits book (Submitted command (Err refusal)) log is out = out
disk-waits book (DiskAsked answer) log is out = disk-asked-out book answer log is out (nexts-of book)
disk-waits book (DiskReported outcome) log is out = λ waits. absurd (let no : is_waiting (with_outcome log outcome) ≡ false = reported-last log outcome in cc)
disk-waits book (SlaveAsked j answer) log is out = same-out book (rom_next book j).1 log (out-asked book j) out
disk-waits book (SlaveReported j outcome) log is out = same-out book (rom_done book j outcome) log (out-reported book j outcome) out
disk-waits book (PlanAsked answer) log is out = out
disk-waits book Finished log is out = out

disk-out-from : (book : Book) (calls : List Call) (log : List DiskEntry) → AreAnswered book calls → DiskWaits book log → DiskWaits (replayed book calls) (fold disk_noted log calls)
disk-out-from book [] log all out = out
disk-out-from book (call ∷ calls) log all out = disk-out-from (after book call) calls (disk_noted log call) all.1 (disk-waits book call log all.0 out)

pub disk-out : (opened : Book) (calls : List Call) → AreAnswered opened calls → is_waiting (disk_log calls) ≡ true → (replayed opened calls).is_handed_out ≡ true
disk-out opened calls all = disk-out-from opened calls [] all (λ waits. absurd cc)
