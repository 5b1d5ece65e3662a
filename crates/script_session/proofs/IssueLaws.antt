-- How many words a book has issued to its slaves: as many as its calls have handed out to be issued.
use Rattle.std.proofs.Common.{◌≡◌, ◌≢◌, ◌⊎◌, inl, inr, ℕ, suc, ◌+◌, ◌<◌, Bool, true, false, List, [], ◌∷◌, length}
use Rattle.std.proofs.Common.{map, get_or, set, refl, sym, ◌∙◌, ap, subst, arith, Some, Result, Ok, Err}
use Rattle.std.specs.Prelude.{sum_by, sum, cond, fold, slice_get}
use Rattle.std.proofs.Math.Seq.{map-set_same}
use Rattle.std.proofs.Math.ListN.{get_or-map}
use Rattle.std.proofs.lemmas.List.{map-set, length-map, length-set, get_or-set_same, get_or-set_other}
use Rattle.std.proofs.lemmas.List.Sums.{sum_by-cons, sum_by_push, sum-map}
use Rattle.sii_words.specs.declared.run.Run.{Run}
use Rattle.jrn_format.specs.declared.journal.Journal.{Journal}
use Rattle.site_core.specs.declared.fault.DeviceFault.{DeviceFault}
use Rattle.site_core.specs.declared.fault.DeviceFault.TheVariants.{Disk, Lost, Stopped}
use Rattle.site_core.specs.declared.answers.Settled.TheVariants.{Written, Again, Dead}
use Rattle.site_shadow.specs.Site.{SiteValue}
use Rattle.book_model.specs.Cells.{cell_of}
use Rattle.book_model.specs.Entries.{live_runs, runs_of}
use Rattle.book_model.specs.declared.next.DiskNext.{DiskNext}
use Rattle.book_model.specs.declared.next.RomNext.{RomNext}
use Rattle.book_model.specs.declared.next.RomNext.TheVariants as rom
use Rattle.book_model.specs.declared.next.RomOutcome.{RomOutcome}
use Rattle.book_model.specs.declared.next.RomOutcome.TheVariants as outcomes
use Rattle.book_model.specs.Book.{Book, Slave, Doing, Resting, Payload, PayloadSync, OpenGate, OpenSync, CloseGate, CloseSync, FarGate, Mark}
use Rattle.book_model.specs.Book.{MarkSync, Version, VersionSync, Operation, NoOperation, Issuing, Unsettled, Settling, nobody, slave_at}
use Rattle.book_model.specs.DiskSteps.{disk_next, went_on, disk_done}
use Rattle.book_model.specs.RomSteps.{is_last, with_again, rom_next, rom_done}
use Rattle.book_model.specs.Open.{open_book, opened_slave, owing_slaves}
use Rattle.book_model.proofs.SlaveEventLaws.{IsNothing}
use Rattle.site_journal.specs.Left.{words_issued}
use Rattle.station_alone.proofs.HandedLaws.{Hands, nothing, action, hands, HandsRom, nothing_asked, issue, settle, hands-rom}
use Rattle.station_jobs.specs.Dispatch.{with_outcome}
use Rattle.station_jobs.specs.declared.log.SlaveLog.{SlaveLog}
use Rattle.station_jobs.specs.Ends.{Stay}
use Rattle.desk_book.specs.declared.call.Call.{Call}
use Rattle.desk_book.specs.declared.call.Call.TheVariants.{Submitted, DiskAsked, DiskReported, SlaveAsked, SlaveReported, PlanAsked, Finished}
use Rattle.desk_book.specs.Calls.{after, replayed, AreAnswered, IsAnswered}
use Rattle.desk_book.specs.Closing.{AreWorkersOf}
use Rattle.desk_book.specs.Logs.{RomEntry, rom_noted, with_job, with_rom_answer}
use Rattle.desk_book.proofs.LogLaws.{asked-here, asked-other, reported-here, reported-other, same-or-not}
use Rattle.script_session.specs.Parts.{is_issue, issues_in, issues_of}

-- the numbers of issues, slave by slave
abbrev counts : List Slave → List ℕ
counts slaves = map (λ (slave : Slave). slave.issues) slaves

-- ---- the disk

counts-owing : (runs : List Run) (first : ℕ) (slaves : List Slave) → counts (owing_slaves runs first slaves) ≡ counts slaves
counts-owing runs first [] = refl
counts-owing runs first (s ∷ slaves) = ap (λ (l : List ℕ). s.issues ∷ l) (counts-owing runs (suc first) slaves)

next-counts : (book : Book) → Hands book → counts (disk_next book).1.slaves ≡ counts book.slaves
next-counts book (nothing answer none is) = ap (λ (a : DiskNext × Book). counts a.1.slaves) is
next-counts book (action given some ok is) = ap (λ (a : DiskNext × Book). counts a.1.slaves) is

went-counts : (book : Book) (doing : Doing) → counts (went_on book doing).slaves ≡ counts book.slaves
went-counts book Resting = refl
went-counts book (Payload place entries) = refl
went-counts book (PayloadSync place entries) = refl
went-counts book (OpenGate place entries) = refl
went-counts book (OpenSync place entries) = counts-owing (runs_of entries) 0 book.slaves
went-counts book CloseGate = refl
went-counts book CloseSync = refl
went-counts book FarGate = refl
went-counts book Mark = refl
went-counts book MarkSync = refl
went-counts book Version = refl
went-counts book VersionSync = refl

done-counts : (book : Book) (out : Bool) (result : Result (Unit {0}) DeviceFault) → book.is_handed_out ≡ out → counts (disk_done book result).slaves ≡ counts book.slaves
done-counts book false result o = rw o refl
done-counts book true (Ok done) o = rw o (went-counts (record book { is_handed_out = false }) book.doing)
done-counts book true (Err Disk) o = rw o refl
done-counts book true (Err Stopped) o = rw o refl
done-counts book true (Err Lost) o = rw o refl

-- ---- a slave's outcome

-- another action of one slave, with the same number of issues
same-counts : (slaves : List Slave) (i : ℕ) (s : Slave) → s.issues ≡ (get_or slaves i nobody).issues → counts (set slaves i s) ≡ counts slaves
same-counts slaves i s same = map-set_same (λ (slave : Slave). slave.issues) slaves i s nobody same

again-counts : (book : Book) (i word : ℕ) (last : Bool) → is_last (cell_of (slave_at book i).cells word).known ≡ last → counts (with_again book i word).slaves ≡ counts book.slaves
again-counts book i word true is = rw is (same-counts book.slaves i _ refl)
again-counts book i word false is = rw is (same-counts book.slaves i _ refl)

back-counts : (book : Book) (i : ℕ) (operation : Operation) (outcome : RomOutcome) → (slave_at book i).operation ≡ operation → counts (rom_done book i outcome).slaves ≡ counts book.slaves
back-counts book i NoOperation outcome is = rw is refl
back-counts book i (Unsettled word value taken) outcome is = rw is refl
back-counts book i (Issuing word value) (outcomes.Issued how) is = rw is (same-counts book.slaves i _ refl)
back-counts book i (Issuing word value) (outcomes.Settled how) is = rw is refl
back-counts book i (Issuing word value) outcomes.Stopped is = rw is (same-counts book.slaves i _ refl)
back-counts book i (Settling word value taken) (outcomes.Issued how) is = rw is refl
back-counts book i (Settling word value taken) (outcomes.Settled Written) is = rw is (same-counts book.slaves i _ refl)
back-counts book i (Settling word value taken) (outcomes.Settled Again) is = rw is (again-counts book i word (is_last (cell_of (slave_at book i).cells word).known) refl)
back-counts book i (Settling word value taken) (outcomes.Settled Dead) is = rw is (same-counts book.slaves i _ refl)
back-counts book i (Settling word value taken) outcomes.Stopped is = rw is (same-counts book.slaves i _ refl)

-- ---- a slave's log

-- one job more
job-more : (log : List RomEntry) (job : RomNext) → issues_in (with_job log job) ≡ issues_in log + cond (is_issue job) 1 0
job-more log job = sum_by_push (λ (entry : RomEntry). cond (is_issue entry.job) 1 0) log _

-- an outcome is reported
reported-same : (log : List RomEntry) (outcome : RomOutcome) → issues_in (with_outcome log outcome) ≡ issues_in log
reported-same [] outcome = refl
reported-same (last ∷ []) outcome = refl
reported-same (first ∷ next ∷ jobs) outcome =
    let one : RomEntry → ℕ = λ entry. cond (is_issue entry.job) 1 0 in
    let rest = reported-same (next ∷ jobs) outcome in
    let had = sum_by-cons one first (next ∷ jobs) in
    let has = sum_by-cons one first (with_outcome (next ∷ jobs) outcome) in
    omega (arith, rest, had, has)

-- nothing is handed out
rests : (log : List RomEntry) (answer : RomNext) → IsNothing answer → with_rom_answer log answer ≡ log
rests log rom.Idle none = refl
rests log rom.Stop none = refl
rests log (rom.Issue word value) none = absurd none
rests log (rom.Settle taken) none = absurd none

-- ---- a call

module _ (i : ℕ) where
  -- the number of issues to this slave
  abbrev at : List Slave → ℕ
  at slaves = get_or (counts slaves) i 0

  -- with a call its number has grown by the issues that its log has more
  abbrev Grows : Book → Call → List RomEntry → Type 0
  Grows book call log = at (after book call).slaves + issues_in log ≡ at book.slaves + issues_in (rom_noted i log call)

  -- neither has changed
  same-grows : (old new : List Slave) (log noted : List RomEntry) → counts new ≡ counts old → issues_in noted ≡ issues_in log → at new + issues_in log ≡ at old + issues_in noted
  same-grows old new log noted counted same = let slaves = ap (λ (l : List ℕ). get_or l i 0) counted in omega (arith, slaves, same)

  asked-none : (slave : ℕ) (answer : RomNext) (log : List RomEntry) → IsNothing answer → (i ≡ slave) ⊎ (i ≢ slave) → rom_noted i log (SlaveAsked slave answer) ≡ log
  asked-none slave answer log none (inl same) = subst (λ (k : ℕ). rom_noted k log (SlaveAsked slave answer) ≡ log) (sym same) (asked-here slave answer log ∙ rests log answer none)
  asked-none slave answer log none (inr other) = asked-other slave answer i log other

  asked-settle : (slave : ℕ) (taken : Bool) (log : List RomEntry) → (i ≡ slave) ⊎ (i ≢ slave) → issues_in (rom_noted i log (SlaveAsked slave (rom.Settle taken))) ≡ issues_in log
  asked-settle slave taken log (inl same) =
      let here = subst (λ (k : ℕ). rom_noted k log (SlaveAsked slave (rom.Settle taken)) ≡ with_job log (rom.Settle taken)) (sym same) (asked-here slave (rom.Settle taken) log) in
      ap issues_in here ∙ (let more = job-more log (rom.Settle taken) in omega (arith, more))
  asked-settle slave taken log (inr other) = ap issues_in (asked-other slave (rom.Settle taken) i log other)

  asked-issue : (slaves : List Slave) (slave word value : ℕ) (s : Slave) (log : List RomEntry) → slave < length slaves → s.issues ≡ (get_or slaves slave nobody).issues + 1 → (i ≡ slave) ⊎ (i ≢ slave)
      → at (set slaves slave s) + issues_in log ≡ at slaves + issues_in (rom_noted i log (SlaveAsked slave (rom.Issue word value)))
  asked-issue slaves slave word value s log within more (inl same) =
      let issues : Slave → ℕ = λ one. one.issues in
      let inside : slave < length (counts slaves) = omega (arith, within, length-map slaves issues) in
      let new : at (set slaves slave s) ≡ s.issues =
      ap (λ (l : List ℕ). get_or l i 0) (map-set issues slaves slave s)
      ∙ ap (λ (k : ℕ). get_or (set (counts slaves) slave s.issues) k 0) same
      ∙ get_or-set_same (counts slaves) slave s.issues 0 inside in
      let old : at slaves ≡ (get_or slaves slave nobody).issues = ap (λ (k : ℕ). get_or (counts slaves) k 0) same ∙ get_or-map issues slaves slave nobody in
      let here = subst (λ (k : ℕ). rom_noted k log (SlaveAsked slave (rom.Issue word value)) ≡ with_job log (rom.Issue word value)) (sym same) (asked-here slave (rom.Issue word value) log) in
      let noted = ap issues_in here ∙ job-more log (rom.Issue word value) in
      omega (arith, new, old, more, noted)
  asked-issue slaves slave word value s log within more (inr other) =
      let issues : Slave → ℕ = λ one. one.issues in
      let new : at (set slaves slave s) ≡ at slaves =
      ap (λ (l : List ℕ). get_or l i 0) (map-set issues slaves slave s) ∙ get_or-set_other (counts slaves) slave i s.issues 0 other in
      let noted = ap issues_in (asked-other slave (rom.Issue word value) i log other) in
      omega (arith, new, noted)

  -- what was asked of a slave is in its log
  abbrev AsksOf : Book → ℕ → List RomEntry → RomNext × Book → Type 0
  AsksOf book slave log a = at a.1.slaves + issues_in log ≡ at book.slaves + issues_in (rom_noted i log (SlaveAsked slave a.0))

  asked-grows : (book : Book) (slave : ℕ) (log : List RomEntry) → HandsRom book slave → AsksOf book slave log (rom_next book slave)
  asked-grows book slave log (nothing_asked answer none is) =
      subst (AsksOf book slave log) (sym is) (same-grows book.slaves book.slaves log (rom_noted i log (SlaveAsked slave answer)) refl (ap issues_in (asked-none slave answer log none (same-or-not i slave))))
  asked-grows book slave log (issue w within ok is) =
      subst (AsksOf book slave log) (sym is) (asked-issue book.slaves slave w.0 w.1 _ log within refl (same-or-not i slave))
  asked-grows book slave log (settle word value taken within ok is) =
      subst (AsksOf book slave log) (sym is) (same-grows book.slaves _ log (rom_noted i log (SlaveAsked slave (rom.Settle taken))) (same-counts book.slaves slave _ refl) (asked-settle slave taken log (same-or-not i slave)))

  reported-noted : (slave : ℕ) (outcome : RomOutcome) (log : List RomEntry) → (i ≡ slave) ⊎ (i ≢ slave) → issues_in (rom_noted i log (SlaveReported slave outcome)) ≡ issues_in log
  reported-noted slave outcome log (inl same) =
      let here = subst (λ (k : ℕ). rom_noted k log (SlaveReported slave outcome) ≡ with_outcome log outcome) (sym same) (reported-here slave outcome log) in
      ap issues_in here ∙ reported-same log outcome
  reported-noted slave outcome log (inr other) = ap issues_in (reported-other slave outcome i log other)

  grows : (book : Book) (call : Call) (log : List RomEntry) → IsAnswered book call → Grows book call log
  grows book (Submitted command (Ok number)) log is = refl
  grows book (Submitted command (Err refusal)) log is = refl
  grows book (DiskAsked answer) log is = same-grows book.slaves (disk_next book).1.slaves log log (next-counts book (hands book)) refl
  grows book (DiskReported outcome) log is = same-grows book.slaves (disk_done book outcome).slaves log log (done-counts book book.is_handed_out outcome refl) refl
  grows book (SlaveAsked slave answer) log is =
      subst (λ (a : RomNext). at (rom_next book slave).1.slaves + issues_in log ≡ at book.slaves + issues_in (rom_noted i log (SlaveAsked slave a))) (sym is)
      (asked-grows book slave log (hands-rom book slave))
  grows book (SlaveReported slave outcome) log is =
      same-grows book.slaves (rom_done book slave outcome).slaves log (rom_noted i log (SlaveReported slave outcome)) (back-counts book slave (slave_at book slave).operation outcome refl) (reported-noted slave outcome log (same-or-not i slave))
  grows book (PlanAsked answer) log is = refl
  grows book Finished log is = refl

  -- with all of them
  all-grow : (book : Book) (calls : List Call) (log : List RomEntry) → AreAnswered book calls
      → at (replayed book calls).slaves + issues_in log ≡ at book.slaves + issues_in (fold (rom_noted i) log calls)
  all-grow book [] log are = refl
  all-grow book (call ∷ calls) log are =
      let one = grows book call log are.0 in
      let others = all-grow (after book call) calls (rom_noted i log call) are.1 in
      omega (arith, one, others)

-- ---- how many slaves there are

counted : (old new : List Slave) → counts new ≡ counts old → length new ≡ length old
counted old new same =
    let issues : Slave → ℕ = λ one. one.issues in
    let all = ap (λ (l : List ℕ). length l) same in
    omega (arith, all, length-map old issues, length-map new issues)

as-many-asked : (book : Book) (slave : ℕ) → HandsRom book slave → length (rom_next book slave).1.slaves ≡ length book.slaves
as-many-asked book slave (nothing_asked answer none is) = ap (λ (a : RomNext × Book). length a.1.slaves) is
as-many-asked book slave (issue w within ok is) = ap (λ (a : RomNext × Book). length a.1.slaves) is ∙ length-set book.slaves slave _
as-many-asked book slave (settle word value taken within ok is) = ap (λ (a : RomNext × Book). length a.1.slaves) is ∙ length-set book.slaves slave _

as-many : (book : Book) (call : Call) → length (after book call).slaves ≡ length book.slaves
as-many book (Submitted command (Ok number)) = refl
as-many book (Submitted command (Err refusal)) = refl
as-many book (DiskAsked answer) = counted book.slaves (disk_next book).1.slaves (next-counts book (hands book))
as-many book (DiskReported outcome) = counted book.slaves (disk_done book outcome).slaves (done-counts book book.is_handed_out outcome refl)
as-many book (SlaveAsked slave answer) = as-many-asked book slave (hands-rom book slave)
as-many book (SlaveReported slave outcome) = counted book.slaves (rom_done book slave outcome).slaves (back-counts book slave (slave_at book slave).operation outcome refl)
as-many book (PlanAsked answer) = refl
as-many book Finished = refl

all-as-many : (book : Book) (calls : List Call) → length (replayed book calls).slaves ≡ length book.slaves
all-as-many book [] = refl
all-as-many book (call ∷ calls) = all-as-many (after book call) calls ∙ as-many book call

-- a book that is opened has as many slaves as it has words of
pub opened-many : (words : List (List ℕ)) (capacity : ℕ) (journal : Journal) → length (open_book words capacity journal).slaves ≡ length words
opened-many words capacity journal =
    counted (map opened_slave words) (owing_slaves (live_runs journal.batches) 0 (map opened_slave words)) (counts-owing (live_runs journal.batches) 0 (map opened_slave words))
    ∙ length-map words opened_slave

-- ---- all slaves together

sums : {A : Type 0} (f : A → ℕ) (xs : List A) (before now : List ℕ) → length before ≡ length xs → length now ≡ length xs
    → ((k : ℕ) (x : A) → slice_get xs k ≡ Some x → get_or now k 0 ≡ get_or before k 0 + f x) → sum now ≡ sum before + sum_by f xs
sums f [] [] [] had has each = refl
sums f [] (b ∷ before) now had has each = absurd (omega (arith, had))
sums f [] [] (a ∷ now) had has each = absurd (omega (arith, has))
sums f (x ∷ xs) [] now had has each = absurd (omega (arith, had))
sums f (x ∷ xs) (b ∷ before) [] had has each = absurd (omega (arith, has))
sums f (x ∷ xs) (b ∷ before) (a ∷ now) had has each =
    let first : a ≡ b + f x = each 0 x refl in
    let others = sums f xs before now (omega (arith, had)) (omega (arith, has)) (λ k y is. each (suc k) y is) in
    omega (arith, first, others, sum_by-cons f x xs, sum_by-cons (λ (n : ℕ). n) b before, sum_by-cons (λ (n : ℕ). n) a now)

-- what was issued to the slaves since the desk was made stands in the logs of the workers
pub issued-by : (opened : Book) (calls : List Call) (workers : List (Stay SiteValue SlaveLog)) → AreAnswered opened calls → AreWorkersOf opened calls workers
    → length workers ≡ length opened.slaves → words_issued (replayed opened calls).slaves ≡ words_issued opened.slaves + issues_of workers
issued-by opened calls workers are of many =
    let issues : Slave → ℕ = λ one. one.issues in
    let slaves = opened.slaves in
    let later = (replayed opened calls).slaves in
    let had : length (counts slaves) ≡ length workers = length-map slaves issues ∙ sym many in
    let has : length (counts later) ≡ length workers = length-map later issues ∙ all-as-many opened calls ∙ sym many in
    let each : (k : ℕ) (end : Stay SiteValue SlaveLog) → slice_get workers k ≡ Some end → get_or (counts later) k 0 ≡ get_or (counts slaves) k 0 + issues_in end.log.jobs = λ k end is.
    let grown = all-grow k opened calls [] are in
    let log = ap issues_in (of.each k end is).1 in
    omega (arith, grown, log) in
    let all = sums (λ (end : Stay SiteValue SlaveLog). issues_in end.log.jobs) workers (counts slaves) (counts later) had has each in
    omega (arith, all, sum-map issues slaves, sum-map issues later)
