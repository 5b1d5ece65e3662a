-- An issue or a settle ends while a book is recovering.
use Rattle.std.proofs.Common.{◌≡◌, inl, inr, ℕ, suc, ◌+◌, ◌-◌, ◌*◌, ◌<◌, ◌≤◌, Bool, true, false, List, [], ◌∷◌, ◌++◌, length, take, get_or, set, refl, sym, ◌∙◌, ap, subst, arith, length-set, Option, Some}
use Rattle.std.specs.Prelude.{is_some}
use Rattle.std.proofs.Math.Seq.{take-nil}
use Rattle.std.proofs.lemmas.Bool.{cases_eq}
use Rattle.std.proofs.lemmas.Bool.Decides.{nat_tests}
use Rattle.std.proofs.lemmas.List.{append-nil, get_or-set_same, get_or-set_other, set-set}
use Rattle.std.proofs.lemmas.List.Sums.{sum_by-cons}
use Rattle.sii_words.specs.declared.run.Run.{Run}
use Rattle.sii_edit.specs.declared.command.Command.{Command}
use Rattle.jrn_format.specs.declared.journal.Entry.{Entry}
use Rattle.site_core.specs.declared.answers.Settled.TheVariants as settled
use Rattle.site_core.specs.State.{State, with_half}
use Rattle.book_model.specs.Cells.{asked, cell_of, written}
use Rattle.book_model.specs.declared.fault.Fault.{Fault}
use Rattle.book_model.specs.declared.fault.Fault.TheVariants as faults
use Rattle.esc_model.specs.SlaveHalf.{SlaveHalf}
use Rattle.book_model.specs.declared.next.RomNext.{RomNext}
use Rattle.book_model.specs.declared.next.RomNext.TheVariants as next
use Rattle.book_model.specs.declared.next.RomOutcome.{RomOutcome}
use Rattle.book_model.specs.declared.next.RomOutcome.TheVariants.{Issued, Settled, Stopped}
use Rattle.book_model.specs.Entries.{entries_from, namings, runs_of}
use Rattle.book_model.specs.Book.{Book, NoOperation, Issuing, Unsettled, Settling, Slave, base_of, nobody, first_fault, slave_at, with_slave}
use Rattle.book_model.specs.RomSteps.{is_last, rom_done, rom_next, was_taken, with_again, with_issue}
use Rattle.book_model.specs.Reading.{all_entries}
use Rattle.book_model.specs.Machine.{Machine}
use Rattle.book_model.specs.Frame.{JournalFrame}
use Rattle.book_model.specs.Steps.{MayBegin, took_after}
use Rattle.book_model.specs.Up.{Up}
use Rattle.book_model.proofs.LineLaws.{half-there}
use Rattle.book_model.proofs.SlaveEventLaws as events
use Rattle.book_model.proofs.SlaveEventLaws.{IsNothing, asks, up-asks}
use Rattle.book_model.specs.Worn.{named_for, Worn}
use Rattle.book_model.proofs.WornBooks.{worn-rom_next, worn-rom_done}
use Rattle.book_model.proofs.WornSlaves.{few-issues}
use Rattle.site_journal.specs.Left.{operation_calls, slave_calls, words_issued}
use Rattle.site_journal.specs.Recovering.{IsBetween, IsRecovering, GetsNearer, IsOfIssue, IsOfSettle, MayFail}
use Rattle.site_journal.proofs.CallLaws.{calls-with, issued-with}
use Rattle.site_journal.proofs.NamedLaws.{words_of_runs, named_among, named-few}

-- ---- one slave of a book

-- the book with this slave, and this fault
abbrev with : Book → ℕ → Slave → Option Fault → Book
with book i slave fault = record book { slaves = set book.slaves i slave; fault = fault }

-- Only this slave and the fault changed. Nothing is handed out for the slave, at most `most` device calls are left for its errand, and
-- `words` more words were issued to it.
record Ends (book : Book) (i most words : ℕ) (outcome : RomOutcome) (new : Book) : Type 0 where
  slave : Slave
  fault : Option Fault
  is : new ≡ with book i slave fault
  between : IsBetween slave.operation
  few : operation_calls slave.operation ≤ most
  issues : slave.issues ≡ (slave_at book i).issues + words
  may_fail : MayFail i outcome book.fault fault

-- the same, where this slave was another before
ends-from : (book : Book) (i most words more : ℕ) (slave : Slave) (outcome : RomOutcome) (new : Book) → i < length book.slaves → slave.issues ≡ (slave_at book i).issues + more → Ends (with_slave book i slave) i most words outcome new
    → Ends book i most (more + words) outcome new
ends-from book i most words more slave outcome new within counted ends =
    let here = get_or-set_same book.slaves i slave nobody within in
    let same : (slave_at (with_slave book i slave) i).issues ≡ slave.issues = ap (λ (s : Slave). s.issues) here in
    let count = ends.issues in
    record {
      slave = ends.slave;
      fault = ends.fault;
      is = ends.is ∙ ap (λ (l : List Slave). record book { slaves = l; fault = ends.fault }) (set-set book.slaves i slave ends.slave);
      between = ends.between;
      few = ends.few;
      issues = omega (arith, count, same, counted);
      may_fail = ends.may_fail;
    }

-- ---- the book goes on

between-with : (book : Book) (i : ℕ) (slave : Slave) → i < length book.slaves → IsBetween slave.operation → ((k : ℕ) → k < length book.slaves → IsBetween (slave_at book k).operation)
    → (k : ℕ) → k < length (set book.slaves i slave) → IsBetween (get_or (set book.slaves i slave) k nobody).operation
between-with book i slave within here others k inside = elim (cases_eq k i) [
  | inl same ↦
      subst (λ (n : ℕ). IsBetween (get_or (set book.slaves i slave) n nobody).operation) (sym same)
      (subst (λ (s : Slave). IsBetween s.operation) (sym (get_or-set_same book.slaves i slave nobody within)) here)
  | inr other ↦
      subst (λ (s : Slave). IsBetween s.operation) (sym (get_or-set_other book.slaves i k slave nobody other))
      (others k (omega (arith, inside, length-set book.slaves i slave)))
]

-- no word was issued more often than it may be
few-with : (book : Book) (i : ℕ) (slave : Slave) (fault : Option Fault) → i < length book.slaves → Worn (with book i slave fault) → slave.issues ≤ 3 * named_for (all_entries book) i
few-with book i slave fault within worn =
    let here = get_or-set_same book.slaves i slave nobody within in
    let few = few-issues (named_for (all_entries book) i) (is_some fault) (get_or (set book.slaves i slave) i nobody) (worn i (omega (arith, within, length-set book.slaves i slave))) in
    omega (arith, few, ap (λ (s : Slave). s.issues) here)

goes-with : (book : Book) (i calls words : ℕ) (slave : Slave) (fault : Option Fault) → i < length book.slaves → IsRecovering book → IsBetween slave.operation → slave.issues ≡ (slave_at book i).issues + words
    → slave_calls (named_for (all_entries book) i) slave + calls ≤ slave_calls (named_for (all_entries book) i) (slave_at book i) → Worn (with book i slave fault) → GetsNearer calls words book (with book i slave fault)
goes-with book i calls words slave fault within r between issues fewer worn = record {
  recovering = record { none = r.none; step = r.step; rests = r.rests; going = r.going; between = between-with book i slave within between r.between; worn = worn };
  left = omega (arith, calls-with book i slave within, fewer);
  issued = omega (arith, issued-with book i slave within, issues);
}

one-less : (most issues : ℕ) → issues + 1 ≤ most → 10002 * (most - (issues + 1)) + 10002 ≡ 10002 * (most - issues)
one-less most issues le = let left : (most - (issues + 1)) + 1 ≡ most - issues = omega arith in omega (arith, left)

-- the action has ended, with this fault
abbrev Came : (calls words i : ℕ) → RomOutcome → (old new : Book) → Type 0
Came calls words i outcome old new = GetsNearer calls words old new × MayFail i outcome old.fault new.fault

issue-goes : (book : Book) (i : ℕ) (outcome : RomOutcome) (new : Book) → i < length book.slaves → IsRecovering book → Worn new → Ends book i 10001 1 outcome new → Came 1 1 i outcome book new
issue-goes book i outcome new within r worn ends =
    let slave = ends.slave in
    let named = named_for (all_entries book) i in
    let worn_is : Worn (with book i slave ends.fault) = subst Worn ends.is worn in
    let most = few-with book i slave ends.fault within worn_is in
    let count = ends.issues in
    let few = ends.few in
    let less = one-less (3 * named) (slave_at book i).issues (omega (arith, most, count)) in
    let now : 10002 * (3 * named - slave.issues) ≡ 10002 * (3 * named - ((slave_at book i).issues + 1)) = ap (λ (n : ℕ). 10002 * (3 * named - n)) count in
    subst (Came 1 1 i outcome book) (sym ends.is) (goes-with book i 1 1 slave ends.fault within r ends.between count (omega (arith, less, now, few)) worn_is, ends.may_fail)

settle-goes : (book : Book) (i : ℕ) (outcome : RomOutcome) (new : Book) → i < length book.slaves → IsRecovering book → Worn new → operation_calls (slave_at book i).operation ≡ 10001 → Ends book i 0 0 outcome new → Came 10001 0 i outcome book new
settle-goes book i outcome new within r worn waits ends =
    let slave = ends.slave in
    let named = named_for (all_entries book) i in
    let count = ends.issues in
    let few = ends.few in
    let now : 10002 * (3 * named - slave.issues) ≡ 10002 * (3 * named - (slave_at book i).issues) = ap (λ (n : ℕ). 10002 * (3 * named - n)) (omega (arith, count)) in
    subst (Came 10001 0 i outcome book) (sym ends.is) (goes-with book i 10001 0 slave ends.fault within r ends.between count (omega (arith, waits, now, few)) (subst Worn ends.is worn), ends.may_fail)

-- ---- the outcome

freed : (book : Book) (i : ℕ) (fault : Option Fault) (outcome : RomOutcome) (new : Book) → new ≡ with book i (record (slave_at book i) { operation = NoOperation }) fault → MayFail i outcome book.fault fault → Ends book i 0 0 outcome new
freed book i fault outcome new is may = record { slave = record (slave_at book i) { operation = NoOperation }; fault = fault; is = is; between = tt; few = omega arith; issues = omega arith; may_fail = may }

issue-ends : (book : Book) (i word value : ℕ) (outcome : RomOutcome) → (slave_at book i).operation ≡ Issuing word value → IsOfIssue outcome → Ends book i 10001 0 outcome (rom_done book i outcome)
issue-ends book i word value (Issued how) operation of = record {
  slave = record (slave_at book i) { operation = Unsettled word value (was_taken how) };
  fault = book.fault;
  is = rw operation refl;
  between = tt;
  few = omega arith;
  issues = omega arith;
  may_fail = refl;
}
issue-ends book i word value (Settled how) operation of = absurd of
issue-ends book i word value Stopped operation of = record {
  slave = record (slave_at book i) { operation = NoOperation };
  fault = Some (first_fault book.fault faults.Stopped);
  is = rw operation refl;
  between = tt;
  few = omega arith;
  issues = omega arith;
  may_fail = refl;
}

again-ends : (book : Book) (i word : ℕ) (last : Bool) → is_last (cell_of (slave_at book i).cells word).known ≡ last → Ends book i 0 0 (Settled settled.Again) (with_again book i word)
again-ends book i word true last = freed book i (Some (first_fault book.fault (faults.SlaveDead i))) (Settled settled.Again) (with_again book i word) (rw last refl) (inr refl)
again-ends book i word false last = freed book i book.fault (Settled settled.Again) (with_again book i word) (rw last refl) (inl refl)

settle-ends : (book : Book) (i word value : ℕ) (taken : Bool) (outcome : RomOutcome) → (slave_at book i).operation ≡ Settling word value taken → IsOfSettle outcome → Ends book i 0 0 outcome (rom_done book i outcome)
settle-ends book i word value taken (Issued how) operation of = absurd of
settle-ends book i word value taken (Settled settled.Written) operation of = record {
  slave = record (slave_at book i) { cells = set (slave_at book i).cells word (written (cell_of (slave_at book i).cells word) value); operation = NoOperation };
  fault = book.fault;
  is = rw operation refl;
  between = tt;
  few = omega arith;
  issues = omega arith;
  may_fail = inl refl;
}
settle-ends book i word value taken (Settled settled.Again) operation of =
    let goes : rom_done book i (Settled settled.Again) ≡ with_again book i word = rw operation refl in
    subst (Ends book i 0 0 (Settled settled.Again)) (sym goes) (again-ends book i word (is_last (cell_of (slave_at book i).cells word).known) refl)
settle-ends book i word value taken (Settled settled.Dead) operation of =
    freed book i (Some (first_fault book.fault (faults.SlaveDead i))) (Settled settled.Dead) (rom_done book i (Settled settled.Dead)) (rw operation refl) (inr refl)
settle-ends book i word value taken Stopped operation of = freed book i (Some (first_fault book.fault faults.Stopped)) Stopped (rom_done book i Stopped) (rw operation refl) refl

-- ---- what is handed out

begins-same : (a : RomNext) (i : ℕ) (half : SlaveHalf) → MayBegin a i false half half
begins-same (next.Issue word value) i half = inl refl
begins-same (next.Settle taken) i half = refl
begins-same next.Idle i half = refl
begins-same next.Stop i half = refl

operation-set : (book : Book) (i : ℕ) (slave : Slave) → i < length book.slaves → (slave_at (with_slave book i slave) i).operation ≡ slave.operation
operation-set book i slave within = ap (λ (s : Slave). s.operation) (get_or-set_same book.slaves i slave nobody within)

module _ (frame : JournalFrame) (book : Book) (state : State) (took : List Bool) (m : Machine) (i : ℕ) (up : Up frame book state took m) (recovering : IsRecovering book) (within : i < length book.slaves) where
  abbrev later : Book
  later = (rom_next book i).1

  worn-after : (outcome : RomOutcome) → Worn (rom_done later i outcome)
  worn-after outcome =
      let h = half-there state.halves i (omega (arith, within, up.slaves.count)) in
      let now = up-asks frame book state took m i h.0 h.0 false up within h.1 (begins-same (rom_next book i).0 i h.0) in
      let there : i < length later.slaves = omega (arith, within, up.slaves.count, now.slaves.count, length-set state.halves i h.0) in
      worn-rom_done frame later (with_half state i h.0) (took_after (rom_next book i).0 took i false) m i now there (worn-rom_next frame book state took m i up within recovering.worn) outcome

  abbrev Gone : (calls words : ℕ) → RomOutcome → RomNext × Book → Type 0
  Gone calls words outcome a = Worn (rom_done a.1 i outcome) → Came calls words i outcome book (rom_done a.1 i outcome)

  issued-as : (word value : ℕ) (outcome : RomOutcome) → IsOfIssue outcome → (rom_next book i).0 ≡ next.Issue word value → events.Asks book i → Gone 1 1 outcome (rom_next book i)
  issued-as word value outcome of is (events.nothing answer none same) = let no : answer ≡ next.Issue word value = sym (ap (λ (a : RomNext × Book). a.0) same) ∙ is in absurd (subst IsNothing no none)
  issued-as word value outcome of is (events.issue w others todo same) =
      let slave : Slave = record { cells = set (slave_at book i).cells w.0 (asked (cell_of (slave_at book i).cells w.0)); operation = Issuing w.0 w.1; issues = (slave_at book i).issues + 1 } in
      let ends = issue-ends (with_slave book i slave) i w.0 w.1 outcome (operation-set book i slave within) of in
      subst (Gone 1 1 outcome) (sym same)
      (λ worn. issue-goes book i outcome (rom_done (with_issue book i w) i outcome) within recovering worn (ends-from book i 10001 0 1 slave outcome (rom_done (with_issue book i w) i outcome) within refl ends))
  issued-as word value outcome of is (events.settle w v taken operation same) = let no : next.Settle taken ≡ next.Issue word value = sym (ap (λ (a : RomNext × Book). a.0) same) ∙ is in absurd cc

  pub issue-done : (word value : ℕ) (outcome : RomOutcome) → (rom_next book i).0 ≡ next.Issue word value → IsOfIssue outcome → Came 1 1 i outcome book (rom_done later i outcome)
  issue-done word value outcome is of = issued-as word value outcome of is (asks book i (grind (arith, nat_tests)) (slave_at book i).operation refl) (worn-after outcome)

  settled-as : (taken : Bool) (outcome : RomOutcome) → IsOfSettle outcome → (rom_next book i).0 ≡ next.Settle taken → events.Asks book i → Gone 10001 0 outcome (rom_next book i)
  settled-as taken outcome of is (events.nothing answer none same) = let no : answer ≡ next.Settle taken = sym (ap (λ (a : RomNext × Book). a.0) same) ∙ is in absurd (subst IsNothing no none)
  settled-as taken outcome of is (events.issue w others todo same) = let no : next.Issue w.0 w.1 ≡ next.Settle taken = sym (ap (λ (a : RomNext × Book). a.0) same) ∙ is in absurd cc
  settled-as taken outcome of is (events.settle word value t operation same) =
      let slave : Slave = record (slave_at book i) { operation = Settling word value t } in
      let ends = settle-ends (with_slave book i slave) i word value t outcome (operation-set book i slave within) of in
      subst (Gone 10001 0 outcome) (sym same)
      (λ worn. settle-goes book i outcome (rom_done (with_slave book i slave) i outcome) within recovering worn (ap operation_calls operation) (ends-from book i 0 0 0 slave outcome (rom_done (with_slave book i slave) i outcome) within (omega arith) ends))

  pub settle-done : (taken : Bool) (outcome : RomOutcome) → (rom_next book i).0 ≡ next.Settle taken → IsOfSettle outcome → Came 10001 0 i outcome book (rom_done later i outcome)
  settle-done taken outcome is of = settled-as taken outcome of is (asks book i (grind (arith, nat_tests)) (slave_at book i).operation refl) (worn-after outcome)

-- ---- how many words were issued

abbrev FewEach : List Run → (first : ℕ) → List Slave → Type 0
FewEach runs first slaves = (i k : ℕ) → i < length slaves → k ≡ first + i → (get_or slaves i nobody).issues ≤ 3 * length (namings runs k)

few-sum : (runs : List Run) (first : ℕ) (slaves : List Slave) → FewEach runs first slaves → words_issued slaves ≤ 3 * named_among runs first slaves
few-sum runs first [] each = omega arith
few-sum runs first (s ∷ slaves) each =
    let rest = few-sum runs (suc first) slaves (λ i k within is. each (suc i) k (omega arith) (omega arith)) in
    omega (arith, rest, each 0 first (omega arith) (omega arith), sum_by-cons (λ (x : Slave). x.issues) s slaves)

none-own : (book : Book) → book.accepted ≡ [] → all_entries book ≡ book.found
none-own book none =
    ap (λ (l : List Command). book.found ++ take book.durable (entries_from 0 (base_of book) l)) none ∙ ap (λ (l : List Entry). book.found ++ l) (take-nil {A = Entry} book.durable) ∙ append-nil book.found

pub few-issued : (book : Book) → IsRecovering book → words_issued book.slaves ≤ 3 * words_of_runs (runs_of book.found)
few-issued book r =
    let runs = runs_of book.found in
    let each : FewEach runs 0 book.slaves = λ i k within is.
    let few = few-issues (named_for (all_entries book) i) (is_some book.fault) (slave_at book i) (r.worn i within) in
    let same : named_for (all_entries book) i ≡ length (namings runs k) = ap (λ (l : List Entry). named_for l i) (none-own book r.none) ∙ ap (λ (n : ℕ). length (namings runs n)) (omega arith) in
    omega (arith, few, same) in
    omega (arith, few-sum runs 0 book.slaves each, named-few runs 0 book.slaves)
