-- A call of a book may add live entries, and pending writes only of words that these entries name.
use Rattle.std.proofs.Common.{◌≡◌, ◌∙◌, ◌⊎◌, inl, inr, ℕ, zero, suc, ◌+◌, ◌≤◌, Bool, true, false, List, [], ◌∷◌, ◌++◌, length, take, drop, set, refl, sym, ap, subst, arith, append_assoc, Option, Some, None, Result, Ok, Err}
use Rattle.std.specs.Prelude.{is_some, nat_lt, if◌then◌else◌}
use Rattle.std.proofs.lemmas.List.{append-nil, length-take, length-drop, take-append-le, drop-append-le}
use Rattle.std.proofs.Math.Seq.{take-add, take-length}
use Rattle.sii_edit.specs.declared.command.Command.{Command}
use Rattle.jrn_format.specs.declared.journal.Entry.{Entry}
use Rattle.jrn_format.specs.declared.journal.Form.{Form}
use Rattle.jrn_format.specs.declared.journal.Form.TheVariants.{One, Two, Moving}
use Rattle.jrn_format.specs.Halves.{Place, place_of}
use Rattle.site_core.specs.declared.fault.DeviceFault.{DeviceFault}
use Rattle.site_core.specs.declared.fault.DeviceFault.TheVariants.{Disk, Lost, Stopped}
use Rattle.site_core.specs.declared.answers.Settled.TheVariants.{Written, Again, Dead}
use Rattle.book_model.specs.Cells.{is_any, cell_of}
use Rattle.book_model.specs.declared.next.DiskNext.{DiskNext}
use Rattle.book_model.specs.declared.fault.Fault.{Fault}
use Rattle.book_model.specs.declared.fault.Fault.TheVariants as faults
use Rattle.book_model.specs.declared.next.RomOutcome.{RomOutcome}
use Rattle.book_model.specs.declared.next.RomOutcome.TheVariants as outcomes
use Rattle.book_model.specs.Entries.{runs_of}
use Rattle.book_model.specs.Book.{Book, Slave, Doing, Resting, Payload, PayloadSync, OpenGate, OpenSync, CloseGate, CloseSync, FarGate, Mark, MarkSync, Version, VersionSync, Operation, NoOperation, Issuing, Unsettled, Settling, base_of, own, appended, being_appended, queued, room, slave_at, all_cells, with_fault}
use Rattle.book_model.specs.Submit.{with_command}
use Rattle.book_model.specs.DiskSteps.{can_retire, can_migrate, begun, action_of, doing_next, disk_next, after_far_gate, went_on, disk_done}
use Rattle.book_model.specs.RomSteps.{to_do, is_last, was_taken, with_operation, with_again, rom_next, rom_done}
use Rattle.book_model.specs.Reading.{all_entries, applied, settled_prefix}
use Rattle.book_model.specs.Fits.{OwesNoMore}
use Rattle.book_model.proofs.SettlingLaws.{prefix-stays}
use Rattle.book_model.proofs.CommandLaws.{entry_after, entries-push}
use Rattle.book_model.specs.Events.{rested}
use Rattle.desk_laws.specs.Turns.{AppendsNext}
use Rattle.desk_laws.proofs.OwedLaws.{OweLess, owe-same, owe-asked, owe-written, count-set, owes-set, count-live}
use Rattle.book_core.proofs.LiveLaws.{owes-joined}
use Rattle.book_model.proofs.DiskEndLaws.{none-appended}

-- The later book has more entries that were live, and owes no more than these name.
pub record Goes (book later : Book) : Type 0 where
  pub found : later.found ≡ book.found
  pub next : List Entry
  pub entries : all_entries later ≡ all_entries book ++ next
  pub count : length (all_cells later.slaves) ≡ length (all_cells book.slaves)
  pub owes : OwesNoMore (all_cells book.slaves) (all_cells later.slaves) (runs_of next)

pub applied-stays : (book later : Book) → Goes book later → applied book ≤ applied later
applied-stays book later goes =
    let le : settled_prefix (all_cells book.slaves) (all_entries book) ≤ settled_prefix (all_cells later.slaves) (all_entries book ++ goes.next) =
    prefix-stays (all_cells book.slaves) (all_cells later.slaves) (all_entries book) goes.next goes.count goes.owes in
    let all = ap (settled_prefix (all_cells later.slaves)) goes.entries in
    omega (arith, le, all, ap length goes.found)

-- ---- where the entries stay

-- The later book has the same entries, durable ones and those that are being appended.
record Stays (book later : Book) : Type 0 where
  words : later.words ≡ book.words
  found : later.found ≡ book.found
  accepted : later.accepted ≡ book.accepted
  durable : later.durable ≡ book.durable
  doing : appended later.doing ≡ appended book.doing

same-entries : (book later : Book) → Stays book later → all_entries later ≡ all_entries book
same-entries book later stays = rw (stays.words, stays.found, stays.accepted, stays.durable) refl

still-next : (book later : Book) → Stays book later → AppendsNext book → AppendsNext later
still-next book later stays appends place entries is = rw (stays.words, stays.found, stays.accepted, stays.durable) (appends place entries (sym stays.doing ∙ is))

-- Such a call, which leaves what is to be appended.
pub record GoesAndAppends (book later : Book) : Type 0 where
  pub goes : Goes book later
  pub appends : AppendsNext book → AppendsNext later

-- one slave's words are owed no more
slave-on : (book later : Book) (i : ℕ) (s : Slave) → Stays book later → later.slaves ≡ set book.slaves i s → OweLess (slave_at book i).cells s.cells → GoesAndAppends book later
slave-on book later i s stays is less = record {
  goes = record {
    found = stays.found;
    next = [];
    entries = same-entries book later stays ∙ sym (append-nil (all_entries book));
    count = ap (λ (l : List Slave). length (all_cells l)) is ∙ count-set book.slaves i s;
    owes = rw is (owes-set book.slaves i s less);
  };
  appends = still-next book later stays;
}

-- nothing is owed more
rest-on : (book later : Book) → Stays book later → later.slaves ≡ book.slaves → GoesAndAppends book later
rest-on book later stays is = record {
  goes = record {
    found = stays.found;
    next = [];
    entries = same-entries book later stays ∙ sym (append-nil (all_entries book));
    count = ap (λ (l : List Slave). length (all_cells l)) is;
    owes = rw is (λ k at. omega arith);
  };
  appends = still-next book later stays;
}

same : (book : Book) → Stays book book
same book = record { words = refl; found = refl; accepted = refl; durable = refl; doing = refl }

pub same-on : (book : Book) → GoesAndAppends book book
same-on book = rest-on book book (same book) refl

-- ---- a command

take-more : (n : ℕ) (xs ys es : List Entry) → length es ≡ n → take n xs ≡ es → take n (xs ++ ys) ≡ es
take-more n xs ys es count is = take-append-le n xs ys (omega (arith, count, ap length is, length-take n xs)) ∙ is

drop-more : (n d : ℕ) (xs ys es : List Entry) → length es ≡ n → take n (drop d xs) ≡ es → take n (drop d (xs ++ ys)) ≡ es
drop-more zero d xs ys es count is = is
drop-more (suc n) d xs ys es count is =
    ap (take (suc n)) (drop-append-le d xs ys (omega (arith, count, ap length is, length-take (suc n) (drop d xs), length-drop d xs))) ∙ take-more (suc n) (drop d xs) ys es count is

-- the first of these: those of the one list, and perhaps some of the other
record TakesMore (n : ℕ) (xs ys : List Entry) : Type 0 where
  more : List Entry
  all : take n (xs ++ ys) ≡ take n xs ++ more

takes-more : (n : ℕ) (xs ys : List Entry) → TakesMore n xs ys
takes-more zero xs ys = record { more = []; all = refl }
takes-more (suc n) [] ys = record { more = take (suc n) ys; all = refl }
takes-more (suc n) (x ∷ xs) ys = let others = takes-more n xs ys in record { more = others.more; all = ap (λ (l : List Entry). x ∷ l) others.all }

pub command-on : (book : Book) (command : Command) → GoesAndAppends book (with_command book command)
command-on book command =
    let pushed = entries-push 0 (base_of book) book.accepted command in
    let last = entry_after 0 (base_of book) book.accepted command ∷ [] in
    let more = takes-more book.durable (own book) last in
    record {
      goes = record {
        found = refl;
        next = more.more;
        entries = ap (λ (l : List Entry). book.found ++ take book.durable l) pushed ∙ ap (λ (l : List Entry). book.found ++ l) more.all ∙ sym (append_assoc book.found (take book.durable (own book)) more.more);
        count = refl;
        owes = λ k at. omega arith;
      };
      appends = λ appends place entries is. rw pushed (drop-more (length entries) book.durable (own book) last entries refl (appends place entries is));
    }

-- ---- the disk

same-queue : (place at : Place) (queue entries : List Entry) → appended (Payload place queue) ≡ Some (at, entries) → queue ≡ entries
same-queue place at queue entries is = ap being_appended is

-- what is begun is an append of the next commands, or none
begun-next : (book : Book) (place : Option Place) (retires migrates : Bool) → book.doing ≡ Resting → (if is_any (queued book) then place_of (room book) book.halves (queued book) else None) ≡ place
    → can_retire book ≡ retires → can_migrate book ≡ migrates → (at : Place) (entries : List Entry) → appended (begun book) ≡ Some (at, entries) → take (length entries) (drop book.durable (own book)) ≡ entries
begun-next book (Some place) retires migrates rests p r m at entries is =
    let there : appended (Payload place (queued book)) ≡ Some (at, entries) = rw p at is in
    let same = same-queue place at (queued book) entries there in
    let all : queued book ≡ drop book.durable (own book) = rw rests (let z : book.durable + 0 ≡ book.durable = omega arith in ap (λ (n : ℕ). drop n (own book)) z) in
    ap (λ (l : List Entry). take (length entries) l) (sym all ∙ same) ∙ take-length entries
begun-next book None true migrates rests p r m at entries is = let no : appended CloseGate ≡ Some (at, entries) = rw (p, r) at is in absurd (cc no)
begun-next book None false true rests p r m at entries is = let no : appended FarGate ≡ Some (at, entries) = rw (p, r, m) at is in absurd (cc no)
begun-next book None false false rests p r m at entries is = let no : appended Resting ≡ Some (at, entries) = rw (p, r, m) at is in absurd (cc no)

next-appends : (book : Book) (doing : Doing) → book.doing ≡ doing → AppendsNext book → (place : Place) (entries : List Entry) → appended (doing_next book doing) ≡ Some (place, entries)
    → take (length entries) (drop book.durable (own book)) ≡ entries
next-appends book Resting is appends place entries there =
    begun-next book (if is_any (queued book) then place_of (room book) book.halves (queued book) else None) (can_retire book) (can_migrate book) is refl refl refl place entries there
next-appends book (Payload p es) is appends place entries there = appends place entries (ap appended is ∙ there)
next-appends book (PayloadSync p es) is appends place entries there = appends place entries (ap appended is ∙ there)
next-appends book (OpenGate p es) is appends place entries there = appends place entries (ap appended is ∙ there)
next-appends book (OpenSync p es) is appends place entries there = appends place entries (ap appended is ∙ there)
next-appends book CloseGate is appends place entries there = absurd (cc there)
next-appends book CloseSync is appends place entries there = absurd (cc there)
next-appends book FarGate is appends place entries there = absurd (cc there)
next-appends book Mark is appends place entries there = absurd (cc there)
next-appends book MarkSync is appends place entries there = absurd (cc there)
next-appends book Version is appends place entries there = absurd (cc there)
next-appends book VersionSync is appends place entries there = absurd (cc there)

-- an action is handed out
abbrev out_of : Book → Book
out_of book = record book { doing = doing_next book book.doing; is_handed_out = true }

out-on : (book : Book) → GoesAndAppends book (out_of book)
out-on book = record {
  goes = record { found = refl; next = []; entries = sym (append-nil (all_entries book)); count = refl; owes = λ k at. omega arith };
  appends = λ appends place entries is. next-appends book book.doing refl appends place entries is;
}

-- the book rests, or hands an action out
asked-is : (book : Book) (out failed : Bool) (action : Option DiskNext) → book.is_handed_out ≡ out → is_some book.fault ≡ failed → action_of book (doing_next book book.doing) ≡ action
    → ((disk_next book).1 ≡ book) ⊎ ((disk_next book).1 ≡ out_of book)
asked-is book true failed action o f a = inl (rw o refl)
asked-is book false true action o f a = inl (rw (o, f) refl)
asked-is book false false None o f a = inl (rw (o, f, a) refl)
asked-is book false false (Some next) o f a = inr (rw (o, f, a) refl)

pub disk-asked-on : (book : Book) → GoesAndAppends book (disk_next book).1
disk-asked-on book = from (asked-is book book.is_handed_out (is_some book.fault) (action_of book (doing_next book book.doing)) refl refl refl)
  where
    from : ((disk_next book).1 ≡ book) ⊎ ((disk_next book).1 ≡ out_of book) → GoesAndAppends book (disk_next book).1
    from (inl is) = subst (GoesAndAppends book) (sym is) (same-on book)
    from (inr is) = subst (GoesAndAppends book) (sym is) (out-on book)

-- the later book has the same entries and slaves, and appends nothing
nothing-on : (book later : Book) → later.words ≡ book.words → later.found ≡ book.found → later.accepted ≡ book.accepted → later.durable ≡ book.durable → later.slaves ≡ book.slaves → appended later.doing ≡ None → GoesAndAppends book later
nothing-on book later words found accepted durable slaves none = record {
  goes = record {
    found = found;
    next = [];
    entries = rw (words, found, accepted, durable) (sym (append-nil (all_entries book)));
    count = ap (λ (l : List Slave). length (all_cells l)) slaves;
    owes = rw slaves (λ k at. omega arith);
  };
  appends = λ appends place entries is. absurd (let no : None ≡ Some (place, entries) = sym none ∙ is in cc no);
}

live-on : (book : Book) (place : Place) (entries : List Entry) → book.doing ≡ OpenSync place entries → AppendsNext book → GoesAndAppends book (went_on (rested book) (OpenSync place entries))
live-on book place entries is appends =
    let next : take (length entries) (drop book.durable (own book)) ≡ entries = appends place entries (ap appended is) in
    record {
      goes = record {
        found = refl;
        next = entries;
        entries =
            ap (λ (l : List Entry). book.found ++ l) (take-add book.durable (length entries) (own book) ∙ ap (λ (l : List Entry). take book.durable (own book) ++ l) next)
            ∙ sym (append_assoc book.found (take book.durable (own book)) entries);
        count = count-live (runs_of entries) 0 book.slaves;
        owes = owes-joined (runs_of entries) book.slaves;
      };
      appends = λ appended_next at others no. absurd (cc no);
    }

step-on : (book : Book) (doing : Doing) → book.doing ≡ doing → AppendsNext book → GoesAndAppends book (went_on (rested book) doing)
step-on book Resting is appends = rest-on book (rested book) (record { words = refl; found = refl; accepted = refl; durable = refl; doing = refl }) refl
step-on book (Payload place entries) is appends = rest-on book (went_on (rested book) (Payload place entries)) (record { words = refl; found = refl; accepted = refl; durable = refl; doing = ap appended (sym is) }) refl
step-on book (PayloadSync place entries) is appends = rest-on book (went_on (rested book) (PayloadSync place entries)) (record { words = refl; found = refl; accepted = refl; durable = refl; doing = ap appended (sym is) }) refl
step-on book (OpenGate place entries) is appends = rest-on book (went_on (rested book) (OpenGate place entries)) (record { words = refl; found = refl; accepted = refl; durable = refl; doing = ap appended (sym is) }) refl
step-on book (OpenSync place entries) is appends = live-on book place entries is appends
step-on book CloseGate is appends = nothing-on book (went_on (rested book) CloseGate) refl refl refl refl refl refl
step-on book CloseSync is appends = nothing-on book (went_on (rested book) CloseSync) refl refl refl refl refl refl
step-on book FarGate is appends = nothing-on book (went_on (rested book) FarGate) refl refl refl refl refl (none-appended book.form)
step-on book Mark is appends = nothing-on book (went_on (rested book) Mark) refl refl refl refl refl refl
step-on book MarkSync is appends = nothing-on book (went_on (rested book) MarkSync) refl refl refl refl refl refl
step-on book Version is appends = nothing-on book (went_on (rested book) Version) refl refl refl refl refl refl
step-on book VersionSync is appends = nothing-on book (went_on (rested book) VersionSync) refl refl refl refl refl refl

-- a fault closes the book
fault-rests : (book : Book) (why : Fault) → GoesAndAppends book (with_fault (rested book) why)
fault-rests book why = rest-on book (with_fault (rested book) why) (record { words = refl; found = refl; accepted = refl; durable = refl; doing = refl }) refl

reported-on : (book : Book) (out : Bool) (result : Result (Unit {0}) DeviceFault) → book.is_handed_out ≡ out → AppendsNext book → GoesAndAppends book (disk_done book result)
reported-on book false result o appends = let is : disk_done book result ≡ book = rw o refl in subst (GoesAndAppends book) (sym is) (same-on book)
reported-on book true (Ok done) o appends = let is : disk_done book (Ok done) ≡ went_on (rested book) book.doing = rw o refl in subst (GoesAndAppends book) (sym is) (step-on book book.doing refl appends)
reported-on book true (Err Disk) o appends = let is : disk_done book (Err Disk) ≡ with_fault (rested book) faults.Disk = rw o refl in subst (GoesAndAppends book) (sym is) (fault-rests book faults.Disk)
reported-on book true (Err Stopped) o appends = let is : disk_done book (Err Stopped) ≡ with_fault (rested book) faults.Stopped = rw o refl in subst (GoesAndAppends book) (sym is) (fault-rests book faults.Stopped)
reported-on book true (Err Lost) o appends = let is : disk_done book (Err Lost) ≡ book = rw o refl in subst (GoesAndAppends book) (sym is) (same-on book)

pub disk-reported-on : (book : Book) (result : Result (Unit {0}) DeviceFault) → AppendsNext book → GoesAndAppends book (disk_done book result)
disk-reported-on book result appends = reported-on book book.is_handed_out result refl appends

-- ---- a slave

-- these entries, and this slave in the place of another
same-but : (book : Book) (i : ℕ) (s : Slave) → OweLess (slave_at book i).cells s.cells → GoesAndAppends book (record book { slaves = set book.slaves i s })
same-but book i s less = slave-on book (record book { slaves = set book.slaves i s }) i s (record { words = refl; found = refl; accepted = refl; durable = refl; doing = refl }) refl less

operation-on : (book : Book) (i : ℕ) (operation : Operation) → GoesAndAppends book (with_operation book i operation)
operation-on book i operation = same-but book i (record (slave_at book i) { operation = operation }) (owe-same (slave_at book i).cells)

fault-on : (book : Book) (i : ℕ) (operation : Operation) (why : Fault) → GoesAndAppends book (with_fault (with_operation book i operation) why)
fault-on book i operation why =
    slave-on book (with_fault (with_operation book i operation) why) i (record (slave_at book i) { operation = operation }) (record { words = refl; found = refl; accepted = refl; durable = refl; doing = refl }) refl (owe-same (slave_at book i).cells)

next-on : (book : Book) (i : ℕ) (inside failed : Bool) (operation : Operation) (todo : List (ℕ × ℕ)) → nat_lt i (length book.slaves) ≡ inside → (slave_at book i).operation ≡ operation → is_some book.fault ≡ failed → to_do book i ≡ todo
    → GoesAndAppends book (rom_next book i).1
next-on book i false failed operation todo n e f t = rw n (same-on book)
next-on book i true true NoOperation todo n e f t = rw (n, e, f) (same-on book)
next-on book i true false NoOperation [] n e f t = rw (n, e, f, t) (same-on book)
next-on book i true false NoOperation (w ∷ others) n e f t = rw (n, e, f, t) (same-but book i _ (owe-asked (slave_at book i).cells w.0))
next-on book i true failed (Issuing word value) todo n e f t = rw (n, e) (same-on book)
next-on book i true true (Unsettled word value taken) todo n e f t = rw (n, e, f) (same-on book)
next-on book i true false (Unsettled word value taken) todo n e f t = rw (n, e, f) (operation-on book i (Settling word value taken))
next-on book i true failed (Settling word value taken) todo n e f t = rw (n, e) (same-on book)

pub slave-asked-on : (book : Book) (i : ℕ) → GoesAndAppends book (rom_next book i).1
slave-asked-on book i = next-on book i (nat_lt i (length book.slaves)) (is_some book.fault) (slave_at book i).operation (to_do book i) refl refl refl refl

again-on : (book : Book) (i word : ℕ) (last : Bool) → is_last (cell_of (slave_at book i).cells word).known ≡ last → GoesAndAppends book (with_again book i word)
again-on book i word true is = rw is (fault-on book i NoOperation (faults.SlaveDead i))
again-on book i word false is = rw is (operation-on book i NoOperation)

back-on : (book : Book) (i : ℕ) (operation : Operation) (outcome : RomOutcome) → (slave_at book i).operation ≡ operation → GoesAndAppends book (rom_done book i outcome)
back-on book i NoOperation outcome is = rw is (same-on book)
back-on book i (Unsettled word value taken) outcome is = rw is (same-on book)
back-on book i (Issuing word value) (outcomes.Issued how) is = rw is (operation-on book i (Unsettled word value (was_taken how)))
back-on book i (Issuing word value) (outcomes.Settled how) is = rw is (same-on book)
back-on book i (Issuing word value) outcomes.Stopped is = rw is (fault-on book i NoOperation faults.Stopped)
back-on book i (Settling word value taken) (outcomes.Issued how) is = rw is (same-on book)
back-on book i (Settling word value taken) (outcomes.Settled Written) is = rw is (same-but book i _ (owe-written (slave_at book i).cells word value))
back-on book i (Settling word value taken) (outcomes.Settled Again) is = rw is (again-on book i word (is_last (cell_of (slave_at book i).cells word).known) refl)
back-on book i (Settling word value taken) (outcomes.Settled Dead) is = rw is (fault-on book i NoOperation (faults.SlaveDead i))
back-on book i (Settling word value taken) outcomes.Stopped is = rw is (fault-on book i NoOperation faults.Stopped)

pub slave-reported-on : (book : Book) (i : ℕ) (outcome : RomOutcome) → GoesAndAppends book (rom_done book i outcome)
slave-reported-on book i outcome = back-on book i (slave_at book i).operation outcome refl
