-- What each call keeps of the wear of all slaves.
use Rattle.std.proofs.Common.{◌≡◌, ◌≢◌, ◌⊎◌, inl, inr, ℕ, zero, suc, ◌+◌, ◌*◌, ◌<◌, ◌≤◌, Bool, true, false, List, [], ◌∷◌, ◌++◌, length, map, take, drop, get_or, set, refl, sym, ◌∙◌, ap, subst, arith, append_assoc, length-append, length-set, take-append-drop, Option, Some, None, Result, Ok, Err}
use Rattle.std.specs.Prelude.{is_some, nat_lt}
use Rattle.std.proofs.lemmas.Bool.{cases_eq}
use Rattle.std.proofs.lemmas.Bool.Decides.{nat_tests}
use Rattle.std.proofs.lemmas.List.{append-nil, length-map, length-take-le, get_or-map, get_or-set_same, get_or-set_other, take-append-le}
use Rattle.std.proofs.Math.Seq.{take-append-add}
use Rattle.sii_words.specs.declared.run.Run.{Run}
use Rattle.sii_edit.specs.declared.command.Command.{Command}
use Rattle.jrn_format.specs.declared.journal.Entry.{Entry}
use Rattle.jrn_format.specs.declared.journal.Journal.{Journal}
use Rattle.jrn_format.specs.Halves.{Place}
use Rattle.site_core.specs.declared.fault.DeviceFault.{DeviceFault}
use Rattle.site_core.specs.declared.fault.DeviceFault.TheVariants as device
use Rattle.site_core.specs.declared.answers.Settled.TheVariants as settled
use Rattle.site_core.specs.State.{State}
use Rattle.book_model.specs.Cells.{opened, asked, since, cell_of}
use Rattle.book_model.specs.declared.fault.Fault.{Fault}
use Rattle.book_model.specs.declared.fault.Fault.TheVariants as faults
use Rattle.book_model.specs.declared.next.DiskNext.{DiskNext}
use Rattle.book_model.specs.declared.next.RomOutcome.{RomOutcome}
use Rattle.book_model.specs.declared.next.RomOutcome.TheVariants as outcomes
use Rattle.book_model.specs.Entries.{runs_of, entries_of, live_runs, namings}
use Rattle.book_model.specs.Book.{Book, Slave, Operation, NoOperation, Issuing, Unsettled, Settling, Doing, Resting, Payload, PayloadSync, OpenGate, OpenSync, CloseGate, CloseSync, FarGate, Mark, MarkSync, Version, VersionSync, nobody, base_of, own, is_closed, is_version_2, slave_at, with_slave, with_fault, IsAbout}
use Rattle.book_model.specs.Open.{opened_slave, owing_words, owing_slaves, open_book, migrate}
use Rattle.book_model.specs.Submit.{with_command}
use Rattle.book_model.specs.DiskSteps.{action_of, doing_next, disk_next, went_on, disk_done}
use Rattle.book_model.specs.RomSteps.{to_do, with_operation, with_issue, with_written, with_again, was_taken, is_last, rom_next, rom_done}
use Rattle.book_model.specs.Reading.{all_entries}
use Rattle.book_model.specs.Machine.{Machine}
use Rattle.book_model.specs.Owed.{IsAmong}
use Rattle.book_model.proofs.CellLaws.{namings-append}
use Rattle.book_model.proofs.CommandLaws.{entries-push}
use Rattle.book_model.proofs.FitLaws.{runs_of-append}
use Rattle.book_model.specs.Frame.{JournalFrame}
use Rattle.book_model.specs.Doing.{Appending}
use Rattle.book_model.specs.Events.{rested}
use Rattle.book_model.specs.Slaves.{Asks, OperationFits}
use Rattle.book_model.specs.Up.{Up}
use Rattle.book_model.proofs.OwingLaws.{length-owing_slaves}
use Rattle.book_model.proofs.LineLaws.{half-there}
use Rattle.book_model.proofs.DiskEndLaws.{appends-of}
use Rattle.book_model.proofs.WorkLaws.{to_do-owed}
use Rattle.book_model.specs.Worn.{named_for, owed_in, SlaveWorn, Worn}
use Rattle.book_model.proofs.WornSlaves.{worn-asked, worn-operation, worn-failed, worn-again, worn-written, worn-owing, few-issues}
use Rattle.book_model.proofs.RomLaws.{among-some}

-- ---- one slave of many

pub worn-set : (book : Book) (i : ℕ) (slave : Slave) → i < length book.slaves → Worn book → SlaveWorn (named_for (all_entries book) i) (is_some book.fault) slave → Worn (with_slave book i slave)
worn-set book i slave within worn here = λ k inside. one k (omega (arith, inside, length-set book.slaves i slave)) (cases_eq k i)
  where
    one : (k : ℕ) → k < length book.slaves → (k ≡ i) ⊎ (k ≢ i) → SlaveWorn (named_for (all_entries book) k) (is_some book.fault) (get_or (set book.slaves i slave) k nobody)
    one k inside (inl same) =
        subst (λ (n : ℕ). SlaveWorn (named_for (all_entries book) n) (is_some book.fault) (get_or (set book.slaves i slave) n nobody)) (sym same)
        (subst (SlaveWorn (named_for (all_entries book) i) (is_some book.fault)) (sym (get_or-set_same book.slaves i slave nobody within)) here)
    one k inside (inr other) = subst (SlaveWorn (named_for (all_entries book) k) (is_some book.fault)) (sym (get_or-set_other book.slaves i k slave nobody other)) (worn k inside)

pub worn-fault : (book : Book) (fault : Fault) → Worn book → Worn (with_fault book fault)
worn-fault book fault worn = λ k inside. worn-failed (named_for (all_entries book) k) (is_some book.fault) (slave_at book k) (slave_at book k).operation (worn k inside)

-- ---- an open

none-owed : (words : List ℕ) → owed_in (map opened words) ≡ 0
none-owed [] = refl
none-owed (w ∷ words) = none-owed words

known-opened : (words : List ℕ) (at : ℕ) → since (cell_of (map opened words) at).known ≡ 0
known-opened [] at = refl
known-opened (w ∷ words) zero = refl
known-opened (w ∷ words) (suc at) = known-opened words at

slave-opened : (words : List ℕ) → SlaveWorn 0 false (opened_slave words)
slave-opened words = record {
  few = omega (arith, none-owed words);
  most = λ at. omega (arith, known-opened words at);
  three = λ at. omega (arith, known-opened words at);
  calm = λ ok at. inl (omega (arith, known-opened words at));
}

pub owing-slave : (runs : List Run) (first : ℕ) (slaves : List Slave) (i : ℕ) → i < length slaves
    → get_or (owing_slaves runs first slaves) i nobody ≡ record (get_or slaves i nobody) { cells = owing_words runs (first + i) 0 (get_or slaves i nobody).cells }
owing-slave runs first [] i within = absurd (omega arith)
owing-slave runs first (s ∷ slaves) zero within = ap (λ (n : ℕ). record s { cells = owing_words runs n 0 s.cells }) (omega arith)
owing-slave runs first (s ∷ slaves) (suc i) within =
    owing-slave runs (suc first) slaves i (omega arith)
    ∙ ap (λ (n : ℕ). record (get_or slaves i nobody) { cells = owing_words runs n 0 (get_or slaves i nobody).cells }) (omega arith)

-- a slave that owes these runs too
slave-owes : (count : ℕ) (failed : Bool) (runs : List Run) (slaves : List Slave) (i : ℕ) → i < length slaves → SlaveWorn count failed (get_or slaves i nobody)
    → SlaveWorn (count + length (namings runs i)) failed (get_or (owing_slaves runs 0 slaves) i nobody)
slave-owes count failed runs slaves i within worn =
    let slave = get_or slaves i nobody in
    let is : get_or (owing_slaves runs 0 slaves) i nobody ≡ record slave { cells = owing_words runs i 0 slave.cells } =
    owing-slave runs 0 slaves i within ∙ ap (λ (n : ℕ). record slave { cells = owing_words runs n 0 slave.cells }) (omega arith) in
    subst (SlaveWorn (count + length (namings runs i)) failed) (sym is) (worn-owing count failed slave runs i worn)

pub worn-opened : (words : List (List ℕ)) (capacity : ℕ) (journal : Journal) → Worn (open_book words capacity journal)
worn-opened words capacity journal = λ i within.
    let runs = live_runs journal.batches in
    let slaves = map opened_slave words in
    let inside : i < length slaves = omega (arith, within, length-owing_slaves runs 0 slaves) in
    let own : i < length words = omega (arith, inside, length-map words opened_slave) in
    let named : 0 + length (namings runs i) ≡ named_for (entries_of journal.batches ++ []) i = omega (arith, ap (λ (l : List Entry). named_for l i) (append-nil (entries_of journal.batches))) in
    subst (λ (n : ℕ). SlaveWorn n false (get_or (owing_slaves runs 0 slaves) i nobody)) named
    (slave-owes 0 false runs slaves i inside (subst (SlaveWorn 0 false) (sym (get_or-map opened_slave words i [] nobody own)) (slave-opened (get_or words i []))))

-- ---- a batch becomes live

take-next : (own entries : List Entry) (durable : ℕ) → durable ≤ length own → take (length entries) (drop durable own) ≡ entries → take (durable + length entries) own ≡ take durable own ++ entries
take-next own entries durable few is =
    let n = length entries in
    let long : length (take durable own) ≡ durable = length-take-le durable own few in
    ap (take (durable + n)) (sym (take-append-drop durable own)) ∙ ap (λ (k : ℕ). take (k + n) (take durable own ++ drop durable own)) (sym long)
    ∙ take-append-add (take durable own) (drop durable own) n ∙ ap (λ (l : List Entry). take durable own ++ l) is

named-next : (found own entries : List Entry) (durable i : ℕ) → durable ≤ length own → take (length entries) (drop durable own) ≡ entries
    → named_for (found ++ take durable own) i + length (namings (runs_of entries) i) ≡ named_for (found ++ take (durable + length entries) own) i
named-next found own entries durable i few is =
    let now = found ++ take durable own in
    let all : found ++ take (durable + length entries) own ≡ now ++ entries = ap (λ (l : List Entry). found ++ l) (take-next own entries durable few is) ∙ sym (append_assoc found (take durable own) entries) in
    let both : namings (runs_of (now ++ entries)) i ≡ namings (runs_of now) i ++ namings (runs_of entries) i = ap (λ (l : List Run). namings l i) (runs_of-append now entries) ∙ namings-append (runs_of now) (runs_of entries) i in
    sym (ap (λ (l : List Entry). named_for l i) all ∙ ap length both ∙ length-append (namings (runs_of now) i) (namings (runs_of entries) i))

worn-live : (book : Book) (place : Place) (entries : List Entry) → book.durable ≤ length (own book) → Appending book place entries → Worn book → Worn (went_on (rested book) (OpenSync place entries))
worn-live book place entries few appends worn = λ i within.
    let inside : i < length book.slaves = omega (arith, within, length-owing_slaves (runs_of entries) 0 book.slaves) in
    subst (λ (n : ℕ). SlaveWorn n (is_some book.fault) (get_or (owing_slaves (runs_of entries) 0 book.slaves) i nobody)) (named-next book.found (own book) entries book.durable i few appends.next)
    (slave-owes (named_for (all_entries book) i) (is_some book.fault) (runs_of entries) book.slaves i inside (worn i inside))

worn-went : (frame : JournalFrame) (book : Book) (state : State) (took : List Bool) (m : Machine) → Up frame book state took m → Worn book → (doing : Doing) → book.doing ≡ doing → Worn (went_on (rested book) doing)
worn-went frame book state took m up worn Resting is = worn
worn-went frame book state took m up worn (Payload place entries) is = worn
worn-went frame book state took m up worn (PayloadSync place entries) is = worn
worn-went frame book state took m up worn (OpenGate place entries) is = worn
worn-went frame book state took m up worn (OpenSync place entries) is = worn-live book place entries up.fits.durable_few (appends-of frame book state.disk place entries is book.form up.disk) worn
worn-went frame book state took m up worn CloseGate is = worn
worn-went frame book state took m up worn CloseSync is = worn
worn-went frame book state took m up worn FarGate is = worn
worn-went frame book state took m up worn Mark is = worn
worn-went frame book state took m up worn MarkSync is = worn
worn-went frame book state took m up worn Version is = worn
worn-went frame book state took m up worn VersionSync is = worn

-- ---- the disk

worn-back : (frame : JournalFrame) (book : Book) (state : State) (took : List Bool) (m : Machine) (result : Result (Unit {0}) DeviceFault) (out : Bool) → Up frame book state took m → Worn book → book.is_handed_out ≡ out → Worn (disk_done book result)
worn-back frame book state took m result false up worn out =
    let same : disk_done book result ≡ book = rw out refl in
    subst Worn (sym same) worn
worn-back frame book state took m (Ok done) true up worn out =
    let is : disk_done book (Ok done) ≡ went_on (rested book) book.doing = rw out refl in
    subst Worn (sym is) (worn-went frame book state took m up worn book.doing refl)
worn-back frame book state took m (Err device.Disk) true up worn out =
    let is : disk_done book (Err device.Disk) ≡ with_fault (rested book) faults.Disk = rw out refl in
    subst Worn (sym is) (worn-fault (rested book) faults.Disk worn)
worn-back frame book state took m (Err device.Stopped) true up worn out =
    let is : disk_done book (Err device.Stopped) ≡ with_fault (rested book) faults.Stopped = rw out refl in
    subst Worn (sym is) (worn-fault (rested book) faults.Stopped worn)
worn-back frame book state took m (Err device.Lost) true up worn out =
    let is : disk_done book (Err device.Lost) ≡ book = rw out refl in
    subst Worn (sym is) worn

pub worn-disk_done : (frame : JournalFrame) (book : Book) (state : State) (took : List Bool) (m : Machine) (result : Result (Unit {0}) DeviceFault) → Up frame book state took m → Worn book → Worn (disk_done book result)
worn-disk_done frame book state took m result up worn = worn-back frame book state took m result book.is_handed_out up worn refl

pub worn-disk_next : (book : Book) → Worn book → Worn (disk_next book).1
worn-disk_next book worn = by_out book.is_handed_out refl
  where
    by_action : (action : Option DiskNext) → book.is_handed_out ≡ false → is_some book.fault ≡ false → action_of book (doing_next book book.doing) ≡ action → Worn (disk_next book).1
    by_action None out ok is = let same : (disk_next book).1 ≡ book = rw (out, ok, is) refl in subst Worn (sym same) worn
    by_action (Some action) out ok is =
        let goes : (disk_next book).1 ≡ record book { doing = doing_next book book.doing; is_handed_out = true } = rw (out, ok, is) refl in
        subst Worn (sym goes) worn

    by_fault : (failed : Bool) → book.is_handed_out ≡ false → is_some book.fault ≡ failed → Worn (disk_next book).1
    by_fault true out ok = let same : (disk_next book).1 ≡ book = rw (out, ok) refl in subst Worn (sym same) worn
    by_fault false out ok = by_action (action_of book (doing_next book book.doing)) out ok refl

    by_out : (out : Bool) → book.is_handed_out ≡ out → Worn (disk_next book).1
    by_out true out = let same : (disk_next book).1 ≡ book = rw out refl in subst Worn (sym same) worn
    by_out false out = by_fault (is_some book.fault) out refl

-- ---- the callers

pub worn-command : (book : Book) (command : Command) → book.durable ≤ length (own book) → Worn book → Worn (with_command book command)
worn-command book command few worn = λ i within.
    let more = entries-push 0 (base_of book) book.accepted command in
    let same : take book.durable (own (with_command book command)) ≡ take book.durable (own book) = ap (take book.durable) more ∙ take-append-le book.durable (own book) _ few in
    subst (λ (l : List Entry). SlaveWorn (named_for (book.found ++ l) i) (is_some book.fault) (slave_at book i)) (sym same) (worn i within)

pub worn-migrate : (book : Book) → Worn book → Worn (migrate book).1
worn-migrate book worn = by_form (is_closed book) (is_version_2 book.form) refl refl
  where
    by_form : (closed two : Bool) → is_closed book ≡ closed → is_version_2 book.form ≡ two → Worn (migrate book).1
    by_form true two closed form = let same : (migrate book).1 ≡ book = rw closed refl in subst Worn (sym same) worn
    by_form false true closed form = let same : (migrate book).1 ≡ book = rw (closed, form) refl in subst Worn (sym same) worn
    by_form false false closed form = let goes : (migrate book).1 ≡ record book { is_migrating = true } = rw (closed, form) refl in subst Worn (sym goes) worn

-- ---- a slave

module _ (frame : JournalFrame) (book : Book) (state : State) (took : List Bool) (m : Machine) (i : ℕ) (up : Up frame book state took m) (within : i < length book.slaves) (worn : Worn book) where
  worn-issue : (w : ℕ × ℕ) (others : List (ℕ × ℕ)) → (slave_at book i).operation ≡ NoOperation → is_some book.fault ≡ false → to_do book i ≡ w ∷ others → Worn (with_issue book i w)
  worn-issue w others vacant ok todo =
      let owed = to_do-owed frame book state took m i w others up within todo in
      let slave = slave_at book i in
      let named = named_for (all_entries book) i in
      worn-set book i (record { cells = set slave.cells w.0 (asked (cell_of slave.cells w.0)); operation = Issuing w.0 w.1; issues = slave.issues + 1 }) within worn
      (worn-asked named slave w.0 w.1 (is_some book.fault) vacant owed.0 (among-some w.1 (cell_of slave.cells w.0).owed owed.1) (subst (λ (failed : Bool). SlaveWorn named failed slave) ok (worn i within)))

  worn-as : (operation : Operation) → ((at : ℕ) → IsAbout (slave_at book i).operation at → IsAbout operation at) → Worn (with_operation book i operation)
  worn-as operation same =
      worn-set book i (record (slave_at book i) { operation = operation }) within worn (worn-operation (named_for (all_entries book) i) (is_some book.fault) (slave_at book i) operation same (worn i within))

  worn-down : (fault : Fault) → Worn (with_fault (with_operation book i NoOperation) fault)
  worn-down fault =
      worn-set (with_fault book fault) i (record (slave_at book i) { operation = NoOperation }) within (worn-fault book fault worn) (worn-failed (named_for (all_entries book) i) (is_some book.fault) (slave_at book i) NoOperation (worn i within))

  stays : (rom_next book i).1 ≡ book → Worn (rom_next book i).1
  stays same = subst Worn (sym same) worn

  asked-vacant : (failed : Bool) (work : List (ℕ × ℕ)) → nat_lt i (length book.slaves) ≡ true → (slave_at book i).operation ≡ NoOperation → is_some book.fault ≡ failed → to_do book i ≡ work → Worn (rom_next book i).1
  asked-vacant true work there is ok todo = stays (rw (there, is, ok) refl)
  asked-vacant false [] there is ok todo = stays (rw (there, is, ok, todo) refl)
  asked-vacant false (w ∷ others) there is ok todo =
      let goes : (rom_next book i).1 ≡ with_issue book i w = rw (there, is, ok, todo) refl in
      subst Worn (sym goes) (worn-issue w others is ok todo)

  asked-unsettled : (word value : ℕ) (taken failed : Bool) → nat_lt i (length book.slaves) ≡ true → (slave_at book i).operation ≡ Unsettled word value taken → is_some book.fault ≡ failed → Worn (rom_next book i).1
  asked-unsettled word value taken true there is ok = stays (rw (there, is, ok) refl)
  asked-unsettled word value taken false there is ok =
      let goes : (rom_next book i).1 ≡ with_operation book i (Settling word value taken) = rw (there, is, ok) refl in
      subst Worn (sym goes) (worn-as (Settling word value taken) (λ at of. subst (λ (e : Operation). IsAbout e at) is of))

  asked-as : (operation : Operation) → nat_lt i (length book.slaves) ≡ true → (slave_at book i).operation ≡ operation → Worn (rom_next book i).1
  asked-as NoOperation there is = asked-vacant (is_some book.fault) (to_do book i) there is refl refl
  asked-as (Issuing word value) there is = stays (rw (there, is) refl)
  asked-as (Unsettled word value taken) there is = asked-unsettled word value taken (is_some book.fault) there is refl
  asked-as (Settling word value taken) there is = stays (rw (there, is) refl)

  pub worn-rom_next : Worn (rom_next book i).1
  worn-rom_next = asked-as (slave_at book i).operation (grind (arith, nat_tests)) refl

  -- what is asked of the slave is owed to it
  settles : (word value : ℕ) (taken : Bool) → (slave_at book i).operation ≡ Settling word value taken → (word < length (slave_at book i).cells) × IsAmong value (cell_of (slave_at book i).cells word).owed
  settles word value taken is =
      let h = half-there state.halves i (omega (arith, within, up.slaves.count)) in
      let asks : Asks i word value taken h.0 (slave_at book i).cells = subst (λ (e : Operation). OperationFits i e (get_or took i false) h.0 (slave_at book i).cells) is (up.slaves.each i h.0 h.1).asks in
      (asks.inside, asks.owed)

  again-as : (word value : ℕ) (taken last : Bool) → (slave_at book i).operation ≡ Settling word value taken → is_last (cell_of (slave_at book i).cells word).known ≡ last → Worn (with_again book i word)
  again-as word value taken true is last =
      let goes : with_again book i word ≡ with_fault (with_operation book i NoOperation) (faults.SlaveDead i) = rw last refl in
      subst Worn (sym goes) (worn-down (faults.SlaveDead i))
  again-as word value taken false is last =
      let goes : with_again book i word ≡ with_operation book i NoOperation = rw last refl in
      subst Worn (sym goes) (worn-set book i (record (slave_at book i) { operation = NoOperation }) within worn (worn-again (named_for (all_entries book) i) (is_some book.fault) (slave_at book i) word value taken is last (worn i within)))

  unchanged : (outcome : RomOutcome) → rom_done book i outcome ≡ book → Worn (rom_done book i outcome)
  unchanged outcome same = subst Worn (sym same) worn

  back-as : (operation : Operation) (outcome : RomOutcome) → (slave_at book i).operation ≡ operation → Worn (rom_done book i outcome)
  back-as NoOperation outcome is = unchanged outcome (rw is refl)
  back-as (Unsettled word value taken) outcome is = unchanged outcome (rw is refl)
  back-as (Issuing word value) (outcomes.Issued how) is =
      let goes : rom_done book i (outcomes.Issued how) ≡ with_operation book i (Unsettled word value (was_taken how)) = rw is refl in
      subst Worn (sym goes) (worn-as (Unsettled word value (was_taken how)) (λ at of. subst (λ (e : Operation). IsAbout e at) is of))
  back-as (Issuing word value) (outcomes.Settled how) is = unchanged (outcomes.Settled how) (rw is refl)
  back-as (Issuing word value) outcomes.Stopped is =
      let goes : rom_done book i outcomes.Stopped ≡ with_fault (with_operation book i NoOperation) faults.Stopped = rw is refl in
      subst Worn (sym goes) (worn-down faults.Stopped)
  back-as (Settling word value taken) (outcomes.Issued how) is = unchanged (outcomes.Issued how) (rw is refl)
  back-as (Settling word value taken) (outcomes.Settled settled.Written) is =
      let goes : rom_done book i (outcomes.Settled settled.Written) ≡ with_written book i word value = rw is refl in
      let s = settles word value taken is in
      subst Worn (sym goes) (worn-set book i _ within worn (worn-written (named_for (all_entries book) i) (is_some book.fault) (slave_at book i) word value taken is s.0 s.1 (worn i within)))
  back-as (Settling word value taken) (outcomes.Settled settled.Again) is =
      let goes : rom_done book i (outcomes.Settled settled.Again) ≡ with_again book i word = rw is refl in
      subst Worn (sym goes) (again-as word value taken (is_last (cell_of (slave_at book i).cells word).known) is refl)
  back-as (Settling word value taken) (outcomes.Settled settled.Dead) is =
      let goes : rom_done book i (outcomes.Settled settled.Dead) ≡ with_fault (with_operation book i NoOperation) (faults.SlaveDead i) = rw is refl in
      subst Worn (sym goes) (worn-down (faults.SlaveDead i))
  back-as (Settling word value taken) outcomes.Stopped is =
      let goes : rom_done book i outcomes.Stopped ≡ with_fault (with_operation book i NoOperation) faults.Stopped = rw is refl in
      subst Worn (sym goes) (worn-down faults.Stopped)

  pub worn-rom_done : (outcome : RomOutcome) → Worn (rom_done book i outcome)
  worn-rom_done outcome = back-as (slave_at book i).operation outcome refl

-- ---- what follows

-- those that are durable are accepted
few-named : (book : Book) (i : ℕ) → named_for (all_entries book) i ≤ named_for (book.found ++ own book) i
few-named book i =
    let now = book.found ++ take book.durable (own book) in
    let rest = drop book.durable (own book) in
    let all : book.found ++ own book ≡ now ++ rest = ap (λ (l : List Entry). book.found ++ l) (sym (take-append-drop book.durable (own book))) ∙ sym (append_assoc book.found (take book.durable (own book)) rest) in
    let both : namings (runs_of (now ++ rest)) i ≡ namings (runs_of now) i ++ namings (runs_of rest) i = ap (λ (l : List Run). namings l i) (runs_of-append now rest) ∙ namings-append (runs_of now) (runs_of rest) i in
    omega (arith, ap (λ (l : List Entry). named_for l i) all, ap length both, length-append (namings (runs_of now) i) (namings (runs_of rest) i))

pub worn-few : (book : Book) (i : ℕ) → Worn book → i < length book.slaves → (slave_at book i).issues ≤ 3 * named_for (book.found ++ own book) i
worn-few book i worn within = omega (arith, few-issues (named_for (all_entries book) i) (is_some book.fault) (slave_at book i) (worn i within), few-named book i)
