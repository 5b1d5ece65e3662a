-- What holds of one slave at each call of its book, whatever the other slaves do.
use Rattle.std.proofs.Common.{◌≡◌, ◌∙◌, ℕ, zero, suc, ◌+◌, ◌<◌, ◌≤◌, Bool, true, false, List, [], ◌∷◌, ◌++◌, length, map, take, drop, get_or, set, refl, sym, ap, subst, arith, add-zero, zero-add, add-suc, suc-add, length-append, length-drop, length-set, append_assoc, Option, Result, Ok, Err}
use Rattle.std.specs.Prelude.{is_some, All}
use Rattle.std.proofs.lemmas.List.{append-nil, get_or-set_same, length-map, length-take, take-append-le}
use Rattle.std.proofs.lemmas.List.Elements.{All-head, filter_passes}
use Rattle.std.proofs.Math.Seq.{take-add}
use Rattle.sii_words.specs.Plant.{words_of}
use Rattle.sii_words.specs.declared.run.Run.{Run}
use Rattle.sii_edit.specs.declared.command.Command.{Command}
use Rattle.jrn_format.specs.declared.journal.Entry.{Entry}
use Rattle.jrn_format.specs.declared.journal.Journal.{Journal}
use Rattle.esc_model.specs.SlaveHalf.{SlaveHalf}
use Rattle.esc_model.specs.WordAccess.{IsIdle}
use Rattle.site_core.specs.declared.fault.DeviceFault.{DeviceFault}
use Rattle.site_core.specs.declared.fault.DeviceFault.TheVariants.{Disk, Lost, Stopped}
use Rattle.book_model.specs.Cells.{is_any, opened, cell_of}
use Rattle.book_model.specs.declared.next.DiskNext.{DiskNext}
use Rattle.book_model.specs.declared.fault.Fault.{Fault}
use Rattle.book_model.specs.declared.fault.Fault.TheVariants as faults
use Rattle.book_model.specs.Book.{Book, Slave, Doing, Resting, Payload, PayloadSync, OpenGate, OpenSync, CloseGate, CloseSync, FarGate, Mark, MarkSync, Version, VersionSync, NoOperation, own, base_of, appended, nobody, slave_at, with_fault}
use Rattle.book_model.specs.Open.{opened_slave, open_book, owing_words, owing_slaves}
use Rattle.book_model.specs.Submit.{with_command}
use Rattle.book_model.specs.DiskSteps.{disk_next, went_on, disk_done}
use Rattle.book_model.specs.RomSteps.{to_do}
use Rattle.book_model.specs.Entries.{runs_of, namings, live_runs}
use Rattle.book_model.specs.Pending.{last_of}
use Rattle.jrn_format.specs.Halves.{Place, live}
use Rattle.book_model.specs.Reading.{all_entries}
use Rattle.book_model.proofs.CommandLaws.{entry_after, entries-push}
use Rattle.book_model.proofs.FitLaws.{runs_of-append}
use Rattle.book_model.proofs.OwingLaws.{length-owing_slaves}
use Rattle.book_model.proofs.WorkLaws.{owed-inside, some-of}
use Rattle.book_model.specs.Events.{rested}
use Rattle.desk_book.proofs.OutLaws.{DiskNexts, disk_rests, disk_goes, nexts-of}
use Rattle.desk_laws.specs.Turns.{AppendsNext}
use Rattle.desk_laws.proofs.GoesLaws.{command-on, disk-asked-on, disk-reported-on}
use Rattle.desk_laws.proofs.FallLaws.{resting-next}
use Rattle.desk_laws.proofs.HalfLaws.{HalfFits, half-opened, half-same}
use Rattle.desk_laws.proofs.WordLaws.{WordsFit, words-opened, words-live, same-owing}
use Rattle.book_model.proofs.WornBooks.{owing-slave}

-- the runs of all entries that have been live since the open
abbrev pub all_runs : Book → List Run
all_runs book = runs_of (all_entries book)

-- the words of this slave, as the book has them, and its half
pub record Stands (i : ℕ) (book : Book) (half : SlaveHalf) : Type 0 where
  pub appends : AppendsNext book
  pub few : book.durable ≤ length (own book)
  pub plant : i < length book.words
  pub inside : i < length book.slaves
  pub words : WordsFit i (words_of book.words i) (all_runs book) (slave_at book i).cells
  pub fits : HalfFits i half (slave_at book i).operation (slave_at book i).cells

-- ---- a batch that becomes live, for one slave

slave-owing : (runs : List Run) (slaves : List Slave) (i : ℕ) → i < length slaves → get_or (owing_slaves runs 0 slaves) i nobody ≡ record (get_or slaves i nobody) { cells = owing_words runs i 0 (get_or slaves i nobody).cells }
slave-owing runs slaves i within = rw zero-add at (owing-slave runs 0 slaves i within)

-- ---- at the open

slave-read : (words : List (List ℕ)) (i : ℕ) → i < length words → get_or (map opened_slave words) i nobody ≡ opened_slave (words_of words i)
slave-read [] i within = absurd (omega arith)
slave-read (w ∷ words) zero within = refl
slave-read (w ∷ words) (suc i) within = slave-read words i (omega arith)

-- the slave as a book that is opened has it
slave-opened : (words : List (List ℕ)) (runs : List Run) (i : ℕ) → i < length words
    → get_or (owing_slaves runs 0 (map opened_slave words)) i nobody ≡ record (opened_slave (words_of words i)) { cells = owing_words runs i 0 (map opened (words_of words i)) }
slave-opened words runs i within =
    slave-owing runs (map opened_slave words) i (omega (arith, within, length-map words opened_slave)) ∙ ap (λ (s : Slave). record s { cells = owing_words runs i 0 s.cells }) (slave-read words i within)

pub opened-vacant : (words : List (List ℕ)) (capacity : ℕ) (journal : Journal) (i : ℕ) → i < length words → (slave_at (open_book words capacity journal) i).operation ≡ NoOperation
opened-vacant words capacity journal i within = ap (λ (s : Slave). s.operation) (slave-opened words (runs_of (open_book words capacity journal).found) i within)

pub stands-opened : (words : List (List ℕ)) (capacity : ℕ) (journal : Journal) (i : ℕ) (half : SlaveHalf) → i < length words → IsIdle half → half.words ≡ words_of words i
    → Stands i (open_book words capacity journal) half
stands-opened words capacity journal i half within idle holds =
    let book = open_book words capacity journal in
    let runs = runs_of book.found in
    let read = map opened_slave words in
    let count : length read ≡ length words = length-map words opened_slave in
    let slave = slave-opened words runs i within in
    let cells = owing_words runs i 0 (map opened (words_of words i)) in
    let all : all_entries book ≡ book.found = append-nil book.found in
    record {
      appends = resting-next book refl;
      few = omega arith;
      plant = within;
      inside = omega (arith, within, count, length-owing_slaves runs 0 read);
      words = subst (λ (s : Slave). WordsFit i (words_of words i) (all_runs book) s.cells) (sym slave)
          (subst (λ (es : List Entry). WordsFit i (words_of words i) (runs_of es) cells) (sym all) (words-live i (words_of words i) [] runs (map opened (words_of words i)) (words-opened i (words_of words i))));
      fits = subst (λ (s : Slave). HalfFits i half s.operation s.cells) (sym slave)
          (half-same i NoOperation half (map opened (words_of words i)) cells (same-owing runs i (map opened (words_of words i))) (subst (λ (w : List ℕ). HalfFits i half NoOperation (map opened w)) holds (half-opened i half idle)));
    }

-- ---- a call that leaves the slaves and the entries as they are

pub record Quiet (book later : Book) : Type 0 where
  pub words : later.words ≡ book.words
  pub found : later.found ≡ book.found
  pub accepted : later.accepted ≡ book.accepted
  pub durable : later.durable ≡ book.durable
  pub slaves : later.slaves ≡ book.slaves

stands-quiet : (i : ℕ) (book later : Book) (half : SlaveHalf) → Quiet book later → AppendsNext later → Stands i book half → Stands i later half
stands-quiet i book later half quiet appends stands = record {
  appends = appends;
  few = rw (quiet.words, quiet.found, quiet.accepted, quiet.durable) stands.few;
  plant = rw quiet.words stands.plant;
  inside = rw quiet.slaves stands.inside;
  words = rw (quiet.words, quiet.found, quiet.accepted, quiet.durable, quiet.slaves) stands.words;
  fits = rw quiet.slaves stands.fits;
}

-- a command is accepted
pub stands-command : (i : ℕ) (book : Book) (command : Command) (half : SlaveHalf) → Stands i book half → Stands i (with_command book command) half
stands-command i book command half stands =
    let pushed = entries-push 0 (base_of book) book.accepted command in
    let last = entry_after 0 (base_of book) book.accepted command ∷ [] in
    let all : all_entries (with_command book command) ≡ all_entries book =
    ap (λ (l : List Entry). book.found ++ take book.durable l) pushed ∙ ap (λ (l : List Entry). book.found ++ l) (take-append-le book.durable (own book) last stands.few) in
    record {
      appends = (command-on book command).appends stands.appends;
      few = omega (arith, stands.few, ap length pushed, length-append (own book) last);
      plant = stands.plant;
      inside = stands.inside;
      words = subst (λ (es : List Entry). WordsFit i (words_of book.words i) (runs_of es) (slave_at book i).cells) (sym all) stands.words;
      fits = stands.fits;
    }

-- the disk is asked for
pub stands-asked : (i : ℕ) (book : Book) (half : SlaveHalf) → Stands i book half → Stands i (disk_next book).1 half
stands-asked i book half stands = from (nexts-of book)
  where
    from : DiskNexts book → Stands i (disk_next book).1 half
    from (disk_rests answer none is) = subst (λ (a : DiskNext × Book). Stands i a.1 half) (sym is) stands
    from (disk_goes action is) =
        stands-quiet i book (disk_next book).1 half
        (record { words = ap (λ (a : DiskNext × Book). a.1.words) is; found = ap (λ (a : DiskNext × Book). a.1.found) is; accepted = ap (λ (a : DiskNext × Book). a.1.accepted) is; durable = ap (λ (a : DiskNext × Book). a.1.durable) is; slaves = ap (λ (a : DiskNext × Book). a.1.slaves) is })
        ((disk-asked-on book).appends stands.appends) stands

-- ---- the book after an outcome of the disk

-- the slaves stay the same, or a batch becomes live; a fault stays
data DiskBack (book later : Book) : Type 0 where
  quiet : Quiet book later → (is_some book.fault ≡ true → is_some later.fault ≡ true) → DiskBack book later
  lives : (place : Place) (entries : List Entry) → book.doing ≡ OpenSync place entries → later ≡ went_on (rested book) (OpenSync place entries) → DiskBack book later

unchanged : (book : Book) → Quiet book book
unchanged book = record { words = refl; found = refl; accepted = refl; durable = refl; slaves = refl }

went-back : (book : Book) (doing : Doing) → book.doing ≡ doing → DiskBack book (went_on (rested book) doing)
went-back book Resting is = quiet (record { words = refl; found = refl; accepted = refl; durable = refl; slaves = refl }) (λ has. has)
went-back book (Payload place entries) is = quiet (record { words = refl; found = refl; accepted = refl; durable = refl; slaves = refl }) (λ has. has)
went-back book (PayloadSync place entries) is = quiet (record { words = refl; found = refl; accepted = refl; durable = refl; slaves = refl }) (λ has. has)
went-back book (OpenGate place entries) is = quiet (record { words = refl; found = refl; accepted = refl; durable = refl; slaves = refl }) (λ has. has)
went-back book (OpenSync place entries) is = lives place entries is refl
went-back book CloseGate is = quiet (record { words = refl; found = refl; accepted = refl; durable = refl; slaves = refl }) (λ has. has)
went-back book CloseSync is = quiet (record { words = refl; found = refl; accepted = refl; durable = refl; slaves = refl }) (λ has. has)
went-back book FarGate is = quiet (record { words = refl; found = refl; accepted = refl; durable = refl; slaves = refl }) (λ has. has)
went-back book Mark is = quiet (record { words = refl; found = refl; accepted = refl; durable = refl; slaves = refl }) (λ has. has)
went-back book MarkSync is = quiet (record { words = refl; found = refl; accepted = refl; durable = refl; slaves = refl }) (λ has. has)
went-back book Version is = quiet (record { words = refl; found = refl; accepted = refl; durable = refl; slaves = refl }) (λ has. has)
went-back book VersionSync is = quiet (record { words = refl; found = refl; accepted = refl; durable = refl; slaves = refl }) (λ has. has)

fault-back : (book : Book) (why : Fault) → DiskBack book (with_fault (rested book) why)
fault-back book why = quiet (record { words = refl; found = refl; accepted = refl; durable = refl; slaves = refl }) (λ has. refl)

reported-back : (book : Book) (out : Bool) (result : Result (Unit {0}) DeviceFault) → book.is_handed_out ≡ out → DiskBack book (disk_done book result)
reported-back book false result o = let is : disk_done book result ≡ book = rw o refl in subst (DiskBack book) (sym is) (quiet (unchanged book) (λ has. has))
reported-back book true (Ok done) o = let is : disk_done book (Ok done) ≡ went_on (rested book) book.doing = rw o refl in subst (DiskBack book) (sym is) (went-back book book.doing refl)
reported-back book true (Err Disk) o = let is : disk_done book (Err Disk) ≡ with_fault (rested book) faults.Disk = rw o refl in subst (DiskBack book) (sym is) (fault-back book faults.Disk)
reported-back book true (Err Stopped) o = let is : disk_done book (Err Stopped) ≡ with_fault (rested book) faults.Stopped = rw o refl in subst (DiskBack book) (sym is) (fault-back book faults.Stopped)
reported-back book true (Err Lost) o = let is : disk_done book (Err Lost) ≡ book = rw o refl in subst (DiskBack book) (sym is) (quiet (unchanged book) (λ has. has))

stands-live : (i : ℕ) (book : Book) (half : SlaveHalf) (place : Place) (entries : List Entry) → book.doing ≡ OpenSync place entries → AppendsNext (went_on (rested book) (OpenSync place entries)) → Stands i book half
    → Stands i (went_on (rested book) (OpenSync place entries)) half
stands-live i book half place entries is appends stands =
    let later = went_on (rested book) (OpenSync place entries) in
    let runs = runs_of entries in
    let cells = (slave_at book i).cells in
    let next : take (length entries) (drop book.durable (own book)) ≡ entries = stands.appends place entries (ap appended is) in
    let slave : slave_at later i ≡ record (slave_at book i) { cells = owing_words runs i 0 cells } = slave-owing runs book.slaves i stands.inside in
    let all : all_entries later ≡ all_entries book ++ entries =
    ap (λ (l : List Entry). book.found ++ l) (take-add book.durable (length entries) (own book) ∙ ap (λ (l : List Entry). take book.durable (own book) ++ l) next)
    ∙ sym (append_assoc book.found (take book.durable (own book)) entries) in
    record {
      appends = appends;
      few = omega (arith, stands.few, ap length next, length-take (length entries) (drop book.durable (own book)), length-drop book.durable (own book));
      plant = stands.plant;
      inside = omega (arith, stands.inside, length-owing_slaves runs 0 book.slaves);
      words = subst (λ (s : Slave). WordsFit i (words_of book.words i) (all_runs later) s.cells) (sym slave)
          (subst (λ (r : List Run). WordsFit i (words_of book.words i) r (owing_words runs i 0 cells)) (sym (ap runs_of all ∙ runs_of-append (all_entries book) entries)) (words-live i (words_of book.words i) (all_runs book) runs cells stands.words));
      fits = subst (λ (s : Slave). HalfFits i half s.operation s.cells) (sym slave) (half-same i (slave_at book i).operation half cells (owing_words runs i 0 cells) (same-owing runs i cells) stands.fits);
    }

pub stands-reported : (i : ℕ) (book : Book) (result : Result (Unit {0}) DeviceFault) (half : SlaveHalf) → Stands i book half → Stands i (disk_done book result) half
stands-reported i book result half stands = from (reported-back book book.is_handed_out result refl)
  where
    appends : AppendsNext (disk_done book result)
    appends = (disk-reported-on book result stands.appends).appends stands.appends

    from : DiskBack book (disk_done book result) → Stands i (disk_done book result) half
    from (quiet same failed) = stands-quiet i book (disk_done book result) half same appends stands
    from (lives place entries doing is) =
        subst (λ (b : Book). Stands i b half) (sym is) (stands-live i book half place entries doing (subst AppendsNext is appends) stands)

pub reported-failed : (book : Book) (result : Result (Unit {0}) DeviceFault) → is_some book.fault ≡ true → is_some (disk_done book result).fault ≡ true
reported-failed book result has = from (reported-back book book.is_handed_out result refl)
  where
    from : DiskBack book (disk_done book result) → is_some (disk_done book result).fault ≡ true
    from (quiet same stays) = stays has
    from (lives place entries doing is) = ap (λ (b : Book). is_some b.fault) is ∙ has

-- ---- the slave itself goes on

pub stands-slave : (i : ℕ) (book later : Book) (slave : Slave) (fault : Option Fault) (half : SlaveHalf) (old : SlaveHalf) → later ≡ record book { slaves = set book.slaves i slave; fault = fault } → Stands i book old
    → WordsFit i (words_of book.words i) (all_runs book) slave.cells → HalfFits i half slave.operation slave.cells → Stands i later half
stands-slave i book later slave fault half old is stands words fits =
    let here : get_or (set book.slaves i slave) i nobody ≡ slave = get_or-set_same book.slaves i slave nobody stands.inside in
    subst (λ (b : Book). Stands i b half) (sym is)
    (record {
      appends = stands.appends;
      few = stands.few;
      plant = stands.plant;
      inside = omega (arith, stands.inside, length-set book.slaves i slave);
      words = subst (λ (s : Slave). WordsFit i (words_of book.words i) (all_runs book) s.cells) (sym here) words;
      fits = subst (λ (s : Slave). HalfFits i half s.operation s.cells) (sym here) fits;
    })

-- another one does
pub stands-separate : (i : ℕ) (book later : Book) (j : ℕ) (slave : Slave) (fault : Option Fault) (half : SlaveHalf) → later ≡ record book { slaves = set book.slaves j slave; fault = fault } → slave_at later i ≡ slave_at book i
    → Stands i book half → Stands i later half
stands-separate i book later j slave fault half is same stands =
    let here : slave_at (record book { slaves = set book.slaves j slave; fault = fault }) i ≡ slave_at book i = ap (λ (b : Book). slave_at b i) (sym is) ∙ same in
    subst (λ (b : Book). Stands i b half) (sym is)
    (record {
      appends = stands.appends;
      few = stands.few;
      plant = stands.plant;
      inside = omega (arith, stands.inside, length-set book.slaves j slave);
      words = subst (λ (s : Slave). WordsFit i (words_of book.words i) (all_runs book) s.cells) (sym here) stands.words;
      fits = subst (λ (s : Slave). HalfFits i half s.operation s.cells) (sym here) stands.fits;
    })

-- ---- a word that is to be done

-- it is one of the slave's, and is owed something
pub to-do-owed : (book : Book) (i : ℕ) (w : ℕ × ℕ) (others : List (ℕ × ℕ)) → to_do book i ≡ w ∷ others → (w.0 < length (slave_at book i).cells) × (0 < length (cell_of (slave_at book i).cells w.0).owed)
to-do-owed book i w others is =
    let cells = (slave_at book i).cells in
    let test : ℕ × ℕ → Bool = λ n. is_any (cell_of cells n.0).owed in
    let passes = λ (n : ℕ × ℕ). test n ≡ true in
    let some = All-head passes w others (subst (All passes) is (filter_passes test (last_of (namings (live_runs (live book.halves)) i)))) in
    (owed-inside cells w.0 some, some-of (cell_of cells w.0).owed some)
