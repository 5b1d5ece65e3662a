-- Once everything is settled, a slave reads as the contents after all accepted commands.
use Rattle.std.proofs.Common.{◌≡◌, ◌∙◌, inl, inr, ℕ, ◌<◌, true, List, length, take, sym, ap, subst, arith, Some}
use Rattle.std.specs.Prelude.{is_some, not, ◌&&◌, ◌==◌, slice_get}
use Rattle.std.proofs.lemmas.List.{take_all}
use Rattle.std.proofs.lemmas.Option.{slice_get_within}
use Rattle.std.proofs.lemmas.Bool.{not-true}
use Rattle.std.proofs.lemmas.Bool.Decides.{nat_tests}
use Rattle.sii_words.specs.Plant.{words_of}
use Rattle.sii_words.specs.declared.run.Run.{Run}
use Rattle.sii_words.specs.Redo.{redone}
use Rattle.sii_words.proofs.RedoLaws.{redone-append}
use Rattle.sii_edit.specs.declared.command.Command.{Command}
use Rattle.sii_edit.specs.Fold.{contents}
use Rattle.esc_model.specs.SlaveHalf.{SlaveHalf, MayLeave}
use Rattle.esc_model.proofs.Resting.{MayLeave-same, length-MayLeave}
use Rattle.site_core.specs.State.{State, Seen}
use Rattle.book_model.specs.Cells.{Cell, cell_of}
use Rattle.book_model.proofs.SettledLaws.{and-left, and-right}
use Rattle.book_model.specs.Entries.{runs_of}
use Rattle.book_model.specs.Book.{Book, Operation, NoOperation, Issuing, Unsettled, Settling, base_of, contents_of, own, all_cells, slave_at}
use Rattle.book_model.specs.Reading.{all_entries, settled_prefix}
use Rattle.book_model.proofs.BookLaws.{cells_of, length-all_cells}
use Rattle.book_model.proofs.CommandLaws.{entries-contents}
use Rattle.book_model.proofs.FitLaws.{runs_of-append}
use Rattle.book_core.specs.Settled.{is_settled}
use Rattle.station_jobs.specs.declared.log.SlaveLog.{SlaveLog}
use Rattle.station_jobs.specs.Ends.{Stay}
use Rattle.station_jobs.specs.Working.{IsWorked}
use Rattle.desk_book.specs.declared.call.Call.{Call}
use Rattle.desk_book.specs.Calls.{replayed, AreAnswered, IsOut}
use Rattle.desk_book.specs.Closing.{AreWorkersOf, AllWorked, is_served}
use Rattle.desk_book.specs.Logs.{RomEntry, rom_log}
use Rattle.desk_book.proofs.CountLaws.{each-slave}
use Rattle.desk_laws.specs.Slaves.{IsJustOpened, IsAsOpened, ReadsAsContents, AllReadAsContents}
use Rattle.desk_laws.proofs.HalfLaws.{HalfFits, IsAsked, IsIssued}
use Rattle.desk_laws.proofs.WordLaws.{WordsFit, IsSettledWord, unsure-owes, words-lead, all-settled}
use Rattle.desk_laws.proofs.StandLaws.{Stands, all_runs, stands-opened, opened-vacant}
use Rattle.desk_laws.proofs.HalfWork.{led-to-end}
use Rattle.desk_laws.proofs.Courses.{job-is_out, EndsOut, course-of}
use Rattle.desk_laws.proofs.ServeLaws.{NoFault, Ends, serves-all}

-- ---- what it means that a book is served

pub record Served (book : Book) : Type 0 where
  pub none : NoFault book
  pub durable : book.durable ≡ length book.accepted
  pub settled : settled_prefix (all_cells book.slaves) (all_entries book) ≡ length (all_entries book)

same-of : (n m : ℕ) → (n == m) ≡ true → n ≡ m
same-of n m is = grind (arith, nat_tests)

pub served-is : (book : Book) → is_served book ≡ true → Served book
served-is book is =
    let first = not (is_some book.fault) in
    let second = book.durable == length book.accepted in
    let both : (first && second) ≡ true = and-left (first && second) (is_settled book) is in
    record {
      none = not-true (is_some book.fault) (and-left first second both);
      durable = same-of book.durable (length book.accepted) (and-right first second both);
      settled = same-of (settled_prefix (all_cells book.slaves) (all_entries book)) (length (all_entries book)) (and-right (first && second) (is_settled book) is);
    }

-- the contents are what all runs make of the words that were read
contents-are : (book : Book) → book.durable ≡ length book.accepted → redone book.words (all_runs book) ≡ contents_of book
contents-are book durable =
    let now = take book.durable (own book) in
    ap (redone book.words) (runs_of-append book.found now) ∙ redone-append book.words (runs_of book.found) (runs_of now)
    ∙ entries-contents 0 (base_of book) book.accepted book.durable
    ∙ ap (λ (l : List Command). contents (base_of book) l) (take_all book.durable book.accepted (omega (arith, durable)))

-- ---- the slave

-- nothing is out for it
nothing-out : (i : ℕ) (half : SlaveHalf) (words : List ℕ) (runs : List Run) (cells : List Cell) (operation : Operation) → IsOut operation → HalfFits i half operation cells → WordsFit i words runs cells → ((at : ℕ) → IsSettledWord runs i at (cell_of cells at)) → ⊥
nothing-out i half words runs cells NoOperation out fits leads settled = out
nothing-out i half words runs cells (Issuing word value) out fits leads settled = let asked : IsAsked word cells = fits.asks in unsure-owes i words runs cells word leads asked.inside (settled word) asked.unsure
nothing-out i half words runs cells (Unsettled word value taken) out fits leads settled = out
nothing-out i half words runs cells (Settling word value taken) out fits leads settled =
    let issued : IsIssued i word value taken half cells = fits.asks in unsure-owes i words runs cells word leads issued.asked.inside (settled word) issued.asked.unsure

settled-words : (i : ℕ) (book : Book) → Served book → i < length book.slaves → (at : ℕ) → IsSettledWord (all_runs book) i at (cell_of (slave_at book i).cells at)
settled-words i book served within at =
    subst (λ (cells : List Cell). IsSettledWord (all_runs book) i at (cell_of cells at)) (cells_of book.slaves i)
    (all-settled (all_cells book.slaves) (all_entries book) i served.settled (omega (arith, within, length-all_cells book.slaves)) at)

reads-contents : (i : ℕ) (book : Book) (new : State) (end : SlaveHalf) → Served book → slice_get new.halves i ≡ Some end → Ends i book end → ReadsAsContents book new i
reads-contents i book new end served there is = from is.ends
  where
    s : Stands i book is.half
    s = is.stands

    settled : (at : ℕ) → IsSettledWord (all_runs book) i at (cell_of (slave_at book i).cells at)
    settled = settled-words i book served s.inside

    leaves : (left : List ℕ) → MayLeave is.half left → left ≡ words_of (contents_of book) i
    leaves left may =
        words-lead book.words i (all_runs book) (slave_at book i).cells left s.plant s.words settled (length-MayLeave is.half left may ∙ sym s.fits.size) (s.fits.words left may)
        ∙ ap (λ (p : List (List ℕ)). words_of p i) (contents-are book served.durable)

    from : EndsOut (slave_at book i).operation is.half end → ReadsAsContents book new i
    from (inl less) = record { half = end; here = there; is = record { holds = leaves end.words (less end.words (MayLeave-same end)); leaves = λ left may. leaves left (less left may) } }
    from (inr out) =
        absurd (nothing-out i is.half (words_of book.words i) (all_runs book) (slave_at book i).cells (slave_at book i).operation (job-is_out (slave_at book i).operation out.0 out.1) s.fits s.words settled)

pub slave-reads : (opened : Book) (calls : List Call) (slave : ℕ) (old new : Seen) → IsJustOpened opened → AreAnswered opened calls → is_served (replayed opened calls) ≡ true → slave < length opened.words
    → IsWorked slave (rom_log slave calls) old new → IsAsOpened opened old.state slave → ReadsAsContents (replayed opened calls) new.state slave
slave-reads opened calls slave old new just all served within worked start =
    let stands : Stands slave opened start.half = subst (λ (b : Book). Stands slave b start.half) (sym just.1) (stands-opened opened.words opened.capacity just.0 slave start.half within start.is.idle start.is.holds) in
    let vacant : (slave_at opened slave).operation ≡ NoOperation = ap (λ (b : Book). (slave_at b slave).operation) just.1 ∙ opened-vacant opened.words opened.capacity just.0 slave within in
    let is = served-is (replayed opened calls) served in
    let led = led-to-end slave (rom_log slave calls) old new start.half worked start.here in
    reads-contents slave (replayed opened calls) new.state led.0 is led.1
    (serves-all slave calls opened start.half led.0 is.none stands (course-of slave calls opened start.half led.0 all (λ out. subst IsOut vacant out) led.2))

-- ---- the line

pub all-read : {S : Type 0} (opened : Book) (calls : List Call) (seen : S → Seen) (workers : List (Stay S SlaveLog)) → IsJustOpened opened → AreAnswered opened calls → is_served (replayed opened calls) ≡ true
    → AreWorkersOf opened calls workers → AllWorked seen workers → AllReadAsContents opened (replayed opened calls) seen workers
all-read opened calls seen workers just all served are worked slave end is start =
    let work = are.each slave end is in
    let within : slave < length opened.words = omega (arith, slice_get_within workers slave end is, are.count, each-slave opened (replayed opened calls).accepted) in
    let led : IsWorked slave (rom_log slave calls) (seen end.start) (seen end.site) =
    subst (λ (k : ℕ). IsWorked k (rom_log slave calls) (seen end.start) (seen end.site)) work.0 (subst (λ (l : List RomEntry). IsWorked end.log.slave l (seen end.start) (seen end.site)) work.1 (worked slave end is)) in
    slave-reads opened calls slave (seen end.start) (seen end.site) just all served within led start
