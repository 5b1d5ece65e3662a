-- The jobs that a closed desk's calls handed out led its disk and slaves to where its ends have them.
use Rattle.std.proofs.Common.{◌≡◌, ◌∙◌, ℕ, zero, suc, ◌<◌, true, List, [], ◌∷◌, length, map, refl, sym, ap, subst, arith, Some}
use Rattle.std.specs.Prelude.{slice_get}
use Rattle.std.proofs.lemmas.List.{append-nil, length-map}
use Rattle.std.proofs.lemmas.Option.{slice_get_within}
use Rattle.esc_model.specs.SlaveHalf.{SlaveHalf}
use Rattle.site_core.specs.State.{State, Seen}
use Rattle.book_model.specs.Book.{Book}
use Rattle.book_model.specs.Opening.{book_on}
use Rattle.station_jobs.specs.declared.log.SlaveLog.{SlaveLog}
use Rattle.station_jobs.specs.Ends.{Stay}
use Rattle.station_jobs.specs.Flushing.{IsFlushed}
use Rattle.station_jobs.specs.Working.{IsWorked}
use Rattle.desk_book.specs.declared.call.Call.{Call}
use Rattle.desk_book.specs.Calls.{replayed, AreAnswered}
use Rattle.desk_book.specs.Closing.{AreWorkersOf, AllWorked, is_served}
use Rattle.desk_book.specs.Logs.{DiskEntry, RomEntry, disk_log, rom_log}
use Rattle.desk_laws.specs.Joined.{AllGo, SlaveGoes, IsKeptAs}
use Rattle.desk_laws.specs.Together.{AreTogether, starts, sites, IsLeft, AllEndSo}
use Rattle.desk_laws.proofs.Ending.{desk-kept, desk-leads}

there-is : {A : Type 0} (xs : List A) (i : ℕ) → i < length xs → (x : A) × (slice_get xs i ≡ Some x)
there-is [] i within = absurd (omega arith)
there-is (x ∷ xs) zero within = (x, refl)
there-is (x ∷ xs) (suc i) within = there-is xs i (omega arith)

mapped-at : {A B : Type 0} (f : A → B) (xs : List A) (i : ℕ) (x : A) → slice_get xs i ≡ Some x → slice_get (map f xs) i ≡ Some (f x)
mapped-at f [] i x is = absurd cc
mapped-at {A} {B} f (y ∷ xs) zero x is = let same : y ≡ x = cc in ap (λ (a : A). Some (f a)) same
mapped-at f (y ∷ xs) (suc i) x is = mapped-at f xs i x is

module _ {S : Type 0} (opened : Book) (calls : List Call) (seen : S → Seen) (flusher : Stay S (List DiskEntry)) (workers : List (Stay S SlaveLog)) (flushed : IsFlushed flusher.log (seen flusher.start) (seen flusher.site)) (disk_is : flusher.log ≡ disk_log calls)
    (are : AreWorkersOf opened calls workers) (worked : AllWorked seen workers) (answered : AreAnswered opened calls) where
  slave-goes : (old new : State) → AreTogether seen flusher.start (starts workers) old → AreTogether seen flusher.site (sites workers) new → (slave : ℕ) (half later : SlaveHalf) → slice_get old.halves slave ≡ Some half
      → slice_get new.halves slave ≡ Some later → SlaveGoes calls slave half later
  slave-goes old new first last slave half later here there =
      let within = slice_get_within old.halves slave half here in
      let w = there-is workers slave (omega (arith, within, first.count, length-map workers (λ (end : Stay S SlaveLog). end.start))) in
      let end : Stay S SlaveLog = w.0 in
      let work = are.each slave end w.1 in
      let first_half = sym (first.halves slave end.start (mapped-at (λ (e : Stay S SlaveLog). e.start) workers slave end w.1)) ∙ here in
      let last_half = sym (last.halves slave end.site (mapped-at (λ (e : Stay S SlaveLog). e.site) workers slave end w.1)) ∙ there in
      record {
        done = rom_log slave calls;
        out = [];
        log_is = sym (append-nil (rom_log slave calls));
        may_be_out = tt;
        start = seen end.start;
        mid = seen end.site;
        worked = subst (λ (k : ℕ). IsWorked k (rom_log slave calls) (seen end.start) (seen end.site)) work.0
            (subst (λ (l : List RomEntry). IsWorked end.log.slave l (seen end.start) (seen end.site)) work.1 (worked slave end w.1));
        now = (seen end.site).state;
        stands = λ pair leaves. leaves;
        began = first_half;
        is = last_half;
      }

  all-go : (old new : State) → AreTogether seen flusher.start (starts workers) old → AreTogether seen flusher.site (sites workers) new → AllGo calls old new
  all-go old new first last = record {
    disk = record {
      done = disk_log calls;
      out = [];
      log_is = sym (append-nil (disk_log calls));
      may_be_out = tt;
      start = seen flusher.start;
      mid = seen flusher.site;
      flushed = subst (λ (l : List DiskEntry). IsFlushed l (seen flusher.start) (seen flusher.site)) disk_is flushed;
      now = (seen flusher.site).state;
      stands = λ pair leaves. leaves;
      began = sym first.disk;
      is = sym last.disk;
    };
    count = last.count ∙ length-map workers (λ (end : Stay S SlaveLog). end.site) ∙ sym (first.count ∙ length-map workers (λ (end : Stay S SlaveLog). end.start));
    slaves = slave-goes old new first last;
  }

  pub all-kept : AllEndSo IsKeptAs opened calls seen flusher workers
  all-kept machine journal old new is desk first last =
      subst (λ (b : Book). IsKeptAs machine (replayed b calls) new) (sym is) (desk-kept machine journal old new calls desk (subst (λ (b : Book). AreAnswered b calls) is answered) (all-go old new first last))

  pub all-left : is_served (replayed opened calls) ≡ true → AllEndSo IsLeft opened calls seen flusher workers
  all-left served machine journal old new is desk first last =
      let go = all-go old new first last in
      let so : AreAnswered (book_on old journal) calls = subst (λ (b : Book). AreAnswered b calls) is answered in
      subst (λ (b : Book). IsLeft machine (replayed b calls) new) (sym is)
      (record {
        kept = desk-kept machine journal old new calls desk so go;
        leads = desk-leads machine journal old new calls desk so go (subst (λ (b : Book). is_served (replayed b calls) ≡ true) is served);
      })
