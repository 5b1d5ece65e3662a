-- One slave, call by call, in the course that its half takes.
use Rattle.std.proofs.Common.{◌≡◌, ◌≢◌, ◌∙◌, ◌⊎◌, inl, inr, ℕ, Bool, true, false, List, [], ◌∷◌, set, refl, sym, ap, subst, Some, Ok, Err}
use Rattle.std.specs.Prelude.{is_some}
use Rattle.sii_words.specs.Plant.{words_of}
use Rattle.esc_model.specs.SlaveHalf.{SlaveHalf, MayRest}
use Rattle.esc_model.specs.WordAccess.{IsWell}
use Rattle.esc_model.proofs.OnlyResting.{OnlyRests-then, MayRest-only}
use Rattle.site_core.specs.declared.answers.Issued.{Issued}
use Rattle.site_core.specs.declared.answers.Issued.TheVariants.{Taken, NotTaken, Lost}
use Rattle.site_core.specs.declared.answers.Settled.TheVariants.{Written, Again, Dead}
use Rattle.book_model.specs.Cells.{Cell, asked, written, cell_of}
use Rattle.book_model.specs.declared.next.DiskNext.{DiskNext}
use Rattle.book_model.specs.declared.next.RomNext.{RomNext}
use Rattle.book_model.specs.declared.next.RomNext.TheVariants as next
use Rattle.book_model.specs.declared.next.RomOutcome.{RomOutcome}
use Rattle.book_model.specs.declared.next.RomOutcome.TheVariants as outcomes
use Rattle.book_model.specs.Book.{Book, Operation, NoOperation, Issuing, Unsettled, Settling, slave_at}
use Rattle.book_model.specs.DiskSteps.{disk_next}
use Rattle.book_model.specs.RomSteps.{was_taken, is_last, rom_next, rom_done}
use Rattle.book_model.proofs.CellLaws.{asked-fits, written-fits}
use Rattle.book_model.specs.Steps.{MayComeBack}
use Rattle.station_jobs.specs.Working.{HalfReturns}
use Rattle.desk_book.specs.declared.call.Call.{Call}
use Rattle.desk_book.specs.declared.call.Call.TheVariants.{Submitted, DiskAsked, DiskReported, SlaveAsked, SlaveReported, PlanAsked, Finished}
use Rattle.desk_book.specs.Calls.{after, replayed}
use Rattle.desk_book.proofs.LogLaws.{same-or-not}
use Rattle.desk_book.proofs.OutLaws.{Next, rests, issues, settles, next-of, DiskNexts, disk_rests, disk_goes, nexts-of, SlaveGoes, back-of, issued-slave, asked-separate, reported-separate}
use Rattle.desk_laws.proofs.HalfWork.{HalfSteps}
use Rattle.desk_laws.proofs.Courses.{IsJobOf, Moves, still, came, EndsOut, Course}
use Rattle.desk_laws.proofs.HalfLaws.{IsIssued, HalfFits, half-asked, half-issued, half-written, half-freed}
use Rattle.desk_laws.proofs.WordLaws.{words-cell}
use Rattle.desk_laws.proofs.StandLaws.{Stands, all_runs, stands-command, stands-asked, stands-reported, stands-slave, stands-separate, reported-failed, to-do-owed}

-- ---- a fault stays

abbrev pub NoFault : Book → Type 0
NoFault book = is_some book.fault ≡ false

pub failed-after : (book : Book) (call : Call) → is_some book.fault ≡ true → is_some (after book call).fault ≡ true
failed-after book (Submitted command (Ok number)) has = has
failed-after book (Submitted command (Err refusal)) has = has
failed-after book (DiskAsked answer) has = from (nexts-of book)
  where
    from : DiskNexts book → is_some (disk_next book).1.fault ≡ true
    from (disk_rests answer none is) = ap (λ (a : DiskNext × Book). is_some a.1.fault) is ∙ has
    from (disk_goes action is) = ap (λ (a : DiskNext × Book). is_some a.1.fault) is ∙ has
failed-after book (DiskReported outcome) has = reported-failed book outcome has
failed-after book (SlaveAsked j answer) has = from (next-of book j)
  where
    from : Next book j → is_some (rom_next book j).1.fault ≡ true
    from (rests answer none is) = ap (λ (a : RomNext × Book). is_some a.1.fault) is ∙ has
    from (issues w others vacant todo within is) = ap (λ (a : RomNext × Book). is_some a.1.fault) is ∙ has
    from (settles word value taken unsettled within is) = ap (λ (a : RomNext × Book). is_some a.1.fault) is ∙ has
failed-after book (SlaveReported j outcome) has = from (back-of book j outcome)
  where
    from : (rom_done book j outcome ≡ book) ⊎ SlaveGoes book j (rom_done book j outcome) → is_some (rom_done book j outcome).fault ≡ true
    from (inl is) = ap (λ (b : Book). is_some b.fault) is ∙ has
    from (inr goes) = ap (λ (b : Book). is_some b.fault) goes.is ∙ goes.failed has
failed-after book (PlanAsked answer) has = has
failed-after book Finished has = has

failed-replayed : (book : Book) (calls : List Call) → is_some book.fault ≡ true → is_some (replayed book calls).fault ≡ true
failed-replayed book [] has = has
failed-replayed book (call ∷ calls) has = failed-replayed (after book call) calls (failed-after book call has)

never-failed : {A : Type 0} (book : Book) (calls : List Call) → NoFault (replayed book calls) → is_some book.fault ≡ true → A
never-failed book calls none has = absurd (let some = failed-replayed book calls has in cc)

-- ---- what comes back, and the half then

issued-so : (taken : Bool) (word value : ℕ) (how : Issued) (rested later : SlaveHalf) → MayComeBack taken (Issuing word value) (outcomes.Issued how) rested later → (later ≡ rested) × (was_taken how ≡ true → taken ≡ true)
issued-so taken word value Taken rested later back = (back.1, λ said. back.0)
issued-so taken word value NotTaken rested later back = (back.1, λ said. absurd cc)
issued-so taken word value Lost rested later back = (back, λ said. absurd cc)

issue-returns : (i word value : ℕ) (how : Issued) (half later : SlaveHalf) (cells : List Cell) → HalfFits i half (Issuing word value) cells → HalfReturns i (next.Issue word value) (outcomes.Issued how) half later
    → HalfFits i later (Unsettled word value (was_taken how)) cells
issue-returns i word value how half later cells fits returns =
    let back = subst (λ (e : Operation). MayComeBack returns.taken e (outcomes.Issued how) returns.rested later) returns.operation_is returns.comes_back in
    let so = issued-so returns.taken word value how returns.rested later back in
    half-issued returns.taken (was_taken how) i word value half returns.begun later cells returns.begins (subst (MayRest returns.begun) (sym so.0) returns.rests) so.1 fits

-- of a settle the half comes to rest before it comes back
settle-rests : (i : ℕ) (taken : Bool) (outcome : RomOutcome) (half later : SlaveHalf) (returns : HalfReturns i (next.Settle taken) outcome half later) → MayRest half returns.rested
settle-rests i taken outcome half later returns = subst (λ (h : SlaveHalf). MayRest h returns.rested) returns.begins returns.rests

settle-back : (i : ℕ) (taken : Bool) (outcome : RomOutcome) (half later : SlaveHalf) (returns : HalfReturns i (next.Settle taken) outcome half later) → MayComeBack returns.taken (Settling returns.operation_is.0 returns.operation_is.1 taken) outcome returns.rested later
settle-back i taken outcome half later returns = subst (λ (e : Operation). MayComeBack returns.taken e outcome returns.rested later) returns.operation_is.2 returns.comes_back

settle-written : (i word value : ℕ) (taken : Bool) (half later : SlaveHalf) (cells : List Cell) → HalfFits i half (Settling word value taken) cells → HalfReturns i (next.Settle taken) (outcomes.Settled Written) half later
    → HalfFits i later NoOperation (set cells word (written (cell_of cells word) value))
settle-written i word value taken half later cells fits returns =
    let back = settle-back i taken (outcomes.Settled Written) half later returns in
    half-written i word value half later cells (subst (MayRest half) (sym back.2) (settle-rests i taken (outcomes.Settled Written) half later returns)) (subst IsWell (sym back.2) back.1)
    (subst (λ (t : Bool). HalfFits i half (Settling word value t) cells) back.0 fits)

settle-again : (i : ℕ) (taken : Bool) (half later : SlaveHalf) (operation : Operation) (cells : List Cell) → HalfFits i half operation cells → HalfReturns i (next.Settle taken) (outcomes.Settled Again) half later → HalfFits i later NoOperation cells
settle-again i taken half later operation cells fits returns =
    let back = settle-back i taken (outcomes.Settled Again) half later returns in
    half-freed i half later operation cells (OnlyRests-then half returns.rested later (MayRest-only half returns.rested (settle-rests i taken (outcomes.Settled Again) half later returns)) back.1) fits

-- ---- another slave goes on

asked-stands : (i : ℕ) (book : Book) (j : ℕ) (half : SlaveHalf) → i ≢ j → Stands i book half → Stands i (rom_next book j).1 half
asked-stands i book j half other stands = from (next-of book j)
  where
    from : Next book j → Stands i (rom_next book j).1 half
    from (rests answer none is) = subst (λ (a : RomNext × Book). Stands i a.1 half) (sym is) stands
    from (issues w others vacant todo within is) = stands-separate i book (rom_next book j).1 j (issued-slave book j w) book.fault half (ap (λ (a : RomNext × Book). a.1) is) (asked-separate book j i other) stands
    from (settles word value taken unsettled within is) = stands-separate i book (rom_next book j).1 j (record (slave_at book j) { operation = Settling word value taken }) book.fault half (ap (λ (a : RomNext × Book). a.1) is) (asked-separate book j i other) stands

reported-stands : (i : ℕ) (book : Book) (j : ℕ) (outcome : RomOutcome) (half : SlaveHalf) → i ≢ j → Stands i book half → Stands i (rom_done book j outcome) half
reported-stands i book j outcome half other stands = from (back-of book j outcome)
  where
    from : (rom_done book j outcome ≡ book) ⊎ SlaveGoes book j (rom_done book j outcome) → Stands i (rom_done book j outcome) half
    from (inl is) = subst (λ (b : Book). Stands i b half) (sym is) stands
    from (inr goes) = stands-separate i book (rom_done book j outcome) j goes.slave goes.fault half goes.is (reported-separate book j i outcome other) stands

-- ---- a call leaves the half as it is

asked-itself : (i : ℕ) (book : Book) (half : SlaveHalf) → Stands i book half → Next book i → Stands i (rom_next book i).1 half
asked-itself i book half stands (rests nothing rest goes) = subst (λ (a : RomNext × Book). Stands i a.1 half) (sym goes) stands
asked-itself i book half stands (issues w others vacant todo within goes) =
    let cells = (slave_at book i).cells in
    let owed = to-do-owed book i w others todo in
    let fits : HalfFits i half NoOperation cells = subst (λ (e : Operation). HalfFits i half e cells) vacant stands.fits in
    stands-slave i book (rom_next book i).1 (issued-slave book i w) book.fault half half (ap (λ (a : RomNext × Book). a.1) goes) stands
    (words-cell i (words_of book.words i) (all_runs book) cells w.0 (asked (cell_of cells w.0)) owed.0 (λ target fit. asked-fits (all_runs book) i w.0 target (cell_of cells w.0) owed.1 fit) stands.words)
    (half-asked i w.0 w.1 half cells owed.0 fits)
asked-itself i book half stands (settles word value taken unsettled within goes) =
    let fits : HalfFits i half (Unsettled word value taken) (slave_at book i).cells = subst (λ (e : Operation). HalfFits i half e (slave_at book i).cells) unsettled stands.fits in
    stands-slave i book (rom_next book i).1 (record (slave_at book i) { operation = Settling word value taken }) book.fault half half (ap (λ (a : RomNext × Book). a.1) goes) stands stands.words
    (record { size = fits.size; words = fits.words; asks = fits.asks })

stands-still : (i : ℕ) (book : Book) (call : Call) (half : SlaveHalf) → ((outcome : RomOutcome) → call ≡ SlaveReported i outcome → rom_done book i outcome ≡ book) → Stands i book half → Stands i (after book call) half
stands-still i book (Submitted command (Ok number)) half reported stands = stands-command i book command half stands
stands-still i book (Submitted command (Err refusal)) half reported stands = stands
stands-still i book (DiskAsked answer) half reported stands = stands-asked i book half stands
stands-still i book (DiskReported outcome) half reported stands = stands-reported i book outcome half stands
stands-still i book (SlaveAsked j answer) half reported stands = elim (same-or-not i j) [
  | inl it ↦ subst (λ (k : ℕ). Stands i (rom_next book k).1 half) it (asked-itself i book half stands (next-of book i))
  | inr other ↦ asked-stands i book j half other stands
]
stands-still i book (SlaveReported j outcome) half reported stands = elim (same-or-not i j) [
  | inl it ↦
      let same : rom_done book i outcome ≡ book = reported outcome (ap (λ (k : ℕ). SlaveReported k outcome) (sym it)) in
      subst (λ (k : ℕ). Stands i (rom_done book k outcome) half) it (subst (λ (b : Book). Stands i b half) (sym same) stands)
  | inr other ↦ reported-stands i book j outcome half other stands
]
stands-still i book (PlanAsked answer) half reported stands = stands
stands-still i book Finished half reported stands = record { appends = stands.appends; few = stands.few; plant = stands.plant; inside = stands.inside; words = stands.words; fits = stands.fits }

-- ---- its job comes back, and the book has no fault

module _ (i : ℕ) (book : Book) (half later : SlaveHalf) (stands : Stands i book half) where
  abbrev Comes : RomNext → RomOutcome → Type 0
  Comes job outcome = (is_some (rom_done book i outcome).fault ≡ true → ⊥) → HalfSteps i (record { job = job; outcome = Some outcome }) half later → Stands i (rom_done book i outcome) later

  issue-comes : (word value : ℕ) (outcome : RomOutcome) → (slave_at book i).operation ≡ Issuing word value → Comes (next.Issue word value) outcome
  issue-comes word value (outcomes.Issued how) is dead steps =
      let fits : HalfFits i half (Issuing word value) (slave_at book i).cells = subst (λ (e : Operation). HalfFits i half e (slave_at book i).cells) is stands.fits in
      stands-slave i book (rom_done book i (outcomes.Issued how)) (record (slave_at book i) { operation = Unsettled word value (was_taken how) }) book.fault later half (rw is refl) stands stands.words
      (issue-returns i word value how half later (slave_at book i).cells fits (steps.returns (outcomes.Issued how) refl (λ no. absurd (cc no))))
  issue-comes word value (outcomes.Settled how) is dead steps =
      let returns = steps.returns (outcomes.Settled how) refl (λ no. absurd (cc no)) in
      absurd (subst (λ (e : Operation). MayComeBack returns.taken e (outcomes.Settled how) returns.rested later) returns.operation_is returns.comes_back)
  issue-comes word value outcomes.Stopped is dead steps = absurd (dead (rw is refl))

  settle-comes : (word value : ℕ) (taken : Bool) (outcome : RomOutcome) → (slave_at book i).operation ≡ Settling word value taken → Comes (next.Settle taken) outcome
  settle-comes word value taken (outcomes.Issued how) is dead steps = let back = settle-back i taken (outcomes.Issued how) half later (steps.returns (outcomes.Issued how) refl (λ no. absurd (cc no))) in absurd back
  settle-comes word value taken (outcomes.Settled Written) is dead steps =
      let cells = (slave_at book i).cells in
      let fits : HalfFits i half (Settling word value taken) cells = subst (λ (e : Operation). HalfFits i half e cells) is stands.fits in
      let issued : IsIssued i word value taken half cells = fits.asks in
      stands-slave i book (rom_done book i (outcomes.Settled Written)) (record (slave_at book i) { cells = set cells word (written (cell_of cells word) value); operation = NoOperation }) book.fault later half (rw is refl) stands
      (words-cell i (words_of book.words i) (all_runs book) cells word (written (cell_of cells word) value) issued.asked.inside
      (λ target fit. written-fits (all_runs book) i word target value issued.asked.unsure.0 (cell_of cells word) issued.asked.unsure.1 fit) stands.words)
      (settle-written i word value taken half later cells fits (steps.returns (outcomes.Settled Written) refl (λ no. absurd (cc no))))
  settle-comes word value taken (outcomes.Settled Again) is dead steps = again (is_last (cell_of (slave_at book i).cells word).known) refl
    where
      again : (last : Bool) → is_last (cell_of (slave_at book i).cells word).known ≡ last → Stands i (rom_done book i (outcomes.Settled Again)) later
      again true lasts = absurd (dead (rw (is, lasts) refl))
      again false lasts =
          stands-slave i book (rom_done book i (outcomes.Settled Again)) (record (slave_at book i) { operation = NoOperation }) book.fault later half (rw (is, lasts) refl) stands stands.words
          (settle-again i taken half later (slave_at book i).operation (slave_at book i).cells stands.fits (steps.returns (outcomes.Settled Again) refl (λ no. absurd (cc no))))
  settle-comes word value taken (outcomes.Settled Dead) is dead steps = absurd (dead (rw is refl))
  settle-comes word value taken outcomes.Stopped is dead steps = absurd (dead (rw is refl))

  comes : (operation : Operation) (job : RomNext) (outcome : RomOutcome) → (slave_at book i).operation ≡ operation → IsJobOf operation job → Comes job outcome
  comes NoOperation job outcome is of = absurd of
  comes (Issuing word value) job outcome is of = subst (λ (n : RomNext). Comes n outcome) (sym of) (issue-comes word value outcome is)
  comes (Unsettled word value taken) job outcome is of = absurd of
  comes (Settling word value taken) job outcome is of = subst (λ (n : RomNext). Comes n outcome) (sym of) (settle-comes word value taken outcome is)

-- ---- the whole history

-- What the slave is behind the calls. While a job is out for it, nothing more is said of its half.
pub record Ends (i : ℕ) (book : Book) (end : SlaveHalf) : Type 0 where
  pub half : SlaveHalf
  pub stands : Stands i book half
  pub ends : EndsOut (slave_at book i).operation half end

pub serves-all : (i : ℕ) (calls : List Call) (book : Book) (half end : SlaveHalf) → NoFault (replayed book calls) → Stands i book half → Course i book calls half end → Ends i (replayed book calls) end
serves-all i [] book half end none stands course = record { half = half; stands = stands; ends = course }
serves-all i (call ∷ calls) book half end none stands course = serves-all i calls (after book call) course.0 end none (from course.1) course.2
  where
    from : Moves i book call half course.0 → Stands i (after book call) course.0
    from (still is reported) = subst (λ (h : SlaveHalf). Stands i (after book call) h) (sym is) (stands-still i book call half reported stands)
    from (came outcome reported job of steps) =
        let dead : is_some (rom_done book i outcome).fault ≡ true → ⊥ = λ has. never-failed (after book call) calls none (subst (λ (c : Call). is_some (after book c).fault ≡ true) (sym reported) has) in
        subst (λ (c : Call). Stands i (after book c) course.0) (sym reported) (comes i book half course.0 stands (slave_at book i).operation job outcome refl of dead steps)
