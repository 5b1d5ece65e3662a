-- The desk's book, disk and slaves as a world of the main law. A slave may change in three ways more than its events say: it takes an issued datagram only
-- now, the word that is issued holds anything, or a power cut leaves no more of it once the book is done with it.
use Rattle.std.proofs.Common.{◌≡◌, ◌∙◌, inl, inr, ℕ, ◌<◌, Bool, false, List, length, get_or, set, refl, sym, ap, subst, arith, length-set, Some}
use Rattle.std.specs.Prelude.{slice_get}
use Rattle.std.proofs.lemmas.Bool.{cases_eq}
use Rattle.std.proofs.lemmas.List.{get_or-set_other, set-get_or}
use Rattle.std.proofs.lemmas.Option.{slice_get_within}
use Rattle.esc_model.specs.SlaveHalf.{SlaveHalf, MayLeave}
use Rattle.esc_model.proofs.Resting.{MayLeave-same, length-MayLeave}
use Rattle.site_core.specs.State.{State, with_half}
use Rattle.book_model.specs.Cells.{Cell, cell_of}
use Rattle.book_model.specs.declared.next.RomNext.TheVariants as next
use Rattle.book_model.specs.Book.{Book, Slave, Operation, NoOperation, Issuing, nobody, slave_at}
use Rattle.book_model.specs.RomSteps.{with_operation}
use Rattle.book_model.specs.Owed.{MayBe}
use Rattle.book_model.specs.Frame.{JournalFrame}
use Rattle.book_model.specs.Slaves.{SlaveFits, Asks}
use Rattle.book_model.specs.Steps.{TakesOrNot}
use Rattle.book_model.specs.Up.{Up}
use Rattle.book_model.proofs.RomLaws.{up-operation}
use Rattle.world_law.specs.World.{World, Event, Reported}
use Rattle.world_law.specs.Happenings.{Happens}
use Rattle.world_law.specs.Law.{Session, EventFits, MachineFits}
use Rattle.world_law.proofs.StandsLaws.{IsOf, Stands, stands-up, stands-down}
use Rattle.world_law.proofs.StepLaws.{step-goes}
use Rattle.desk_laws.proofs.HalfLaws.{HalfFits, words-issued, size-issued}
use Rattle.desk_laws.proofs.HalfWork.{HalfLeft}
use Rattle.desk_laws.proofs.Courses.{LeavesLess}

abbrev pub world_of : Book → State → List Bool → World
world_of book state took = record { book = Some book; state = state; took = took }

-- the main law's invariant holds of this world, for what callers know
pub record Stays (book : Book) (state : State) (took : List Bool) : Type 0 where
  pub session : Session
  pub stands : Stands (world_of book state took) session
  pub fits : MachineFits session.machine

-- an event of the main law happens
pub happens : (event : Event) (reported : Reported) (book later : Book) (state after : State) (took taken : List Bool) → Stays book state took → EventFits event → Happens event (world_of book state took) reported (world_of later after taken) → Stays later after taken
happens event reported book later state after took taken stays small is =
    let goes = step-goes stays.session event (world_of book state took) (world_of later after taken) reported stays.stands stays.fits small (inl is) in
    record { session = goes.session; stands = goes.stands; fits = goes.fits }

record UpFor (book : Book) (state : State) (took : List Bool) (session : Session) : Type 0 where
  frame : JournalFrame
  up : Up frame book state took session.machine
  of : IsOf session book

up-for : (book : Book) (state : State) (took : List Bool) (session : Session) → Stands (world_of book state took) session → UpFor book state took session
up-for book state took session (stands-up other frame is up of) =
    let same : other ≡ book = (let e : Some book ≡ Some other = is in cc) in
    record { frame = frame; up = subst (λ (b : Book). Up frame b state took session.machine) same up; of = subst (IsOf session) same of }
up-for book state took session (stands-down is kept long) = absurd (cc is)

-- the book has each slave of the line
pub slave-count : (book : Book) (state : State) (took : List Bool) → Stays book state took → length state.halves ≡ length book.slaves
slave-count book state took stays = let u = up-for book state took stays.session stays.stands in u.up.slaves.count

pub took-count : (book : Book) (state : State) (took : List Bool) → Stays book state took → length took ≡ length book.slaves
took-count book state took stays = let u = up-for book state took stays.session stays.stands in u.up.slaves.took_count

-- ---- a slave changes

same-operation : (book : Book) (i : ℕ) (operation : Operation) → (slave_at book i).operation ≡ operation → with_operation book i operation ≡ book
same-operation book i operation is =
    ap (λ (e : Operation). with_operation book i e) (sym is) ∙ ap (λ (l : List Slave). record book { slaves = l }) (set-get_or book.slaves i nobody)

-- to a half that fits what the book knows of it
changes : (book : Book) (state : State) (took : List Bool) (i : ℕ) (operation : Operation) (half later : SlaveHalf) (t : Bool) → Stays book state took → (slave_at book i).operation ≡ operation → slice_get state.halves i ≡ Some half
    → (SlaveFits i half operation (get_or took i false) (slave_at book i).cells → SlaveFits i later operation t (slave_at book i).cells) → Stays book (with_half state i later) (set took i t)
changes book state took i operation half later t stays is here fits =
    let u = up-for book state took stays.session stays.stands in
    let m = stays.session.machine in
    let within : i < length book.slaves = (let lt = slice_get_within state.halves i half here in omega (arith, lt, u.up.slaves.count)) in
    let was = subst (λ (e : Operation). SlaveFits i half e (get_or took i false) (slave_at book i).cells) is (u.up.slaves.each i half here) in
    let up = up-operation u.frame book state took m i later operation t u.up within (fits was) in
    record { session = stays.session; stands = stands-up book u.frame refl (subst (λ (b : Book). Up u.frame b (with_half state i later) (set took i t) m) (same-operation book i operation is) up) u.of; fits = stays.fits }

-- ---- it takes the datagram of an issue, or doesn't

fits-begun : (i word value : ℕ) (half begun : SlaveHalf) (took taken : Bool) (cells : List Cell) → TakesOrNot taken i word value half begun → SlaveFits i half (Issuing word value) took cells → SlaveFits i begun (Issuing word value) taken cells
fits-begun i word value half begun took taken cells begins fits =
    let asks : Asks i word value took half cells = fits.asks in
    let before : HalfFits i half (Issuing word value) cells = record { size = fits.size; words = fits.words; asks = record { inside = asks.inside; unsure = asks.unsure } } in
    record {
      size = fits.size ∙ sym (size-issued taken i word value half begun begins);
      words = words-issued taken i word value half begun cells begins before;
      asks = record {
        inside = asks.inside;
        unsure = asks.unsure;
        owed = asks.owed;
        took = λ is. record { before = half; mid = begun; takes = subst (λ (t : Bool). TakesOrNot t i word value half begun) is begins; rests = inl refl };
      };
    }

pub takes : (book : Book) (state : State) (took : List Bool) (i word value : ℕ) (half begun : SlaveHalf) (taken : Bool) → Stays book state took → (slave_at book i).operation ≡ Issuing word value → slice_get state.halves i ≡ Some half
    → TakesOrNot taken i word value half begun → Stays book (with_half state i begun) (set took i taken)
takes book state took i word value half begun taken stays is here begins =
    changes book state took i (Issuing word value) half begun taken stays is here (fits-begun i word value half begun (get_or took i false) taken (slave_at book i).cells begins)

-- ---- its word may hold anything

torn-size : (word value : ℕ) (half later : SlaveHalf) → HalfLeft (next.Issue word value) half later.words → length later.words ≡ length half.words
torn-size word value half later left = elim left.2 [
  | inl same ↦ ap length same ∙ length-MayLeave half left.0 left.1
  | inr differs ↦ ap length differs.1 ∙ length-set left.0 word differs.0 ∙ length-MayLeave half left.0 left.1
]

torn-word : (i word value : ℕ) (half : SlaveHalf) (took : Bool) (cells : List Cell) (left : List ℕ) → SlaveFits i half (Issuing word value) took cells → HalfLeft (next.Issue word value) half left
    → (at : ℕ) → at < length cells → MayBe (cell_of cells at).known (get_or left at 0)
torn-word i word value half took cells left fits was at within = elim was.2 [
  | inl same ↦ subst (λ (l : List ℕ). MayBe (cell_of cells at).known (get_or l at 0)) (sym same) (fits.words was.0 was.1 at within)
  | inr differs ↦ elim (cases_eq at word) [
    | inl here ↦ subst (λ (k : ℕ). MayBe (cell_of cells k).known (get_or left k 0)) (sym here) (any (get_or left word 0))
    | inr other ↦ rw (differs.1, get_or-set_other was.0 word at differs.0 0 other) (fits.words was.0 was.1 at within)
  ]
]
  where
    asks : Asks i word value took half cells
    asks = fits.asks

    any : (held : ℕ) → MayBe (cell_of cells word).known held
    any held = rw asks.unsure.1 tt

fits-torn : (i word value : ℕ) (half later : SlaveHalf) (took : Bool) (cells : List Cell) → ((left : List ℕ) → MayLeave later left → HalfLeft (next.Issue word value) half left) → SlaveFits i half (Issuing word value) took cells
    → SlaveFits i later (Issuing word value) false cells
fits-torn i word value half later took cells leaves fits =
    let asks : Asks i word value took half cells = fits.asks in
    record {
      size = fits.size ∙ sym (torn-size word value half later (leaves later.words (MayLeave-same later)));
      words = λ left may. torn-word i word value half took cells left fits (leaves left may);
      asks = record { inside = asks.inside; unsure = asks.unsure; owed = asks.owed; took = λ no. absurd (cc no) };
    }

pub tears : (book : Book) (state : State) (took : List Bool) (i word value : ℕ) (half later : SlaveHalf) → Stays book state took → (slave_at book i).operation ≡ Issuing word value → slice_get state.halves i ≡ Some half
    → ((left : List ℕ) → MayLeave later left → HalfLeft (next.Issue word value) half left) → Stays book (with_half state i later) (set took i false)
tears book state took i word value half later stays is here leaves =
    changes book state took i (Issuing word value) half later false stays is here (fits-torn i word value half later (get_or took i false) (slave_at book i).cells leaves)

-- ---- a power cut leaves no more of it

fits-less : (i : ℕ) (half later : SlaveHalf) (took now : Bool) (cells : List Cell) → LeavesLess half later → SlaveFits i half NoOperation took cells → SlaveFits i later NoOperation now cells
fits-less i half later took now cells less fits = record {
  size = fits.size ∙ sym (length-MayLeave half later.words (less later.words (MayLeave-same later)));
  words = λ left may. fits.words left (less left may);
  asks = tt;
}

pub fades : (book : Book) (state : State) (took : List Bool) (i : ℕ) (half later : SlaveHalf) → Stays book state took → (slave_at book i).operation ≡ NoOperation → slice_get state.halves i ≡ Some half → LeavesLess half later
    → Stays book (with_half state i later) (set took i false)
fades book state took i half later stays is here less = changes book state took i NoOperation half later false stays is here (fits-less i half later (get_or took i false) false (slave_at book i).cells less)
