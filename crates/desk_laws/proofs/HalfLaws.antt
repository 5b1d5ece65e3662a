-- What a slave's half may hold, given what the book knows of its words and which job is out.
use Rattle.std.proofs.Common.{◌≡◌, inl, inr, ℕ, ◌<◌, Bool, true, false, List, length, map, get_or, set, refl, sym, ◌∙◌, ap, subst, arith, length-set}
use Rattle.std.proofs.lemmas.List.{get_or-set_same, length-map, get_or-map}
use Rattle.std.proofs.lemmas.Bool.{cases_eq}
use Rattle.esc_model.specs.SlaveHalf.{SlaveHalf, MayRest, MayLeave}
use Rattle.esc_model.specs.WordAccess.{IsIdle, IsWell, OnlyRests}
use Rattle.esc_model.proofs.Resting.{MayRest-leaves, MayRest-twice, MayLeave-same, MayLeave-idle}
use Rattle.esc_model.proofs.OnlyResting.{MayRest-only, OnlyRests-leaves, OnlyRests-length}
use Rattle.esc_model.proofs.WordWriting.{taken_then_well}
use Rattle.book_model.specs.Cells.{Known, Cell, asked, written, opened, nothing, cell_of, next_issue}
use Rattle.book_model.specs.Book.{Operation, NoOperation, Issuing, Unsettled, Settling}
use Rattle.book_model.specs.Owed.{MayBe, IsUnsure}
use Rattle.book_model.specs.Slaves.{HasTaken}
use Rattle.book_model.specs.Steps.{TakesOrNot}
use Rattle.book_model.proofs.SlaveLaws.{words-but, taken-left}

-- the word is one of the slave's, and it is unknown
pub record IsAsked (word : ℕ) (cells : List Cell) : Type 0 where
  pub inside : word < length cells
  pub unsure : IsUnsure (cell_of cells word).known

-- and where it was taken, the half took it
pub record IsIssued (slave word value : ℕ) (taken : Bool) (half : SlaveHalf) (cells : List Cell) : Type 0 where
  pub asked : IsAsked word cells
  pub took : taken ≡ true → HasTaken slave word value half

-- nothing is said of a word that is being issued until the issue returns
abbrev pub OperationFits : ℕ → Operation → SlaveHalf → List Cell → Type 0
OperationFits slave NoOperation half cells = Unit {0}
OperationFits slave (Issuing word value) half cells = IsAsked word cells
OperationFits slave (Unsettled word value taken) half cells = IsIssued slave word value taken half cells
OperationFits slave (Settling word value taken) half cells = IsIssued slave word value taken half cells

-- each word may hold what a power cut leaves in it
pub record HalfFits (slave : ℕ) (half : SlaveHalf) (operation : Operation) (cells : List Cell) : Type 0 where
  pub size : length cells ≡ length half.words
  pub words : (left : List ℕ) → MayLeave half left → (at : ℕ) → at < length cells → MayBe (cell_of cells at).known (get_or left at 0)
  pub asks : OperationFits slave operation half cells

-- ---- as it was read

pub half-opened : (slave : ℕ) (half : SlaveHalf) → IsIdle half → HalfFits slave half NoOperation (map opened half.words)
half-opened slave half idle = record {
  size = length-map half.words opened;
  words = λ left may at within.
      let inside : at < length half.words = omega (arith, within, length-map half.words opened) in
      rw (get_or-map opened half.words at 0 nothing inside) (ap (λ (l : List ℕ). get_or l at 0) (MayLeave-idle half left idle may));
  asks = tt;
}

-- ---- more is owed

-- the same is known of each word
pub record SameKnown (cells later : List Cell) : Type 0 where
  pub size : length later ≡ length cells
  pub known : (at : ℕ) → (cell_of later at).known ≡ (cell_of cells at).known

asked-same : (word : ℕ) (cells later : List Cell) → SameKnown cells later → IsAsked word cells → IsAsked word later
asked-same word cells later same asked = record { inside = omega (arith, asked.inside, same.size); unsure = (asked.unsure.0, same.known word ∙ asked.unsure.1) }

operation-same : (slave : ℕ) (operation : Operation) (half : SlaveHalf) (cells later : List Cell) → SameKnown cells later → OperationFits slave operation half cells → OperationFits slave operation half later
operation-same slave NoOperation half cells later same fits = tt
operation-same slave (Issuing word value) half cells later same fits = asked-same word cells later same fits
operation-same slave (Unsettled word value taken) half cells later same fits = record { asked = asked-same word cells later same fits.asked; took = fits.took }
operation-same slave (Settling word value taken) half cells later same fits = record { asked = asked-same word cells later same fits.asked; took = fits.took }

pub half-same : (slave : ℕ) (operation : Operation) (half : SlaveHalf) (cells later : List Cell) → SameKnown cells later → HalfFits slave half operation cells → HalfFits slave half operation later
half-same slave operation half cells later same fits = record {
  size = same.size ∙ fits.size;
  words = λ left may at within. subst (λ (k : Known). MayBe k (get_or left at 0)) (sym (same.known at)) (fits.words left may at (omega (arith, within, same.size)));
  asks = operation-same slave operation half cells later same fits.asks;
}

-- ---- a word changes its cell

-- it is handed out to be issued
pub half-asked : (slave word value : ℕ) (half : SlaveHalf) (cells : List Cell) → word < length cells → HalfFits slave half NoOperation cells
    → HalfFits slave half (Issuing word value) (set cells word (asked (cell_of cells word)))
half-asked slave word value half cells inside fits = record {
  size = length-set cells word (asked (cell_of cells word)) ∙ fits.size;
  words = λ left may. words-but cells word (asked (cell_of cells word)) left left inside (fits.words left may) tt (λ at other. refl);
  asks = record {
    inside = omega (arith, inside, length-set cells word (asked (cell_of cells word)));
    unsure = (next_issue (cell_of cells word).known, ap (λ (c : Cell). c.known) (get_or-set_same cells word (asked (cell_of cells word)) nothing inside));
  };
}

-- ---- an issue returns

-- an unknown word may hold anything
may-be-any : (known : Known) (word : ℕ) → IsUnsure known → MayBe known word
may-be-any known word unsure = subst (λ (k : Known). MayBe k word) (sym unsure.1) tt

pub words-issued : (taken : Bool) (slave word value : ℕ) (half later : SlaveHalf) (cells : List Cell) → TakesOrNot taken slave word value half later → HalfFits slave half (Issuing word value) cells
    → (left : List ℕ) → MayLeave later left → (at : ℕ) → at < length cells → MayBe (cell_of cells at).known (get_or left at 0)
words-issued false slave word value half later cells rests fits left may at within = fits.words left (MayRest-leaves half later left rests may) at within
words-issued true slave word value half later cells takes fits left may at within =
    let before : MayLeave half takes.rested.words = MayRest-leaves half takes.rested takes.rested.words takes.rests (MayLeave-same takes.rested) in
    let asked : IsAsked word cells = fits.asks in
    elim (cases_eq at word) [
      | inl same ↦ may-be-any (cell_of cells at).known (get_or left at 0) (asked.unsure.0, ap (λ (n : ℕ). (cell_of cells n).known) same ∙ asked.unsure.1)
      | inr other ↦ rw (taken-left slave word value half later takes left may at other) (fits.words takes.rested.words before at within)
    ]

pub size-issued : (taken : Bool) (slave word value : ℕ) (half later : SlaveHalf) → TakesOrNot taken slave word value half later → length later.words ≡ length half.words
size-issued false slave word value half later rests = OnlyRests-length half later (MayRest-only half later rests)
size-issued true slave word value half later takes = ap length takes.words ∙ OnlyRests-length half takes.rested (MayRest-only half takes.rested takes.rests)

-- the word began, and the half came to rest since, or didn't
pub half-issued : (taken said : Bool) (slave word value : ℕ) (half begun later : SlaveHalf) (cells : List Cell) → TakesOrNot taken slave word value half begun → MayRest begun later → (said ≡ true → taken ≡ true)
    → HalfFits slave half (Issuing word value) cells → HalfFits slave later (Unsettled word value said) cells
half-issued taken said slave word value half begun later cells begins rests so fits = record {
  size = fits.size ∙ sym (OnlyRests-length begun later (MayRest-only begun later rests) ∙ size-issued taken slave word value half begun begins);
  words = λ left may. words-issued taken slave word value half begun cells begins fits left (MayRest-leaves begun later left rests may);
  asks = record {
    asked = fits.asks;
    took = λ is. record { before = half; mid = begun; takes = subst (λ (t : Bool). TakesOrNot t slave word value half begun) (so is) begins; rests = rests };
  };
}

-- ---- a settle returns

-- the word is written
pub half-written : (slave word value : ℕ) (half later : SlaveHalf) (cells : List Cell) → MayRest half later → IsWell later → HalfFits slave half (Settling word value true) cells
    → HalfFits slave later NoOperation (set cells word (written (cell_of cells word) value))
half-written slave word value half later cells rests well fits =
    let issued : IsIssued slave word value true half cells = fits.asks in
    let inside : word < length cells = issued.asked.inside in
    let t : HasTaken slave word value half = issued.took refl in
    record {
      size = length-set cells word (written (cell_of cells word) value) ∙ fits.size ∙ sym (OnlyRests-length half later (MayRest-only half later rests));
      words = λ left may.
          let is = taken_then_well slave word value t.before t.mid later left t.takes (MayRest-twice t.mid half later t.rests rests) well may in
          words-but cells word (written (cell_of cells word) value) left left inside (fits.words left (MayRest-leaves half later left rests may))
          (ap (λ (l : List ℕ). get_or l word 0) is.1 ∙ get_or-set_same t.takes.rested.words word value 0 is.0) (λ at other. refl);
      asks = tt;
    }

-- the slave is free
pub half-freed : (slave : ℕ) (half later : SlaveHalf) (operation : Operation) (cells : List Cell) → OnlyRests half later → HalfFits slave half operation cells → HalfFits slave later NoOperation cells
half-freed slave half later operation cells rests fits = record {
  size = fits.size ∙ sym (OnlyRests-length half later rests);
  words = λ left may. fits.words left (OnlyRests-leaves half later left rests may);
  asks = tt;
}
