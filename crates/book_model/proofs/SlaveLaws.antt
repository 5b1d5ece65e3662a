-- SlaveFits stays true at each step of a slave.
use Rattle.std.proofs.Common.{◌≡◌, ◌≢◌, inl, inr, ℕ, ◌<◌, Bool, true, false, List, length, get_or, set, refl, sym, ◌∙◌, ap, subst, arith, length-set}
use Rattle.std.proofs.lemmas.List.{get_or-set_same, get_or-set_other}
use Rattle.std.proofs.lemmas.Bool.{cases_eq}
use Rattle.esc_model.specs.SlaveHalf.{SlaveHalf, Activity, MayRest, MayLeave, MayHold}
use Rattle.esc_model.specs.WordAccess.{IsWell, OnlyRests, TakesWord}
use Rattle.esc_model.proofs.Resting.{MayRest-leaves, MayRest-twice, MayLeave-same, MayLeave-idle}
use Rattle.esc_model.proofs.OnlyResting.{MayRest-only, OnlyRests-leaves, OnlyRests-length}
use Rattle.esc_model.proofs.WordWriting.{taken_then_well}
use Rattle.book_model.specs.Cells.{Cell, asked, written, nothing, cell_of, next_issue}
use Rattle.book_model.specs.Book.{Operation, NoOperation, Issuing, Unsettled, Settling}
use Rattle.book_model.specs.Owed.{MayBe, IsAmong}
use Rattle.book_model.specs.Slaves.{HasTaken, Asks, OperationFits, SlaveFits}

-- ---- becoming idle

taken-rests : (slave word value : ℕ) (half later : SlaveHalf) → MayRest half later → HasTaken slave word value half → HasTaken slave word value later
taken-rests slave word value half later rest taken = record { before = taken.before; mid = taken.mid; takes = taken.takes; rests = MayRest-twice taken.mid half later taken.rests rest }

asks-rests : (slave word value : ℕ) (taken : Bool) (half later : SlaveHalf) (cells : List Cell) → MayRest half later → Asks slave word value taken half cells → Asks slave word value taken later cells
asks-rests slave word value taken half later cells rest asks = record {
  inside = asks.inside;
  unsure = asks.unsure;
  owed = asks.owed;
  took = λ is. taken-rests slave word value half later rest (asks.took is);
}

operation-rests : (slave : ℕ) (operation : Operation) (took : Bool) (half later : SlaveHalf) (cells : List Cell) → MayRest half later → OperationFits slave operation took half cells → OperationFits slave operation took later cells
operation-rests slave NoOperation took half later cells rest fits = tt
operation-rests slave (Issuing word value) took half later cells rest fits = asks-rests slave word value took half later cells rest fits
operation-rests slave (Unsettled word value taken) took half later cells rest fits = asks-rests slave word value taken half later cells rest fits
operation-rests slave (Settling word value taken) took half later cells rest fits = asks-rests slave word value taken half later cells rest fits

pub slave-rests : (slave : ℕ) (half later : SlaveHalf) (operation : Operation) (took : Bool) (cells : List Cell) → MayRest half later → SlaveFits slave half operation took cells → SlaveFits slave later operation took cells
slave-rests slave half later operation took cells rest fits = record {
  size = fits.size ∙ sym (OnlyRests-length half later (MayRest-only half later rest));
  words = λ left may. fits.words left (MayRest-leaves half later left rest may);
  asks = operation-rests slave operation took half later cells rest fits.asks;
}

-- with nothing in progress its registers may change too
pub slave-freed : (slave : ℕ) (half later : SlaveHalf) (operation : Operation) (took now : Bool) (cells : List Cell) → OnlyRests half later → SlaveFits slave half operation took cells → SlaveFits slave later NoOperation now cells
slave-freed slave half later operation took now cells rest fits = record {
  size = fits.size ∙ sym (OnlyRests-length half later rest);
  words = λ left may. fits.words left (OnlyRests-leaves half later left rest may);
  asks = tt;
}

-- ---- an issue

other-cell : (cells : List Cell) (word at : ℕ) (cell : Cell) → at ≢ word → cell_of (set cells word cell) at ≡ cell_of cells at
other-cell cells word at cell other = get_or-set_other cells word at cell nothing other

this-cell : (cells : List Cell) (word : ℕ) (cell : Cell) → word < length cells → cell_of (set cells word cell) word ≡ cell
this-cell cells word cell inside = get_or-set_same cells word cell nothing inside

-- all words but one may hold what they hold in these words
pub words-but : (cells : List Cell) (word : ℕ) (cell : Cell) (left old : List ℕ) → word < length cells
    → ((at : ℕ) → at < length cells → MayBe (cell_of cells at).known (get_or old at 0))
    → MayBe cell.known (get_or left word 0) → ((at : ℕ) → at ≢ word → get_or left at 0 ≡ get_or old at 0)
    → (at : ℕ) → at < length (set cells word cell) → MayBe (cell_of (set cells word cell) at).known (get_or left at 0)
words-but cells word cell left old inside was here elsewhere at within = elim (cases_eq at word) [
  | inl same ↦ subst (λ (k : ℕ). MayBe (cell_of (set cells word cell) k).known (get_or left k 0)) (sym same) (rw (this-cell cells word cell inside) here)
  | inr other ↦ rw (other-cell cells word at cell other, elsewhere at other) (was at (omega (arith, length-set cells word cell)))
]

asked-asks : (slave : ℕ) (half : SlaveHalf) (cells : List Cell) (word value : ℕ) (took : Bool) → word < length cells → IsAmong value (cell_of cells word).owed → (took ≡ true → HasTaken slave word value half)
    → Asks slave word value took half (set cells word (asked (cell_of cells word)))
asked-asks slave half cells word value took inside owed taken =
    let is = this-cell cells word (asked (cell_of cells word)) inside in
    record {
      inside = omega (arith, length-set cells word (asked (cell_of cells word)));
      unsure = (next_issue (cell_of cells word).known, ap (λ (c : Cell). c.known) is);
      owed = subst (λ (c : Cell). IsAmong value c.owed) (sym is) owed;
      took = taken;
    }

-- what a power cut leaves of a half that took a word differs from the words that it had there alone
pub taken-left : (slave word value : ℕ) (half later : SlaveHalf) (takes : TakesWord slave word value half later) (left : List ℕ) → MayLeave later left → (at : ℕ) → at ≢ word → get_or left at 0 ≡ get_or takes.rested.words at 0
taken-left slave word value half later takes left may at other = elim takes.writes [
  | inl writing ↦
      let held : (x : ℕ) × (left ≡ set later.words word x) = subst (λ (a : Activity). MayHold a later.words left) writing.0 may in
      ap (λ (l : List ℕ). get_or l at 0) held.1 ∙ get_or-set_other later.words word at held.0 0 other ∙ ap (λ (l : List ℕ). get_or l at 0) takes.words
  | inr refused ↦ ap (λ (l : List ℕ). get_or l at 0) (MayLeave-idle later left refused.0 may ∙ takes.words)
]

-- the slave takes it
pub slave-takes : (slave : ℕ) (half later : SlaveHalf) (operation : Operation) (took : Bool) (cells : List Cell) (word value : ℕ) → TakesWord slave word value half later → word < length cells → IsAmong value (cell_of cells word).owed
    → SlaveFits slave half operation took cells → SlaveFits slave later (Issuing word value) true (set cells word (asked (cell_of cells word)))
slave-takes slave half later operation took cells word value takes inside owed fits =
    let before : MayLeave half takes.rested.words = MayRest-leaves half takes.rested takes.rested.words takes.rests (MayLeave-same takes.rested) in
    record {
      size = length-set cells word (asked (cell_of cells word)) ∙ fits.size ∙ sym (ap length takes.words ∙ OnlyRests-length half takes.rested (MayRest-only half takes.rested takes.rests));
      words = λ left may. words-but cells word (asked (cell_of cells word)) left takes.rested.words inside (fits.words takes.rested.words before) tt (taken-left slave word value half later takes left may);
      asks = asked-asks slave later cells word value true inside owed (λ is. record { before = half; mid = later; takes = takes; rests = inl refl });
    }

-- it doesn't
pub slave-passes : (slave : ℕ) (half later : SlaveHalf) (operation : Operation) (took : Bool) (cells : List Cell) (word value : ℕ) → MayRest half later → word < length cells → IsAmong value (cell_of cells word).owed
    → SlaveFits slave half operation took cells → SlaveFits slave later (Issuing word value) false (set cells word (asked (cell_of cells word)))
slave-passes slave half later operation took cells word value rest inside owed fits = record {
  size = length-set cells word (asked (cell_of cells word)) ∙ fits.size ∙ sym (OnlyRests-length half later (MayRest-only half later rest));
  words = λ left may. words-but cells word (asked (cell_of cells word)) left left inside (fits.words left (MayRest-leaves half later left rest may)) tt (λ at other. refl);
  asks = asked-asks slave later cells word value false inside owed (λ is. absurd cc);
}

-- ---- its outcome

-- the issue came back: it was taken, as it is said, or nothing is said
pub slave-issued : (slave : ℕ) (half : SlaveHalf) (word value : ℕ) (took said now : Bool) (cells : List Cell) → (said ≡ true → took ≡ true) → SlaveFits slave half (Issuing word value) took cells
    → SlaveFits slave half (Unsettled word value said) now cells
slave-issued slave half word value took said now cells so fits = record {
  size = fits.size;
  words = fits.words;
  asks = let asks = fits.asks in record { inside = asks.inside; unsure = asks.unsure; owed = asks.owed; took = λ is. asks.took (so is) };
}

-- its settle is handed out
pub slave-settles : (slave : ℕ) (half : SlaveHalf) (word value : ℕ) (took taken now : Bool) (cells : List Cell) → SlaveFits slave half (Unsettled word value taken) took cells → SlaveFits slave half (Settling word value taken) now cells
slave-settles slave half word value took taken now cells fits = record { size = fits.size; words = fits.words; asks = fits.asks }

-- the word is written: the half is well
pub slave-written : (slave : ℕ) (half : SlaveHalf) (took now : Bool) (cells : List Cell) (word value : ℕ) → IsWell half → SlaveFits slave half (Settling word value true) took cells
    → SlaveFits slave half NoOperation now (set cells word (written (cell_of cells word) value))
slave-written slave half took now cells word value well fits =
    let asks = fits.asks in
    let t = asks.took refl in
    record {
      size = length-set cells word (written (cell_of cells word) value) ∙ fits.size;
      words = λ left may.
          let is = taken_then_well slave word value t.before t.mid half left t.takes t.rests well may in
          words-but cells word (written (cell_of cells word) value) left left asks.inside (fits.words left may)
          (ap (λ (l : List ℕ). get_or l word 0) is.1 ∙ get_or-set_same t.takes.rested.words word value 0 is.0) (λ at other. refl);
      asks = tt;
    }
