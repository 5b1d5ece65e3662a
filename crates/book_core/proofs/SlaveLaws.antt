-- A change of one slave keeps what holds of each slave.
use Rattle.std.proofs.Common.{◌≡◌, ◌≢◌, ◌⊎◌, inl, inr, ℕ, zero, suc, ◌+◌, ◌<◌, ◌≤◌, Bool, false, List, [], ◌∷◌, length, get_or, set, Option, Some, refl, sym, ◌∙◌, ap, subst, arith}
use Rattle.std.specs.Prelude.{is_some}
use Rattle.std.proofs.lemmas.List.{length-set, get_or-set_same, get_or-set_other}
use Rattle.std.proofs.lemmas.Bool.{cases_eq}
use Rattle.book_model.specs.Cells.{Cell, Known, Holds, Unsure, nothing, cell_of, since, next_issue, asked, written}
use Rattle.book_model.specs.declared.fault.Fault.{Fault}
use Rattle.book_model.specs.Book.{Slave, Operation, NoOperation, Issuing, Unsettled, Settling, nobody, all_cells, cell_at, IsAbout}
use Rattle.jrn_format.specs.declared.journal.Entry.{Entry}
use Rattle.book_model.specs.Fits.{OwesNoMore}
use Rattle.book_model.specs.Owed.{IsAmong}
use Rattle.book_model.specs.Worn.{SlaveWorn}
use Rattle.book_model.proofs.WornSlaves.{worn-asked, worn-operation, worn-failed, worn-written}
use Rattle.book_model.proofs.BookLaws.{cells_of}
use Rattle.book_model.proofs.CellLaws.{length-all_named}
use Rattle.book_parts.specs.Line.{LineState, slave_at, with_slave}
use Rattle.book_parts.specs.Ledger.{Ledger}
use Rattle.book_core.specs.Stands.{cell_counts, OperationStands, OperationsStand, IsOwed, live_for, named_since}
use Rattle.book_core.proofs.WearLaws.{last-set, last-written}

-- What a slave does leaves the number of its words, and is owed no more.
pub record GoesOn (old new : Slave) : Type 0 where
  pub words : length new.cells ≡ length old.cells
  pub owed : (at : ℕ) → length (cell_of new.cells at).owed ≤ length (cell_of old.cells at).owed

-- ---- the cells of all slaves

pub counts-set : (slaves : List Slave) (i : ℕ) (s : Slave) → length s.cells ≡ length (get_or slaves i nobody).cells → cell_counts (set slaves i s) ≡ cell_counts slaves
counts-set [] i s same = refl
counts-set (t ∷ ts) zero s same = ap (λ (n : ℕ). n ∷ cell_counts ts) same
counts-set (t ∷ ts) (suc i) s same = ap (λ (l : List ℕ). length t.cells ∷ l) (counts-set ts i s same)

pub owes-set : (slaves : List Slave) (i : ℕ) (s : Slave) → i < length slaves → GoesOn (get_or slaves i nobody) s → OwesNoMore (all_cells slaves) (all_cells (set slaves i s)) []
owes-set slaves i s within goes = λ slave at. one slave at (cases_eq slave i)
  where
    one : (slave at : ℕ) → (slave ≡ i) ⊎ (slave ≢ i) → length (cell_at (all_cells (set slaves i s)) slave at).owed ≤ length (cell_at (all_cells slaves) slave at).owed + 0
    one slave at (inl same) =
        let new : cell_at (all_cells (set slaves i s)) slave at ≡ cell_of s.cells at =
        ap (λ (l : List Cell). cell_of l at) (cells_of (set slaves i s) slave ∙ ap (λ (n : ℕ). (get_or (set slaves i s) n nobody).cells) same ∙ ap (λ (t : Slave). t.cells) (get_or-set_same slaves i s nobody within)) in
        let old : cell_at (all_cells slaves) slave at ≡ cell_of (get_or slaves i nobody).cells at =
        ap (λ (l : List Cell). cell_of l at) (cells_of slaves slave ∙ ap (λ (n : ℕ). (get_or slaves n nobody).cells) same) in
        rw (new, old) (omega (arith, goes.owed at))
    one slave at (inr other) =
        let is : cell_at (all_cells (set slaves i s)) slave at ≡ cell_at (all_cells slaves) slave at =
        ap (λ (l : List Cell). cell_of l at) (cells_of (set slaves i s) slave ∙ ap (λ (t : Slave). t.cells) (get_or-set_other slaves i slave s nobody other) ∙ sym (cells_of slaves slave)) in
        rw is (omega arith)

-- ---- the errands

-- with a fault nothing more is said, and nothing more is wanted
pub operations-set : (found : List Entry) (ledger : Ledger) (fault later : Option Fault) (line : LineState) (i : ℕ) (s : Slave) → (is_some later ≡ false → is_some fault ≡ false) → i < length line.slaves
    → OperationsStand found ledger fault line → OperationStands (named_since found ledger i) (live_for line i) later s → OperationsStand found ledger later (with_slave line i s)
operations-set found ledger fault later line i s same within stand here = λ k inside. one k (omega (arith, length-set line.slaves i s)) (cases_eq k i)
  where
    still : (named : ℕ) (live : List (ℕ × ℕ)) (t : Slave) → OperationStands named live fault t → OperationStands named live later t
    still named live t stands =
        let worn = stands.worn in record {
          word = stands.word;
          issues = λ none. stands.issues (same none);
          others = λ none. stands.others (same none);
          worn = record { few = worn.few; most = worn.most; three = worn.three; calm = λ none. worn.calm (same none) };
          owed = stands.owed;
          last = stands.last;
        }

    one : (k : ℕ) → k < length line.slaves → (k ≡ i) ⊎ (k ≢ i) → OperationStands (named_since found ledger k) (live_for line k) later (slave_at (with_slave line i s) k)
    one k inside (inl is) =
        subst (λ (n : ℕ). OperationStands (named_since found ledger n) (live_for line n) later (slave_at (with_slave line i s) n)) (sym is)
        (subst (OperationStands (named_since found ledger i) (live_for line i) later) (sym (get_or-set_same line.slaves i s nobody within)) here)
    one k inside (inr other) =
        subst (OperationStands (named_since found ledger k) (live_for line k) later) (sym (get_or-set_other line.slaves i k s nobody other))
        (still (named_since found ledger k) (live_for line k) (get_or line.slaves k nobody) (stand k inside))

pub about-one : (operation : Operation) (a b : ℕ) → IsAbout operation a → IsAbout operation b → a ≡ b
about-one NoOperation a b one other = absurd one
about-one (Issuing word value) a b one other = sym one ∙ other
about-one (Unsettled word value taken) a b one other = sym one ∙ other
about-one (Settling word value taken) a b one other = sym one ∙ other

-- another errand about the same word
pub operation-same : (named : ℕ) (live : List (ℕ × ℕ)) (fault : Option Fault) (s : Slave) (operation : Operation) → ((at : ℕ) → IsAbout s.operation at → IsAbout operation at) → ((at : ℕ) → IsAbout operation at → IsAbout s.operation at)
    → (IsOwed s.operation s.cells → IsOwed operation s.cells) → OperationStands named live fault s → OperationStands named live fault (record s { operation = operation })
operation-same named live fault s operation on back owed stands = record {
  word = λ at is. stands.word at (back at is);
  issues = stands.issues;
  others = λ none at not. stands.others none at (λ is. not (on at is));
  worn = worn-operation named (is_some fault) s operation on stands.worn;
  owed = owed stands.owed;
  last = stands.last;
}

pub operation-given_up : (named : ℕ) (live : List (ℕ × ℕ)) (before : Option Fault) (fault : Fault) (s : Slave) → OperationStands named live before s → OperationStands named live (Some fault) (record s { operation = NoOperation })
operation-given_up named live before fault s stands = record {
  word = λ at is. absurd is;
  issues = λ none at. absurd (cc none);
  others = λ none at not. absurd (cc none);
  worn = worn-failed named (is_some before) s NoOperation stands.worn;
  owed = tt;
  last = stands.last;
}

-- the word has issues left
pub operation-again : (named : ℕ) (live : List (ℕ × ℕ)) (fault : Option Fault) (s : Slave) (word : ℕ) → IsAbout s.operation word → since (cell_of s.cells word).known ≤ 2 → OperationStands named live fault s
    → OperationStands named live fault (record s { operation = NoOperation })
operation-again named live fault s word about few stands =
    let worn = stands.worn in record {
      word = λ at is. absurd is;
      issues = stands.issues;
      others = λ none at not. one none at (cases_eq at word);
      worn = record { few = worn.few; most = worn.most; three = worn.three; calm = λ none at. inl (one none at (cases_eq at word)) };
      owed = tt;
      last = stands.last;
    }
  where
    one : is_some fault ≡ false → (at : ℕ) → (at ≡ word) ⊎ (at ≢ word) → since (cell_of s.cells at).known ≤ 2
    one none at (inl same) = subst (λ (n : ℕ). since (cell_of s.cells n).known ≤ 2) (sym same) few
    one none at (inr other) = stands.others none at (λ is. other (about-one s.operation at word is about))

-- ---- a cell changes

cell-here : (cells : List Cell) (word : ℕ) (c : Cell) → word < length cells → cell_of (set cells word c) word ≡ c
cell-here cells word c within = get_or-set_same cells word c nothing within

cell-other : (cells : List Cell) (word at : ℕ) (c : Cell) → at ≢ word → cell_of (set cells word c) at ≡ cell_of cells at
cell-other cells word at c other = get_or-set_other cells word at c nothing other

cell-goes : (s : Slave) (word : ℕ) (c : Cell) (operation : Operation) (issues : ℕ) → word < length s.cells → length c.owed ≤ length (cell_of s.cells word).owed
    → GoesOn s (record { cells = set s.cells word c; operation = operation; issues = issues })
cell-goes s word c operation issues within less = record {
  words = length-set s.cells word c;
  owed = λ at. one at (cases_eq at word);
}
  where
    one : (at : ℕ) → (at ≡ word) ⊎ (at ≢ word) → length (cell_of (set s.cells word c) at).owed ≤ length (cell_of s.cells at).owed
    one at (inl same) = subst (λ (n : ℕ). length (cell_of (set s.cells word c) n).owed ≤ length (cell_of s.cells n).owed) (sym same) (rw (cell-here s.cells word c within) less)
    one at (inr other) = rw (cell-other s.cells word at c other) (omega arith)

next-is : (known : Known) → next_issue known ≡ 1 + since known
next-is (Holds value) = refl
next-is (Unsure issues) = refl

-- a free slave's word is issued
abbrev pub issued_slave : Slave → (word value : ℕ) → Slave
issued_slave s word value = record { cells = set s.cells word (asked (cell_of s.cells word)); operation = Issuing word value; issues = s.issues + 1 }

pub issued-goes : (s : Slave) (word value : ℕ) → word < length s.cells → GoesOn s (issued_slave s word value)
issued-goes s word value within = cell-goes s word (asked (cell_of s.cells word)) (Issuing word value) (s.issues + 1) within (omega arith)

pub operation-issued : (named : ℕ) (live : List (ℕ × ℕ)) (fault : Option Fault) (s : Slave) (word value : ℕ) → s.operation ≡ NoOperation → is_some fault ≡ false → word < length s.cells → 0 < length (cell_of s.cells word).owed
    → IsAmong value (cell_of s.cells word).owed → OperationStands named live fault s → OperationStands named live fault (issued_slave s word value)
operation-issued named live fault s word value vacant fine within some among stands = record {
  word = λ at is. subst (λ (n : ℕ). n < length (set s.cells word (asked (cell_of s.cells word)))) is (omega (arith, length-set s.cells word (asked (cell_of s.cells word))));
  issues = λ none at. one none at (cases_eq at word);
  others = λ none at not. rw (cell-other s.cells word at (asked (cell_of s.cells word)) (λ is. not (sym is))) (few none at);
  worn = worn-asked named s word value (is_some fault) vacant within some (subst (λ (failed : Bool). SlaveWorn named failed s) fine stands.worn);
  owed = rw (cell-here s.cells word (asked (cell_of s.cells word)) within) ((next_issue (cell_of s.cells word).known, refl), among);
  last = last-set live s.cells word (asked (cell_of s.cells word)) within (λ w any. stands.last word w any) stands.last;
}
  where
    few : is_some fault ≡ false → (at : ℕ) → since (cell_of s.cells at).known ≤ 2
    few none at = stands.others none at (λ is. subst (λ (e : Operation). IsAbout e at) vacant is)

    one : is_some fault ≡ false → (at : ℕ) → (at ≡ word) ⊎ (at ≢ word) → since (cell_of (set s.cells word (asked (cell_of s.cells word))) at).known ≤ 3
    one none at (inl same) =
        subst (λ (n : ℕ). since (cell_of (set s.cells word (asked (cell_of s.cells word))) n).known ≤ 3) (sym same)
        (rw (cell-here s.cells word (asked (cell_of s.cells word)) within) (omega (arith, next-is (cell_of s.cells word).known, few none word)))
    one none at (inr other) = rw (cell-other s.cells word at (asked (cell_of s.cells word)) other) (omega (arith, few none at))

-- the errand's word is written
abbrev pub written_slave : Slave → (word value : ℕ) → Slave
written_slave s word value = record s { cells = set s.cells word (written (cell_of s.cells word) value); operation = NoOperation }

pub written-goes : (s : Slave) (word value : ℕ) → word < length s.cells → GoesOn s (written_slave s word value)
written-goes s word value within =
    cell-goes s word (written (cell_of s.cells word) value) NoOperation s.issues within (omega (arith, length-all_named (Holds value) [] (cell_of s.cells word).owed))

pub operation-written : (named : ℕ) (live : List (ℕ × ℕ)) (fault : Option Fault) (s : Slave) (word value : ℕ) (taken : Bool) → s.operation ≡ Settling word value taken → word < length s.cells → OperationStands named live fault s
    → OperationStands named live fault (written_slave s word value)
operation-written named live fault s word value taken is_settling within stands =
    let owed = subst (λ (e : Operation). IsOwed e s.cells) is_settling stands.owed in record {
      word = λ at is. absurd is;
      issues = λ none at. omega (arith, one none at (cases_eq at word));
      others = λ none at not. one none at (cases_eq at word);
      worn = worn-written named (is_some fault) s word value taken is_settling within owed.1 stands.worn;
      owed = tt;
      last = last-written live s.cells word value within stands.last;
    }
  where
    about : IsAbout s.operation word
    about = subst (λ (e : Operation). IsAbout e word) (sym is_settling) refl

    one : is_some fault ≡ false → (at : ℕ) → (at ≡ word) ⊎ (at ≢ word) → since (cell_of (set s.cells word (written (cell_of s.cells word) value)) at).known ≤ 2
    one none at (inl same) =
        subst (λ (n : ℕ). since (cell_of (set s.cells word (written (cell_of s.cells word) value)) n).known ≤ 2) (sym same)
        (rw (cell-here s.cells word (written (cell_of s.cells word) value) within) (omega arith))
    one none at (inr other) = rw (cell-other s.cells word at (written (cell_of s.cells word) value) other) (stands.others none at (λ is. other (about-one s.operation at word is about)))
