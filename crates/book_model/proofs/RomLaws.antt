-- Up stays true at each step of a word.
use Rattle.std.proofs.Common.{◌≡◌, inl, inr, ℕ, ◌+◌, ◌<◌, ◌≤◌, Bool, true, false, List, [], ◌∷◌, length, get_or, set, refl, sym, ◌∙◌, ap, subst, arith, length-set, Some}
use Rattle.std.specs.Prelude.{slice_get}
use Rattle.std.proofs.lemmas.List.{get_or-set_same, get_or-set_other, set-get_or}
use Rattle.std.proofs.lemmas.Bool.{cases_eq}
use Rattle.sii_words.specs.declared.run.Run.{Run}
use Rattle.esc_model.specs.SlaveHalf.{SlaveHalf}
use Rattle.esc_model.specs.WordAccess.{IsWell}
use Rattle.site_core.specs.State.{State, with_half}
use Rattle.book_model.specs.Cells.{Cell, Holds, asked, written, cell_of}
use Rattle.book_model.specs.Cells.{nothing as no_cell}
use Rattle.book_model.specs.Book.{Book, Slave, Operation, NoOperation, Issuing, Settling, base_of, own, all_cells, slave_at}
use Rattle.book_model.specs.RomSteps.{with_issue, with_written, with_operation}
use Rattle.book_model.specs.Machine.{Machine}
use Rattle.book_model.specs.Owed.{IsAmong}
use Rattle.book_model.specs.Fits.{Fits, BookFits}
use Rattle.book_model.specs.Frame.{JournalFrame}
use Rattle.book_model.proofs.CellLaws.{length-all_named}
use Rattle.book_model.proofs.BookLaws.{all_cells-set, cells_of, issued-fits, written-word-fits}
use Rattle.book_model.specs.Slaves.{Asks, SlaveFits}
use Rattle.book_model.specs.Steps.{TakesOrNot}
use Rattle.book_model.specs.Up.{Up}
use Rattle.book_model.proofs.SlaveLaws.{slave-takes, slave-passes, slave-written}
use Rattle.book_model.proofs.GoesLaws.{slave-goes}

pub among-some : (value : ℕ) (owed : List ℕ) → IsAmong value owed → 0 < length owed
among-some value [] has = absurd has
among-some value (v ∷ vs) has = omega arith

-- a cell that owes no more than before
owes-cell : (cells : List Cell) (word : ℕ) (cell : Cell) → word < length cells → length cell.owed ≤ length (cell_of cells word).owed
    → (at : ℕ) → length (cell_of (set cells word cell) at).owed ≤ length (cell_of cells at).owed
owes-cell cells word cell inside less at = elim (cases_eq at word) [
  | inl same ↦ subst (λ (n : ℕ). length (cell_of (set cells word cell) n).owed ≤ length (cell_of cells n).owed) (sym same) (rw (get_or-set_same cells word cell no_cell inside) less)
  | inr other ↦ rw (get_or-set_other cells word at cell no_cell other) (omega arith)
]

-- ---- an issue begins

issue-here : (t : Bool) (i : ℕ) (half later : SlaveHalf) (operation : Operation) (took : Bool) (cells : List Cell) (word value : ℕ) → TakesOrNot t i word value half later → word < length cells → IsAmong value (cell_of cells word).owed
    → SlaveFits i half operation took cells → SlaveFits i later (Issuing word value) t (set cells word (asked (cell_of cells word)))
issue-here true i half later operation took cells word value takes inside owed fits = slave-takes i half later operation took cells word value takes inside owed fits
issue-here false i half later operation took cells word value rests inside owed fits = slave-passes i half later operation took cells word value rests inside owed fits

pub up-issues : (frame : JournalFrame) (book : Book) (state : State) (took : List Bool) (m : Machine) (i : ℕ) (half later : SlaveHalf) (w : ℕ × ℕ) (t : Bool) → Up frame book state took m → i < length book.slaves → slice_get state.halves i ≡ Some half
    → w.0 < length (slave_at book i).cells → IsAmong w.1 (cell_of (slave_at book i).cells w.0).owed → TakesOrNot t i w.0 w.1 half later
    → Up frame (with_issue book i w) (with_half state i later) (set took i t) m
up-issues frame book state took m i half later w t up within there inside owed takes =
    let cells = (slave_at book i).cells in
    let slave : Slave = record { cells = set cells w.0 (asked (cell_of cells w.0)); operation = Issuing w.0 w.1; issues = (slave_at book i).issues + 1 } in
    slave-goes frame book state took m i slave later t up within (record {
      fits = λ gone f. issued-fits book gone i w f within inside (among-some w.1 (cell_of cells w.0).owed owed);
      here = issue-here t i half later (slave_at book i).operation (get_or took i false) cells w.0 w.1 takes inside owed (up.slaves.each i half there);
      count = length-set cells w.0 (asked (cell_of cells w.0));
      owes = owes-cell cells w.0 (asked (cell_of cells w.0)) inside (omega arith);
    })

-- ---- the cells stay as they are

operation-fits : (book : Book) (gone : List Run) (i : ℕ) (operation : Operation) → BookFits book gone → BookFits (with_operation book i operation) gone
operation-fits book gone i operation fits =
    let slave : Slave = record (slave_at book i) { operation = operation } in
    let all : all_cells (set book.slaves i slave) ≡ all_cells book.slaves =
    all_cells-set book.slaves i slave ∙ ap (set (all_cells book.slaves) i) (sym (cells_of book.slaves i)) ∙ set-get_or (all_cells book.slaves) i [] in
    subst (λ (cells : List (List Cell)). Fits book.words (base_of book) (own book) book.durable book.halves cells gone) (sym all) fits

pub up-operation : (frame : JournalFrame) (book : Book) (state : State) (took : List Bool) (m : Machine) (i : ℕ) (later : SlaveHalf) (operation : Operation) (t : Bool) → Up frame book state took m → i < length book.slaves
    → SlaveFits i later operation t (slave_at book i).cells → Up frame (with_operation book i operation) (with_half state i later) (set took i t) m
up-operation frame book state took m i later operation t up within here =
    slave-goes frame book state took m i (record (slave_at book i) { operation = operation }) later t up within (record {
      fits = λ gone f. operation-fits book gone i operation f;
      here = here;
      count = refl;
      owes = λ at. omega arith;
    })

-- ---- a word is written

written-here : (i : ℕ) (half : SlaveHalf) (operation : Operation) (took : Bool) (cells : List Cell) (word value : ℕ) → operation ≡ Settling word value true → SlaveFits i half operation took cells → SlaveFits i half (Settling word value true) took cells
written-here i half operation took cells word value is fits = subst (λ (e : Operation). SlaveFits i half e took cells) is fits

pub up-written : (frame : JournalFrame) (book : Book) (state : State) (took : List Bool) (m : Machine) (i : ℕ) (half : SlaveHalf) (word value : ℕ) (now : Bool) → Up frame book state took m → i < length book.slaves → slice_get state.halves i ≡ Some half
    → (slave_at book i).operation ≡ Settling word value true → IsWell half
    → Up frame (with_written book i word value) (with_half state i half) (set took i now) m
up-written frame book state took m i half word value now up within there is well =
    let cells = (slave_at book i).cells in
    let cell = written (cell_of cells word) value in
    let before = written-here i half (slave_at book i).operation (get_or took i false) cells word value is (up.slaves.each i half there) in
    let asks : Asks i word value true half cells = before.asks in
    slave-goes frame book state took m i (record (slave_at book i) { cells = set cells word cell; operation = NoOperation }) half now up within (record {
      fits = λ gone f. written-word-fits book gone i word value f within asks.inside asks.unsure;
      here = slave-written i half (get_or took i false) now cells word value well before;
      count = length-set cells word cell;
      owes = owes-cell cells word cell asks.inside (omega (arith, length-all_named (Holds value) [] (cell_of cells word).owed));
    })
