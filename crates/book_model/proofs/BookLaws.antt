-- The book's calls keep BookFits true.
use Rattle.std.proofs.Common.{◌≡◌, ℕ, zero, suc, ◌+◌, ◌<◌, ◌≤◌, true, List, [], ◌∷◌, ◌++◌, length, get_or, set, take, drop, refl, sym, ◌∙◌, ap, subst, arith}
use Rattle.sii_words.specs.declared.run.Run.{Run}
use Rattle.jrn_format.specs.declared.journal.Entry.{Entry}
use Rattle.jrn_format.specs.Halves.{Place, InOlder, live, with_batch, batch_in}
use Rattle.book_model.specs.Cells.{Cell, asked, written, nothing, cell_of}
use Rattle.book_model.specs.Entries.{runs_of, live_runs}
use Rattle.book_model.specs.Book.{Book, Slave, Operation, NoOperation, Issuing, OpenSync, CloseSync, base_of, own, all_cells, nobody, slave_at, with_slave}
use Rattle.book_model.specs.Open.{owing_words, owing_slaves}
use Rattle.book_model.specs.DiskSteps.{went_on}
use Rattle.book_model.specs.RomSteps.{with_issue, with_written}
use Rattle.book_model.specs.Reading.{runs_settled}
use Rattle.book_model.specs.Owed.{IsUnsure, CellFits}
use Rattle.book_model.specs.Plants.{AllFit}
use Rattle.book_model.specs.Fits.{owing_from, with_cell, Fits, BookFits, SameCells}
use Rattle.book_model.proofs.CellLaws.{asked-fits, written-fits}
use Rattle.book_model.proofs.FitLaws.{step-appended, step-retired, step-cell, live_runs-append}
use Rattle.book_model.proofs.SettlingLaws.{retire-settled}

pub all_cells-owing : (runs : List Run) (n : ℕ) (slaves : List Slave) → all_cells (owing_slaves runs n slaves) ≡ owing_from runs n (all_cells slaves)
all_cells-owing runs n [] = refl
all_cells-owing runs n (s ∷ slaves) = ap (λ (l : List (List Cell)). owing_words runs n 0 s.cells ∷ l) (all_cells-owing runs (suc n) slaves)

-- the second sync of an append
pub open-sync-fits : (book : Book) (gone : List Run) (place : Place) (entries : List Entry) → BookFits book gone → SameCells book.words (all_cells book.slaves)
    → (place ≡ InOlder → book.halves.newer ≡ []) → take (length entries) (drop book.durable (own book)) ≡ entries → book.durable + length entries ≤ length (own book)
    → BookFits (went_on book (OpenSync place entries)) gone
open-sync-fits book gone place entries fits same in_older is few =
    subst (λ (cells : List (List Cell)). Fits book.words (base_of book) (own book) (book.durable + length entries) (with_batch book.halves place (batch_in book.halves place entries)) cells gone)
    (sym (all_cells-owing (runs_of entries) 0 book.slaves))
    (step-appended book.words (base_of book) (own book) book.durable book.halves (all_cells book.slaves) gone place entries fits same in_older is few)

-- the sync of a retire, which was begun where the test held
pub close-sync-fits : (book : Book) (gone : List Run) → BookFits book gone → SameCells book.words (all_cells book.slaves) → runs_settled (all_cells book.slaves) (live_runs book.halves.newer) (live_runs book.halves.older) ≡ true
    → BookFits (went_on book CloseSync) (gone ++ live_runs book.halves.older)
close-sync-fits book gone fits same settled =
    let split = live_runs-append book.halves.older book.halves.newer in
    step-retired book.words (base_of book) (own book) book.durable book.halves (all_cells book.slaves) gone fits
    (retire-settled book.words gone (live_runs book.halves.older) (live_runs book.halves.newer) (all_cells book.slaves) same (subst (λ (l : List Run). AllFit book.words gone l (all_cells book.slaves)) split fits.fit) settled)

-- ONE SLAVE CHANGES

pub all_cells-set : (slaves : List Slave) (i : ℕ) (s : Slave) → all_cells (set slaves i s) ≡ set (all_cells slaves) i s.cells
all_cells-set [] i s = refl
all_cells-set (t ∷ slaves) zero s = refl
all_cells-set (t ∷ slaves) (suc i) s = ap (λ (l : List (List Cell)). t.cells ∷ l) (all_cells-set slaves i s)

pub cells_of : (slaves : List Slave) (i : ℕ) → get_or (all_cells slaves) i [] ≡ (get_or slaves i nobody).cells
cells_of [] i = refl
cells_of (t ∷ slaves) zero = refl
cells_of (t ∷ slaves) (suc i) = cells_of slaves i

pub length-all_cells : (slaves : List Slave) → length (all_cells slaves) ≡ length slaves
length-all_cells [] = refl
length-all_cells (t ∷ slaves) = omega (arith, length-all_cells slaves)

-- a word's cell changes
word-fits : (book : Book) (gone : List Run) (i word : ℕ) (cell : Cell) (operation : Operation) (issues : ℕ) → BookFits book gone → i < length book.slaves → word < length (slave_at book i).cells
    → ((target : ℕ) → CellFits (live_runs (live book.halves)) i word target (cell_of (slave_at book i).cells word) → CellFits (live_runs (live book.halves)) i word target cell)
    → BookFits (with_slave book i (record { cells = set (slave_at book i).cells word cell; operation = operation; issues = issues })) gone
word-fits book gone i word cell operation issues fits within inside step =
    let slave : Slave = record { cells = set (slave_at book i).cells word cell; operation = operation; issues = issues } in
    let is = cells_of book.slaves i in
    let there : word < length (get_or (all_cells book.slaves) i []) = omega (arith, ap length is) in
    let all : all_cells (set book.slaves i slave) ≡ with_cell (all_cells book.slaves) i word cell =
    all_cells-set book.slaves i slave ∙ ap (λ (l : List Cell). set (all_cells book.slaves) i (set l word cell)) (sym is) in
    subst (λ (cells : List (List Cell)). Fits book.words (base_of book) (own book) book.durable book.halves cells gone) (sym all)
    (step-cell book.words (base_of book) (own book) book.durable book.halves (all_cells book.slaves) gone i word cell fits (omega (arith, length-all_cells book.slaves)) there
    (λ target fit. step target (subst (λ (l : List Cell). CellFits (live_runs (live book.halves)) i word target (get_or l word nothing)) is fit)))

-- an issue
pub issued-fits : (book : Book) (gone : List Run) (i : ℕ) (w : ℕ × ℕ) → BookFits book gone → i < length book.slaves → w.0 < length (slave_at book i).cells → 0 < length (cell_of (slave_at book i).cells w.0).owed
    → BookFits (with_issue book i w) gone
issued-fits book gone i w fits within inside some =
    word-fits book gone i w.0 (asked (cell_of (slave_at book i).cells w.0)) (Issuing w.0 w.1) ((slave_at book i).issues + 1) fits within inside
    (λ target fit. asked-fits (live_runs (live book.halves)) i w.0 target (cell_of (slave_at book i).cells w.0) some fit)

-- a word is written
pub written-word-fits : (book : Book) (gone : List Run) (i word value : ℕ) → BookFits book gone → i < length book.slaves → word < length (slave_at book i).cells → IsUnsure (cell_of (slave_at book i).cells word).known
    → BookFits (with_written book i word value) gone
written-word-fits book gone i word value fits within inside unsure =
    word-fits book gone i word (written (cell_of (slave_at book i).cells word) value) NoOperation (slave_at book i).issues fits within inside
    (λ target fit. written-fits (live_runs (live book.halves)) i word target value unsure.0 (cell_of (slave_at book i).cells word) unsure.1 fit)
