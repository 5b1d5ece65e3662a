-- The facts of each slave, joined to the whole line.
use Rattle.std.proofs.Common.{◌≡◌, ◌⊎◌, inl, inr, ℕ, zero, suc, ◌<◌, ◌≤◌, Bool, List, [], ◌∷◌, length, get_or, refl, sym, ◌∙◌, ap, subst, arith, Some}
use Rattle.std.specs.Prelude.{slice_get}
use Rattle.std.proofs.lemmas.Bool.{cases_lt}
use Rattle.std.proofs.lemmas.List.{get_or_past}
use Rattle.sii_words.specs.Plant.{words_of}
use Rattle.esc_model.specs.SlaveHalf.{SlaveHalf, MayLeave}
use Rattle.esc_model.proofs.Resting.{length-MayLeave}
use Rattle.site_core.specs.State.{State, Pair, Leaves, EachMayLeave}
use Rattle.book_model.specs.Cells.{Cell, cell_of}
use Rattle.book_model.specs.Book.{Book, Slave, nobody, all_cells}
use Rattle.book_model.specs.Machine.{Machine}
use Rattle.book_model.specs.Kept.{Kept}
use Rattle.book_model.specs.Owed.{MayBe}
use Rattle.book_model.specs.Plants.{MayHoldAll}
use Rattle.book_model.specs.Fits.{SameCells}
use Rattle.book_model.specs.Frame.{JournalFrame}
use Rattle.book_model.proofs.BookLaws.{cells_of, length-all_cells}
use Rattle.book_model.proofs.FormLaws.{journal-kept}
use Rattle.book_model.specs.Up.{SlavesFit, Up}

leave-count : (halves : List SlaveHalf) (left : List (List ℕ)) → EachMayLeave halves left → length left ≡ length halves
leave-count [] [] may = refl
leave-count [] (w ∷ left) may = absurd may
leave-count (h ∷ halves) [] may = absurd may
leave-count (h ∷ halves) (w ∷ left) may = omega (arith, leave-count halves left may.1)

leave-each : (halves : List SlaveHalf) (left : List (List ℕ)) → EachMayLeave halves left → (i : ℕ) (half : SlaveHalf) → slice_get halves i ≡ Some half → MayLeave half (get_or left i [])
leave-each [] [] may i half is = absurd cc
leave-each [] (w ∷ left) may i half is = absurd may
leave-each (h ∷ halves) [] may i half is = absurd may
leave-each (h ∷ halves) (w ∷ left) may zero half is = let e : h ≡ half = cc in subst (λ (x : SlaveHalf). MayLeave x w) e may.0
leave-each (h ∷ halves) (w ∷ left) may (suc i) half is = leave-each halves left may.1 i half is

pub half-there : (halves : List SlaveHalf) (i : ℕ) → i < length halves → (half : SlaveHalf) × (slice_get halves i ≡ Some half)
half-there [] i within = absurd (omega arith)
half-there (h ∷ halves) zero within = (h, refl)
half-there (h ∷ halves) (suc i) within = half-there halves i (omega arith)

pub holds-all : (plant : List (List ℕ)) (halves : List SlaveHalf) (slaves : List Slave) (took : List Bool) (left : List (List ℕ)) → SameCells plant (all_cells slaves) → SlavesFit halves slaves took → EachMayLeave halves left
    → MayHoldAll plant (all_cells slaves) left
holds-all plant halves slaves took left same fit may = record {
  shape = record { slaves = omega (arith, count, fit.count, plants); words = λ i. size i (cases_lt i (length halves)) };
  words = λ i at within inside. word i at (omega (arith, plants, fit.count)) inside;
}
  where
    count : length left ≡ length halves
    count = leave-count halves left may

    plants : length slaves ≡ length plant
    plants = sym (length-all_cells slaves) ∙ same.slaves

    cells : (i : ℕ) → length (get_or slaves i nobody).cells ≡ length (words_of plant i)
    cells i = sym (ap length (cells_of slaves i)) ∙ same.words i

    size : (i : ℕ) → (i < length halves) ⊎ (length halves ≤ i) → length (words_of left i) ≡ length (words_of plant i)
    size i (inl within) =
        let h = half-there halves i within in
        length-MayLeave h.0 (get_or left i []) (leave-each halves left may i h.0 h.1) ∙ sym (fit.each i h.0 h.1).size ∙ cells i
    size i (inr past) = rw (get_or_past left i [] (omega (arith, count)), get_or_past plant i [] (omega (arith, plants, fit.count))) refl

    word : (i at : ℕ) → i < length halves → at < length (words_of plant i) → MayBe (cell_of (get_or (all_cells slaves) i []) at).known (get_or (words_of left i) at 0)
    word i at within inside =
        let h = half-there halves i within in
        let fits = fit.each i h.0 h.1 in
        subst (λ (l : List Cell). MayBe (cell_of l at).known (get_or (words_of left i) at 0)) (sym (cells_of slaves i))
        (fits.words (get_or left i []) (leave-each halves left may i h.0 h.1) at (omega (arith, cells i)))

-- if Up holds, whatever a power cut leaves is recoverable
pub up-kept : (frame : JournalFrame) (book : Book) (state : State) (took : List Bool) (machine : Machine) (pair : Pair) → Up frame book state took machine → Leaves state pair → Kept pair.disk pair.words machine
up-kept frame book state took machine pair up leaves =
    journal-kept frame book machine up.gone state.disk pair.disk pair.words up.line up.of up.fits up.disk (holds-all book.words state.halves book.slaves took pair.words up.same up.slaves leaves.words) leaves.disk
