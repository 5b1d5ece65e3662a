-- What a power cut leaves of the slaves leads to the contents.
use Rattle.std.proofs.Common.{◌≡◌, ℕ, ◌<◌, List, ◌++◌, length, get_or, sym, ◌∙◌, ap, subst, arith, append_assoc}
use Rattle.sii_words.specs.declared.run.Run.{Run}
use Rattle.sii_words.specs.Plant.{words_of}
use Rattle.sii_words.specs.Redo.{redone}
use Rattle.book_model.specs.Cells.{Cell}
use Rattle.book_model.specs.Book.{cell_at}
use Rattle.book_model.specs.Owed.{CellFits, redone_word}
use Rattle.book_model.specs.Plants.{word_at, MayHoldAll, AllFit, AllSettled}
use Rattle.sii_words.proofs.RedoLaws.{same_plants, word-redone, length-redone, length-words_of-redone, redone-append}
use Rattle.book_model.proofs.CellLaws.{stop-leads, retired-fits}

-- whatever a power cut leaves of the words, redo of the live runs gives the contents
pub plant-leads : (plant : List (List ℕ)) (retired live : List Run) (cells : List (List Cell)) (left : List (List ℕ)) → AllFit plant retired live cells → MayHoldAll plant cells left
    → redone left live ≡ redone plant (retired ++ live)
plant-leads plant retired live cells left fit may =
    same_plants (redone left live) (redone plant (retired ++ live))
    (omega (arith, length-redone left live, length-redone plant (retired ++ live), may.shape.slaves))
    (λ slave within. length-words_of-redone left live slave (omega (arith, length-redone left live)) ∙ may.shape.words slave ∙ sym (length-words_of-redone plant (retired ++ live) slave (omega (arith, length-redone left live, may.shape.slaves))))
    (λ slave at within inside. word slave at (omega (arith, length-redone left live, may.shape.slaves)) (omega (arith, length-words_of-redone left live slave (omega (arith, length-redone left live)), may.shape.words slave)))
  where
    word : (slave at : ℕ) → slave < length plant → at < length (words_of plant slave) → get_or (words_of (redone left live) slave) at 0 ≡ get_or (words_of (redone plant (retired ++ live)) slave) at 0
    word slave at within inside =
        word-redone left live slave at (omega (arith, may.shape.slaves)) (omega (arith, may.shape.words slave))
        ∙ stop-leads retired live slave at (word_at plant slave at) (word_at left slave at) (cell_at cells slave at) (fit slave at within inside) (may.words slave at within inside)
        ∙ sym (word-redone plant (retired ++ live) slave at within inside)

-- a batch whose gate may be open
pub plant-leads-next : (plant : List (List ℕ)) (retired live next : List Run) (cells : List (List Cell)) (left : List (List ℕ)) → AllFit plant retired live cells → MayHoldAll plant cells left
    → redone left (live ++ next) ≡ redone plant ((retired ++ live) ++ next)
plant-leads-next plant retired live next cells left fit may =
    redone-append left live next ∙ ap (λ (p : List (List ℕ)). redone p next) (plant-leads plant retired live cells left fit may) ∙ sym (redone-append plant (retired ++ live) next)

-- the older half may be closed where all of it is settled
pub all-fit-retired : (plant : List (List ℕ)) (retired older newer : List Run) (cells : List (List Cell)) → AllFit plant retired (older ++ newer) cells → AllSettled plant newer cells
    → AllFit plant (retired ++ older) newer cells
all-fit-retired plant retired older newer cells fit settled = λ slave at within inside.
    subst (λ (all : List Run). CellFits newer slave at (redone_word all slave at (word_at plant slave at)) (cell_at cells slave at)) (sym (append_assoc retired older newer))
    (retired-fits older newer slave at (redone_word (retired ++ (older ++ newer)) slave at (word_at plant slave at)) (cell_at cells slave at) (settled slave at within inside) (fit slave at within inside))

pub plant-leads-retired : (plant : List (List ℕ)) (retired older newer : List Run) (cells : List (List Cell)) (left : List (List ℕ)) → AllFit plant retired (older ++ newer) cells → AllSettled plant newer cells → MayHoldAll plant cells left
    → redone left newer ≡ redone plant (retired ++ (older ++ newer))
plant-leads-retired plant retired older newer cells left fit settled may =
    plant-leads plant (retired ++ older) newer cells left (all-fit-retired plant retired older newer cells fit settled) may
    ∙ ap (redone plant) (append_assoc retired older newer)
