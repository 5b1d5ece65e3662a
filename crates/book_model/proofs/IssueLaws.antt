-- The value that an issue sends is among those that its word is owed.
use Rattle.std.proofs.Common.{◌≡◌, inl, inr, ℕ, ◌<◌, List, [], ◌∷◌, ◌++◌, length, refl, sym, ◌∙◌, ap, subst, arith}
use Rattle.sii_words.specs.declared.run.Run.{Run}
use Rattle.book_model.specs.Cells.{Cell, Known, Holds, Unsure}
use Rattle.book_model.specs.Entries.{values}
use Rattle.book_model.specs.Owed.{MayBe, due, IsAmong, redone_word, CellFits}
use Rattle.book_model.proofs.CellLaws.{values-append, redone-due, due-append, held}

among-due : (word v : ℕ) (vs : List ℕ) → IsAmong (due word (v ∷ vs)) (v ∷ vs)
among-due word v [] = inl refl
among-due word v (w ∷ vs) = inr (among-due v w vs)

pub due-last : (a b : ℕ) (vs : List ℕ) → 0 < length vs → due a vs ≡ due b vs
due-last a b [] some = absurd (omega arith)
due-last a b (v ∷ vs) some = refl

pub among : (word : ℕ) (owed : List ℕ) → 0 < length owed → IsAmong (due word owed) owed
among word [] some = absurd (omega arith)
among word (v ∷ vs) some = among-due word v vs

-- a word that is owed something is owed the value that the live runs name last
pub issue-among : (gone lives : List Run) (slave at own word : ℕ) (cell : Cell) → CellFits lives slave at (redone_word (gone ++ lives) slave at own) cell → 0 < length cell.owed
    → IsAmong (redone_word lives slave at word) cell.owed
issue-among gone lives slave at own word cell fits some =
    let all : redone_word (gone ++ lives) slave at own ≡ due (due own (values gone slave at)) (values lives slave at) =
    redone-due (gone ++ lives) slave at own ∙ ap (due own) (values-append gone lives slave at) ∙ due-append own (values gone slave at) (values lives slave at) in
    let named : 0 < length (values lives slave at) = omega (arith, fits.owed) in
    let h = held cell.known in
    let leads : due word cell.owed ≡ redone_word (gone ++ lives) slave at own = due-last word h.0 cell.owed some ∙ fits.leads h.0 h.1 in
    let is : redone_word lives slave at word ≡ due word cell.owed = redone-due lives slave at word ∙ due-last word (due own (values gone slave at)) (values lives slave at) named ∙ sym all ∙ sym leads in
    subst (λ (v : ℕ). IsAmong v cell.owed) (sym is) (among word cell.owed some)
