-- The words of one slave: the pending writes lead to the contents that all runs since the open make of the words as read.
use Rattle.std.proofs.Common.{◌≡◌, ◌⊎◌, inl, inr, ℕ, zero, suc, ◌+◌, ◌<◌, ◌≤◌, Bool, true, false, List, [], ◌∷◌, ◌++◌, length, map, get_or, set, refl, sym, ◌∙◌, ap, subst, arith, length-set, add-zero, zero-add, add-suc, suc-add, Option, Some, None, unwrap_or, ext_get_or}
use Rattle.std.specs.Prelude.{if◌then◌else◌}
use Rattle.std.specs.Option.{option_or}
use Rattle.std.proofs.lemmas.List.{nil_from_length, get_or-set_same, get_or-set_other, length-map, get_or-map}
use Rattle.std.proofs.lemmas.Bool.{cases_eq}
use Rattle.sii_words.specs.Plant.{words_of}
use Rattle.sii_words.specs.declared.run.Run.{Run}
use Rattle.sii_words.specs.Redo.{redone, last_given}
use Rattle.sii_words.proofs.RedoLaws.{last_given-append, word-redone, length-words_of-redone}
use Rattle.jrn_format.specs.declared.journal.Entry.{Entry}
use Rattle.book_model.specs.Cells.{Cell, Known, owing, opened, nothing, cell_of}
use Rattle.book_model.specs.Pending.{namings_settled}
use Rattle.book_model.proofs.SettledLaws.{word-settled}
use Rattle.book_model.specs.Entries.{runs_of, namings, values}
use Rattle.book_model.specs.Open.{owing_words}
use Rattle.book_model.specs.Reading.{runs_settled, settled_prefix}
use Rattle.book_model.specs.Owed.{MayBe, IsUnsure, CellFits, due, redone_word}
use Rattle.book_model.proofs.CellLaws.{values-append, opened-fits, owing-fits}
use Rattle.book_model.proofs.SettlingLaws.{slave-settled}
use Rattle.desk_laws.proofs.HalfLaws.{SameKnown}

-- a cell for each word, and each leads there
pub record WordsFit (slave : ℕ) (words : List ℕ) (runs : List Run) (cells : List Cell) : Type 0 where
  pub size : length cells ≡ length words
  pub each : (at : ℕ) → at < length cells → CellFits runs slave at (redone_word runs slave at (get_or words at 0)) (cell_of cells at)

-- as they were read
pub words-opened : (slave : ℕ) (words : List ℕ) → WordsFit slave words [] (map opened words)
words-opened slave words = record {
  size = length-map words opened;
  each = λ at within. rw (get_or-map opened words at 0 nothing (omega (arith, within, length-map words opened))) (opened-fits slave at (get_or words at 0));
}

-- ---- a batch goes live

length-owing : (runs : List Run) (slave first : ℕ) (cells : List Cell) → length (owing_words runs slave first cells) ≡ length cells
length-owing runs slave first [] = refl
length-owing runs slave first (c ∷ cells) = omega (arith, length-owing runs slave (suc first) cells)

known-owing : (runs : List Run) (slave first : ℕ) (cells : List Cell) (k : ℕ) → (cell_of (owing_words runs slave first cells) k).known ≡ (cell_of cells k).known
known-owing runs slave first [] k = refl
known-owing runs slave first (c ∷ cells) zero = refl
known-owing runs slave first (c ∷ cells) (suc k) = known-owing runs slave (suc first) cells k

pub same-owing : (runs : List Run) (slave : ℕ) (cells : List Cell) → SameKnown cells (owing_words runs slave 0 cells)
same-owing runs slave cells = record { size = length-owing runs slave 0 cells; known = known-owing runs slave 0 cells }

owing-at : (runs : List Run) (slave first : ℕ) (cells : List Cell) (k : ℕ) → k < length cells → cell_of (owing_words runs slave first cells) k ≡ owing (cell_of cells k) (values runs slave (first + k))
owing-at runs slave first [] k within = absurd (omega arith)
owing-at runs slave first (c ∷ cells) zero within = rw add-zero refl
owing-at runs slave first (c ∷ cells) (suc k) within = rw (add-suc first k, ← suc-add first k) (owing-at runs slave (suc first) cells k (omega arith))

either : (later first : Option ℕ) (word : ℕ) → unwrap_or (option_or later first) word ≡ unwrap_or later (unwrap_or first word)
either None first word = refl
either (Some value) first word = refl

redone-more : (runs more : List Run) (slave at word : ℕ) → redone_word more slave at (redone_word runs slave at word) ≡ redone_word (runs ++ more) slave at word
redone-more runs more slave at word =
    sym (ap (λ (given : Option ℕ). unwrap_or given word) (last_given-append runs more slave at) ∙ either (last_given more slave at) (last_given runs slave at) word)

pub words-live : (slave : ℕ) (words : List ℕ) (runs more : List Run) (cells : List Cell) → WordsFit slave words runs cells → WordsFit slave words (runs ++ more) (owing_words more slave 0 cells)
words-live slave words runs more cells fits = record {
  size = length-owing more slave 0 cells ∙ fits.size;
  each = λ at within.
      let inside : at < length cells = omega (arith, within, length-owing more slave 0 cells) in
      let target = redone_word runs slave at (get_or words at 0) in
      let here : cell_of (owing_words more slave 0 cells) at ≡ owing (cell_of cells at) (values more slave at) = rw zero-add at (owing-at more slave 0 cells at inside) in
      subst (λ (c : Cell). CellFits (runs ++ more) slave at (redone_word (runs ++ more) slave at (get_or words at 0)) c) (sym here)
      (subst (λ (t : ℕ). CellFits (runs ++ more) slave at t (owing (cell_of cells at) (values more slave at))) (redone-more runs more slave at (get_or words at 0))
      (owing-fits runs more slave at target (cell_of cells at) (fits.each at inside)));
}

-- ---- one cell changes

pub words-cell : (slave : ℕ) (words : List ℕ) (runs : List Run) (cells : List Cell) (word : ℕ) (cell : Cell) → word < length cells
    → ((target : ℕ) → CellFits runs slave word target (cell_of cells word) → CellFits runs slave word target cell) → WordsFit slave words runs cells → WordsFit slave words runs (set cells word cell)
words-cell slave words runs cells word cell inside step fits = record {
  size = length-set cells word cell ∙ fits.size;
  each = λ at within. one at (omega (arith, within, length-set cells word cell)) (cases_eq at word);
}
  where
    one : (at : ℕ) → at < length cells → (at ≡ word) ⊎ (at ≡ word → ⊥) → CellFits runs slave at (redone_word runs slave at (get_or words at 0)) (cell_of (set cells word cell) at)
    one at within (inl same) =
        subst (λ (n : ℕ). CellFits runs slave n (redone_word runs slave n (get_or words n 0)) (cell_of (set cells word cell) n)) (sym same)
        (rw (get_or-set_same cells word cell nothing inside) (step (redone_word runs slave word (get_or words word 0)) (fits.each word inside)))
    one at within (inr other) = rw (get_or-set_other cells word at cell nothing other) (fits.each at within)

-- ---- all is settled

-- a word that nothing names, or that is owed nothing
abbrev pub IsSettledWord : List Run → (slave at : ℕ) → Cell → Type 0
IsSettledWord runs slave at cell = (values runs slave at ≡ []) ⊎ (length cell.owed ≤ 0)

owes-nothing : (runs : List Run) (slave at target : ℕ) (cell : Cell) → CellFits runs slave at target cell → IsSettledWord runs slave at cell → cell.owed ≡ []
owes-nothing runs slave at target cell fits settled = nil_from_length cell.owed (elim settled [ inl unnamed ↦ omega (arith, fits.owed, ap length unnamed) | inr few ↦ omega (arith, few) ])

holds-target : (runs : List Run) (slave at target word : ℕ) (cell : Cell) → CellFits runs slave at target cell → IsSettledWord runs slave at cell → MayBe cell.known word → word ≡ target
holds-target runs slave at target word cell fits settled may = sym (ap (due word) (owes-nothing runs slave at target cell fits settled)) ∙ fits.leads word may

-- a settled word is known
pub unsure-owes : (slave : ℕ) (words : List ℕ) (runs : List Run) (cells : List Cell) (at : ℕ) → WordsFit slave words runs cells → at < length cells → IsSettledWord runs slave at (cell_of cells at) → IsUnsure (cell_of cells at).known → ⊥
unsure-owes slave words runs cells at fits inside settled unsure =
    let target = redone_word runs slave at (get_or words at 0) in
    let zero_is : 0 ≡ target = holds-target runs slave at target 0 (cell_of cells at) (fits.each at inside) settled (any 0) in
    let one_is : 1 ≡ target = holds-target runs slave at target 1 (cell_of cells at) (fits.each at inside) settled (any 1) in
    let no : 0 ≡ 1 = zero_is ∙ sym one_is in omega (arith, no)
  where
    any : (word : ℕ) → MayBe (cell_of cells at).known word
    any word = subst (λ (k : Known). MayBe k word) (sym unsure.1) tt

-- words that may stand there are those that the runs make
pub words-lead : (plant : List (List ℕ)) (slave : ℕ) (runs : List Run) (cells : List Cell) (left : List ℕ) → slave < length plant → WordsFit slave (words_of plant slave) runs cells
    → ((at : ℕ) → IsSettledWord runs slave at (cell_of cells at)) → length left ≡ length cells → ((at : ℕ) → at < length cells → MayBe (cell_of cells at).known (get_or left at 0))
    → left ≡ words_of (redone plant runs) slave
words-lead plant slave runs cells left within fits settled size may =
    ext_get_or 0 left (words_of (redone plant runs) slave) (size ∙ fits.size ∙ sym (length-words_of-redone plant runs slave within)) (λ at inside. word at (omega (arith, inside, size)))
  where
    word : (at : ℕ) → at < length cells → get_or left at 0 ≡ get_or (words_of (redone plant runs) slave) at 0
    word at inside =
        holds-target runs slave at (redone_word runs slave at (get_or (words_of plant slave) at 0)) (get_or left at 0) (cell_of cells at) (fits.each at inside) (settled at) (may at inside)
        ∙ sym (word-redone plant runs slave at within (omega (arith, inside, fits.size)))

-- ---- the settled prefix is all there is

settled-first : (cells : List (List Cell)) (afterwards runs : List Run) (slave at : ℕ) → runs_settled cells afterwards runs ≡ true → slave < length cells → IsSettledWord afterwards slave at (cell_of (get_or cells slave []) at)
    → IsSettledWord (runs ++ afterwards) slave at (cell_of (get_or cells slave []) at)
settled-first cells afterwards runs slave at is within (inr few) = inr few
settled-first cells afterwards runs slave at is within (inl unnamed) =
    let here : namings_settled (get_or cells slave []) (namings afterwards slave) (namings runs slave) ≡ true = rw zero-add at (slave-settled 0 cells afterwards runs slave is within) in
    elim (word-settled (get_or cells slave []) (namings afterwards slave) (namings runs slave) at here) [
      | inl none ↦ inl (values-append runs afterwards slave at ∙ ap (λ (l : List ℕ). l ++ values afterwards slave at) none ∙ unnamed)
      | inr few ↦ inr (omega (arith, few, ap length unnamed))
    ]

-- the first entry is settled, and so are those after it
prefix-all : (first : Bool) (others all : ℕ) → (if first then suc others else 0) ≡ suc all → (first ≡ true) × (others ≡ all)
prefix-all true others all is = (refl, omega (arith, is))
prefix-all false others all is = absurd (omega (arith, is))

pub all-settled : (cells : List (List Cell)) (entries : List Entry) (slave : ℕ) → settled_prefix cells entries ≡ length entries → slave < length cells
    → (at : ℕ) → IsSettledWord (runs_of entries) slave at (cell_of (get_or cells slave []) at)
all-settled cells [] slave is within at = inl refl
all-settled cells (e ∷ entries) slave is within at =
    let both = prefix-all (runs_settled cells (runs_of entries) e.runs) (settled_prefix cells entries) (length entries) is in
    settled-first cells (runs_of entries) e.runs slave at both.0 within (all-settled cells entries slave both.1 within at)
