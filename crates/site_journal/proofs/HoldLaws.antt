-- A word whose value is unknown may hold anything.
use Rattle.std.proofs.Common.{◌≡◌, ◌≢◌, ◌⊎◌, inl, inr, ℕ, ◌<◌, List, [], length, get_or, set, sym, ◌∙◌, ap, subst, length-set, Some}
use Rattle.std.specs.Prelude.{slice_get}
use Rattle.std.proofs.lemmas.Bool.{cases_eq}
use Rattle.std.proofs.lemmas.List.{get_or-set_same, get_or-set_other}
use Rattle.std.proofs.lemmas.Option.{slice_get_within, get_or_from_slice_get}
use Rattle.sii_words.specs.Plant.{words_of}
use Rattle.book_model.specs.Cells.{Known, Cell}
use Rattle.book_model.specs.Book.{cell_at}
use Rattle.book_model.specs.Owed.{MayBe, IsUnsure}
use Rattle.book_model.specs.Plants.{word_at, MayHoldAll}

module _ (plant : List (List ℕ)) (cells : List (List Cell)) (left : List (List ℕ)) (may : MayHoldAll plant cells left) (i word held : ℕ) (words : List ℕ) (here : slice_get left i ≡ Some words) (unsure : IsUnsure (cell_at cells i word).known) where
  -- the words with this one exchanged
  abbrev torn : List (List ℕ)
  torn = set left i (set words word held)

  same-words : words_of left i ≡ words
  same-words = get_or_from_slice_get left i words [] here

  there : words_of torn i ≡ set words word held
  there = get_or-set_same left i (set words word held) [] (slice_get_within left i words here)

  elsewhere : (k : ℕ) → k ≢ i → words_of torn k ≡ words_of left k
  elsewhere k other = get_or-set_other left i k (set words word held) [] other

  size : (k : ℕ) → (k ≡ i) ⊎ (k ≢ i) → length (words_of torn k) ≡ length (words_of plant k)
  size k (inl same) =
      subst (λ (n : ℕ). length (words_of torn n) ≡ length (words_of plant n)) (sym same)
      (ap length there ∙ length-set words word held ∙ ap length (sym same-words) ∙ may.shape.words i)
  size k (inr other) = ap length (elsewhere k other) ∙ may.shape.words k

  one-word : (at : ℕ) → i < length plant → at < length (words_of plant i) → (at ≡ word) ⊎ (at ≢ word) → MayBe (cell_at cells i at).known (word_at torn i at)
  one-word at within inside (inl same) =
      subst (λ (n : ℕ). MayBe (cell_at cells i n).known (word_at torn i n)) (sym same) (subst (λ (k : Known). MayBe k (word_at torn i word)) (sym unsure.1) tt)
  one-word at within inside (inr other) =
      subst (λ (n : ℕ). MayBe (cell_at cells i at).known n)
      (sym (ap (λ (l : List ℕ). get_or l at 0) there ∙ get_or-set_other words word at held 0 other ∙ ap (λ (l : List ℕ). get_or l at 0) (sym same-words))) (may.words i at within inside)

  one : (k at : ℕ) → k < length plant → at < length (words_of plant k) → (k ≡ i) ⊎ (k ≢ i) → MayBe (cell_at cells k at).known (word_at torn k at)
  one k at within inside (inl same) =
      subst (λ (n : ℕ). MayBe (cell_at cells n at).known (word_at torn n at)) (sym same)
      (one-word at (subst (λ (n : ℕ). n < length plant) same within) (subst (λ (n : ℕ). at < length (words_of plant n)) same inside) (cases_eq at word))
  one k at within inside (inr other) = subst (λ (l : List ℕ). MayBe (cell_at cells k at).known (get_or l at 0)) (sym (elsewhere k other)) (may.words k at within inside)

  pub holds-torn : MayHoldAll plant cells torn
  holds-torn = record {
    shape = record { slaves = length-set left i (set words word held) ∙ may.shape.slaves; words = λ k. size k (cases_eq k i) };
    words = λ k at within inside. one k at within inside (cases_eq k i);
  }
