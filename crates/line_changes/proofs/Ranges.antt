-- Lists that are made number by number, and the changes of one slave after another.
use Rattle.std.proofs.Common.{◌≡◌, ℕ, zero, suc, ◌+◌, List, [], ◌∷◌, ◌++◌, sym, ap, ◌∙◌, add-one, arith}
use Rattle.std.proofs.lemmas.List.{flat_map_more}
use Rattle.std.specs.List.{flat_map, range_with_len}
use Rattle.sii_words.specs.Plant.{words_of}
use Rattle.line_changes.specs.Changes.{changes_of}
use Rattle.line_changes.specs.declared.changes.ChangedWord.{ChangedWord}

range_more : (a n j : ℕ) → a + n ≡ j → range_with_len a (suc n) ≡ range_with_len a n ++ j ∷ []
range_more a zero j is = ap (λ k. k ∷ []) (omega (arith, is))
range_more a (suc n) j is = ap (λ rest. a ∷ rest) (range_more (a + 1) n j (omega (arith, is)))

-- what a further number adds
added : {A : Type 0} (f : ℕ → List A) (before : List A) (n m : ℕ) → m ≡ suc n → (before ++ flat_map f (range_with_len 0 n)) ++ f n ≡ before ++ flat_map f (range_with_len 0 m)
added f before n m is =
    flat_map_more f before (range_with_len 0 n) n ∙ ap (λ ks. before ++ flat_map f ks) (sym (range_more 0 n n (omega arith)))
    ∙ ap (λ k. before ++ flat_map f (range_with_len 0 k)) (sym is)

pub next_of : {A : Type 0} (f : ℕ → List A) (start now items : List A) (n : ℕ) → now ≡ start ++ flat_map f (range_with_len 0 n) → items ≡ now ++ f n → items ≡ start ++ flat_map f (range_with_len 0 (n + 1))
next_of f start now items n began is = is ∙ ap (λ xs. xs ++ f n) began ∙ added f start n (n + 1) (add-one n)

-- a further slave
pub next_slave : (olds news : List (List ℕ)) (slave : ℕ) (before after : List ℕ) (start items : List ChangedWord) → before ≡ words_of olds slave → after ≡ words_of news slave
    → start ≡ flat_map (λ slave. changes_of slave (words_of olds slave) (words_of news slave)) (range_with_len 0 slave) → items ≡ start ++ changes_of slave before after
    → items ≡ flat_map (λ slave. changes_of slave (words_of olds slave) (words_of news slave)) (range_with_len 0 (slave + 1))
next_slave olds news slave before after start items old_is new_is began is =
    next_of (λ s. changes_of s (words_of olds s) (words_of news s)) [] start items slave began
    (is ∙ ap (λ words. start ++ changes_of slave words after) old_is ∙ ap (λ words. start ++ changes_of slave (words_of olds slave) words) new_is)
