-- Words are named one after the other.
use Rattle.std.proofs.Common.{◌≡◌, ◌≢◌, inl, inr, ℕ, zero, suc, ◌+◌, ◌-◌, ◌<◌, true, false, List, [], ◌∷◌, ◌++◌, length, take, get_or, map, refl, sym, ◌∙◌, ap, subst, arith, append_assoc}
use Rattle.std.proofs.lemmas.List.{length-set, get_or-set_same, get_or-set_other, append-nil, take_more}
use Rattle.std.proofs.lemmas.Bool.{cases_eq}
use Rattle.std.specs.Prelude.{◌==◌}
use Rattle.std.proofs.lemmas.Bool.Decides.{nat_tests}
use Rattle.book_model.specs.Cells.{Cell, nothing, cell_of, owing}
use Rattle.book_model.specs.Pending.{Pending, word_named, values_of}
use Rattle.book_model.specs.Entries.{named_from}
use Rattle.book_parts.specs.Works.{words_named}
use Rattle.book_model.proofs.EndLaws.{other_test, same_test}

-- WHAT A RUN NAMES

pub length-named_from : (first : ℕ) (words : List ℕ) → length (named_from first words) ≡ length words
length-named_from first [] = refl
length-named_from first (w ∷ ws) = ap suc (length-named_from (suc first) ws)

pub named_from-at : (first : ℕ) (words : List ℕ) (i : ℕ) → i < length words → get_or (named_from first words) i (0, 0) ≡ (first + i, get_or words i 0)
named_from-at first [] i lt = absurd (omega arith)
named_from-at first (w ∷ ws) zero lt = let z : first ≡ first + 0 = omega arith in ap (λ (n : ℕ). let p : ℕ × ℕ = (n, w) in p) z
named_from-at first (w ∷ ws) (suc i) lt =
    let s : suc first + i ≡ first + suc i = omega arith in
    named_from-at (suc first) ws i (omega arith) ∙ ap (λ (n : ℕ). let p : ℕ × ℕ = (n, get_or ws i 0) in p) s

-- ONE AFTER THE OTHER

pub named-append : (p : Pending) (xs ys : List (ℕ × ℕ)) (number : ℕ) → words_named p (xs ++ ys) number ≡ words_named (words_named p xs number) ys number
named-append p [] ys number = refl
named-append p (x ∷ xs) ys number = named-append (word_named p x.0 x.1 number) xs ys number

pub named-cells : (p : Pending) (ns : List (ℕ × ℕ)) (number : ℕ) → length (words_named p ns number).cells ≡ length p.cells
named-cells p [] number = refl
named-cells p (n ∷ ns) number = named-cells (word_named p n.0 n.1 number) ns number ∙ length-set p.cells n.0 (owing (cell_of p.cells n.0) (n.1 ∷ []))

pub named-room : (p : Pending) (ns : List (ℕ × ℕ)) (number : ℕ) → (words_named p ns number).room ≡ p.room - length ns
named-room p [] number = omega arith
named-room p (n ∷ ns) number = named-room (word_named p n.0 n.1 number) ns number ∙ sub-one p.room (length ns)
  where
    sub-one : (a b : ℕ) → a - 1 - b ≡ a - suc b
    sub-one a b = omega arith

pub named-live : (p : Pending) (ns : List (ℕ × ℕ)) (number : ℕ) → (words_named p ns number).live ≡ p.live ++ ns
named-live p [] number = sym (append-nil p.live)
named-live p (n ∷ ns) number = named-live (word_named p n.0 n.1 number) ns number ∙ append_assoc p.live (n ∷ []) ns

pub named-numbers : (p : Pending) (ns : List (ℕ × ℕ)) (number : ℕ) → (words_named p ns number).numbers ≡ p.numbers ++ map (λ (n : ℕ × ℕ). number) ns
named-numbers p [] number = sym (append-nil p.numbers)
named-numbers p (n ∷ ns) number = named-numbers (word_named p n.0 n.1 number) ns number ∙ append_assoc p.numbers (number ∷ []) (map (λ (m : ℕ × ℕ). number) ns)

pub named-cell : (p : Pending) (ns : List (ℕ × ℕ)) (number k : ℕ) → k < length p.cells → cell_of (words_named p ns number).cells k ≡ owing (cell_of p.cells k) (values_of k ns)
named-cell p [] number k within = refl
named-cell p (n ∷ ns) number k within =
    let next = word_named p n.0 n.1 number in
    let rest : cell_of (words_named next ns number).cells k ≡ owing (cell_of next.cells k) (values_of k ns) = named-cell next ns number k (omega (arith, length-set p.cells n.0 (owing (cell_of p.cells n.0) (n.1 ∷ [])))) in
    elim (cases_eq k n.0) [
      | inl is ↦
          let t = same_test n.0 k (sym is) in
          let e : cell_of next.cells k ≡ owing (cell_of p.cells k) (n.1 ∷ []) = subst (λ (i : ℕ). cell_of next.cells i ≡ owing (cell_of p.cells i) (n.1 ∷ [])) (sym is) (get_or-set_same p.cells n.0 (owing (cell_of p.cells n.0) (n.1 ∷ [])) nothing (subst (λ (i : ℕ). i < length p.cells) is within)) in
          rw t (rest ∙ ap (λ (c : Cell). owing c (values_of k ns)) e)
      | inr not ↦
          let t = other_test n.0 k (λ same. not (sym same)) in
          let e : cell_of next.cells k ≡ cell_of p.cells k = get_or-set_other p.cells n.0 k (owing (cell_of p.cells n.0) (n.1 ∷ [])) nothing not in
          rw t (rest ∙ ap (λ (c : Cell). owing c (values_of k ns)) e)
    ]

-- as the code names a run: one word more
pub run-more : (p now : Pending) (first i number : ℕ) (words : List ℕ) → i < length words → now ≡ words_named p (take i (named_from first words)) number
    → word_named now (first + i) (get_or words i 0) number ≡ words_named p (take (i + 1) (named_from first words)) number
run-more p now first i number words within is =
    ap (λ (q : Pending). word_named q (first + i) (get_or words i 0) number) is
    ∙ sym (ap (λ (l : List (ℕ × ℕ)). words_named p l number) (take_more (named_from first words) i (0, 0) (omega (arith, length-named_from first words)) ∙ ap (λ (n : ℕ × ℕ). take i (named_from first words) ++ n ∷ []) (named_from-at first words i within))
    ∙ named-append p (take i (named_from first words)) ((first + i, get_or words i 0) ∷ []) number)
