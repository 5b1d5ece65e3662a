-- A loop that changes the items of a list one by one.
use Rattle.std.proofs.Common.{◌≡◌, ℕ, zero, suc, ◌+◌, ◌<◌, ◌≤◌, List, [], ◌∷◌, ◌++◌, length, take, drop, set, get_or, map, refl, sym, ◌∙◌, ap, arith}
use Rattle.std.proofs.lemmas.List.{take_more, take_more_set, drop-set-lt, drop_more, map-append, length-set, take_all}

-- the first items are changed, the others not yet
pub record Mapped {X : Type 0} (f : X → X) (old now : List X) (i : ℕ) : Type 0 where
  pub same : length now ≡ length old
  pub done : take i now ≡ map f (take i old)
  pub rest : drop i now ≡ drop i old

pub mapped-item : {X : Type 0} (f : X → X) (old now : List X) (i : ℕ) (d : X) → Mapped f old now i → i < length old → get_or now i d ≡ get_or old i d
mapped-item {X} f old now i d m within =
    let one : get_or now i d ∷ drop (i + 1) now ≡ get_or old i d ∷ drop (i + 1) old = sym (drop_more now i d (omega (arith, m.same))) ∙ m.rest ∙ drop_more old i d within in
    cc

mapped-after : {X : Type 0} (f : X → X) (old now : List X) (i : ℕ) (d : X) → Mapped f old now i → i < length old → drop (i + 1) now ≡ drop (i + 1) old
mapped-after {X} f old now i d m within =
    let one : get_or now i d ∷ drop (i + 1) now ≡ get_or old i d ∷ drop (i + 1) old = sym (drop_more now i d (omega (arith, m.same))) ∙ m.rest ∙ drop_more old i d within in
    cc

pub mapped-more : {X : Type 0} (f : X → X) (old now : List X) (i : ℕ) (d x : X) → Mapped f old now i → i < length old → x ≡ f (get_or now i d) → Mapped f old (set now i x) (i + 1)
mapped-more {X} f old now i d x m within is = record {
  same = length-set now i x ∙ m.same;
  done = take_more_set now i x (omega (arith, m.same))
      ∙ ap (λ (l : List X). l ++ x ∷ []) m.done
      ∙ ap (λ (y : X). map f (take i old) ++ y ∷ []) (is ∙ ap f (mapped-item f old now i d m within))
      ∙ sym (map-append f (take i old) (get_or old i d ∷ []))
      ∙ sym (ap (map f) (take_more old i d within));
  rest = drop-set-lt (i + 1) now i x (omega arith) ∙ mapped-after f old now i d m within;
}

pub mapped-all : {X : Type 0} (f : X → X) (old now : List X) (i : ℕ) → Mapped f old now i → length old ≤ i → now ≡ map f old
mapped-all {X} f old now i m le = sym (take_all i now (omega (arith, m.same))) ∙ m.done ∙ ap (map f) (take_all i old le)

-- inside a list the default doesn't matter
pub get-any : {X : Type 0} (xs : List X) (i : ℕ) (d e : X) → i < length xs → get_or xs i d ≡ get_or xs i e
get-any {X} [] i d e lt = absurd (omega arith)
get-any {X} (x ∷ xs) zero d e lt = refl
get-any {X} (x ∷ xs) (suc i) d e lt = get-any xs i d e (omega arith)
