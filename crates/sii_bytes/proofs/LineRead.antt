-- The slaves of a line, one after the other.
use Rattle.std.proofs.Common.{◌≡◌, ℕ, ◌+◌, ◌-◌, ◌<◌, ◌≤◌, List, [], ◌∷◌, ◌++◌, length, map, take, drop, get_or, Result, Ok, Err, refl, sym, ap, subst, ◌∙◌, inl, inr, arith}
use Rattle.std.specs.List.{fold, sum}
use Rattle.std.proofs.lemmas.List.{append_assoc, append-nil, drop_all, drop_more, length-drop, length-map}
use Rattle.std.proofs.lemmas.List.Elements.{All-cons}
use Rattle.sii_words.specs.Words.{IsDeviceSize}
use Rattle.sii_bytes.specs.Bytes.{AreRefused, AreWords, words_in}
use Rattle.sii_bytes.specs.Line.{FirstRefused, ReadsEach, pieces}

-- the slaves that were read before, and those after them
abbrev pub prepend : List (List ℕ) → Result (List (List ℕ)) ℕ → Result (List (List ℕ)) ℕ
prepend front (Ok plant) = Ok (front ++ plant)
prepend front (Err code) = Err code

prepend-twice : (front : List (List ℕ)) (words : List ℕ) (rest : Result (List (List ℕ)) ℕ) → prepend front (prepend (words ∷ []) rest) ≡ prepend (front ++ words ∷ []) rest
prepend-twice front words (Ok plant) = ap Ok (sym (append_assoc front (words ∷ []) plant))
prepend-twice front words (Err code) = refl

-- What is read of the slaves that are left is, after those that were read, what is read of all.
abbrev pub Onward : (slaves : List (List ℕ)) (after left lengths bytes : List ℕ) → Type 0
Onward slaves after left lengths bytes = (rest : Result (List (List ℕ)) ℕ) → ReadsEach (pieces after left) rest → ReadsEach (pieces lengths bytes) (prepend slaves rest)

pub onward-begins : (lengths bytes : List ℕ) → Onward [] lengths bytes lengths bytes
onward-begins lengths bytes (Ok plant) reads = reads
onward-begins lengths bytes (Err code) reads = reads

-- one slave, and those after it
reads-one : (piece words : List ℕ) (others : List (List ℕ)) (rest : Result (List (List ℕ)) ℕ) → AreWords IsDeviceSize piece → words ≡ words_in piece → ReadsEach others rest
    → ReadsEach (piece ∷ others) (prepend (words ∷ []) rest)
reads-one piece words others (Ok plant) are is reads = (All-cons (AreWords IsDeviceSize) piece others are reads.0, (let all = reads.1 in cc))
reads-one piece words others (Err code) are is reads = inr (are, reads)

fold-from : (a : ℕ) (xs : List ℕ) → fold ◌+◌ a xs ≡ a + fold ◌+◌ 0 xs
fold-from a [] = omega arith
fold-from a (x ∷ xs) = let one = fold-from (a + x) xs in let two = fold-from (0 + x) xs in omega arith

sum-cons : (x : ℕ) (xs : List ℕ) → sum (x ∷ xs) ≡ x + sum xs
sum-cons x xs = let all : fold ◌+◌ (0 + x) xs ≡ 0 + x + fold ◌+◌ 0 xs = fold-from (0 + x) xs in omega arith

module _ (lengths : List ℕ) (i d : ℕ) (within : i < length lengths) where
  pub next-length : drop i lengths ≡ get_or lengths i d ∷ drop (i + 1) lengths
  next-length = drop_more lengths i d within

  pub next-sum : sum (drop i lengths) ≡ get_or lengths i d + sum (drop (i + 1) lengths)
  next-sum = ap sum next-length ∙ sum-cons (get_or lengths i d) (drop (i + 1) lengths)

  module _ (slaves : List (List ℕ)) (left bytes first after : List ℕ) (onward : Onward slaves (drop i lengths) left lengths bytes)
      (front : first ≡ take (get_or lengths i d) left) (back : after ≡ drop (get_or lengths i d) left) where
    here : (rest : Result (List (List ℕ)) ℕ) → ReadsEach (first ∷ pieces (drop (i + 1) lengths) after) rest → ReadsEach (pieces (drop i lengths) left) rest
    here rest reads =
        subst (λ (l : List ℕ). ReadsEach (pieces l left) rest) (sym next-length)
        (subst (λ (b : List ℕ). ReadsEach (take (get_or lengths i d) left ∷ pieces (drop (i + 1) lengths) b) rest) back
        (subst (λ (f : List ℕ). ReadsEach (f ∷ pieces (drop (i + 1) lengths) after) rest) front reads))

    pub onward-more : (words : List ℕ) → AreWords IsDeviceSize first → words ≡ words_in first → Onward (slaves ++ words ∷ []) (drop (i + 1) lengths) after lengths bytes
    onward-more words are is rest reads =
        subst (λ (r : Result (List (List ℕ)) ℕ). ReadsEach (pieces lengths bytes) r) (prepend-twice slaves words rest)
        (onward (prepend (words ∷ []) rest) (here (prepend (words ∷ []) rest) (reads-one first words (pieces (drop (i + 1) lengths) after) rest are is reads)))

    pub onward-refused : (code : ℕ) → AreRefused IsDeviceSize first code → FirstRefused (pieces lengths bytes) code
    onward-refused code refused = onward (Err code) (here (Err code) (inl refused))

pub onward-ends : (slaves : List (List ℕ)) (after left lengths bytes : List ℕ) → after ≡ [] → Onward slaves after left lengths bytes → ReadsEach (pieces lengths bytes) (Ok slaves)
onward-ends slaves after left lengths bytes none onward =
    subst (λ (l : List (List ℕ)). ReadsEach (pieces lengths bytes) (Ok l)) (append-nil slaves)
    (onward (Ok []) (subst (λ (b : List ℕ). ReadsEach (pieces b left) (Ok [])) (sym none) ((λ k d few. absurd (omega arith)), refl)))

pub entire-more : (lengths left after : List ℕ) (i d : ℕ) → i < length lengths → sum (drop i lengths) ≡ length left → after ≡ drop (get_or lengths i d) left
    → sum (drop (i + 1) lengths) ≡ length after
entire-more lengths left after i d within entire back =
    let next = next-sum lengths i d within in
    let long : length after ≡ length left - get_or lengths i d = ap length back ∙ length-drop (get_or lengths i d) left in
    omega arith

pub onward-as : (slaves now : List (List ℕ)) (after left lengths bytes : List ℕ) → now ≡ slaves → Onward slaves after left lengths bytes → Onward now after left lengths bytes
onward-as slaves now after left lengths bytes is onward = subst (λ (l : List (List ℕ)). Onward l after left lengths bytes) (sym is) onward

pub nothing-left : (lengths : List ℕ) (i : ℕ) → length lengths ≤ i → drop i lengths ≡ []
nothing-left lengths i all = drop_all i lengths all

piece-count : (lengths bytes : List ℕ) → length (pieces lengths bytes) ≡ length lengths
piece-count [] bytes = refl
piece-count (count ∷ lengths) bytes = let rest = piece-count lengths (drop count bytes) in omega arith

-- there is a slave for each length
pub slave-count : (lengths bytes : List ℕ) (slaves : List (List ℕ)) → slaves ≡ map words_in (pieces lengths bytes) → length slaves ≡ length lengths
slave-count lengths bytes slaves are = ap length are ∙ length-map (pieces lengths bytes) words_in ∙ piece-count lengths bytes
