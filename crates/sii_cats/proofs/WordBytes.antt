-- Words and their bytes.
use Rattle.std.proofs.Common.{◌≡◌, ℕ, zero, suc, ◌+◌, ◌*◌, ◌/◌, ◌%◌, ◌^◌, ◌<◌, List, [], ◌∷◌, ◌++◌, length, get_or, take, refl, sym, ap, ◌∙◌, append_assoc, arith}
use Rattle.std.specs.Int.{w16, to_le_bytes}
use Rattle.std.proofs.lemmas.List.{take_more, flat_map_more}
use Rattle.std.specs.List.{flat_map}
use Rattle.sii_cats.specs.Bytes.{number, bytes_of, padded}

pub bytes_of-append : (xs ys : List ℕ) → bytes_of (xs ++ ys) ≡ bytes_of xs ++ bytes_of ys
bytes_of-append [] ys = refl
bytes_of-append (x ∷ xs) ys = ap (λ (bytes : List ℕ). x % 256 ∷ x / 256 ∷ bytes) (bytes_of-append xs ys)

pub length-bytes_of : (words : List ℕ) → length (bytes_of words) ≡ 2 * length words
length-bytes_of [] = refl
length-bytes_of (word ∷ words) = omega (arith, length-bytes_of words)

pub number-low : (low high : ℕ) → low < 256 → number low high % 256 ≡ low
number-low low high h = omega arith

pub number-high : (low high : ℕ) → low < 256 → number low high / 256 ≡ high
number-high low high h = omega arith

-- the bytes of the word that two bytes are
pub bytes_of-number : (low high : ℕ) → low < 256 → bytes_of (number low high ∷ []) ≡ low ∷ high ∷ []
bytes_of-number low high h = rw (number-low low high h, number-high low high h) refl

-- one more word
pub bytes_of-push : (words : List ℕ) (word : ℕ) → word < 2 ^ 16 → bytes_of (words ++ word ∷ []) ≡ bytes_of words ++ to_le_bytes w16 word
bytes_of-push words word h = bytes_of-append words (word ∷ []) ∙ ap (λ (bytes : List ℕ). bytes_of words ++ bytes) (let e : word / 256 % 256 ≡ word / 256 = omega arith in rw e refl)

pub unpacked_more : (words : List ℕ) (i : ℕ) → i < length words → get_or words i 0 < 2 ^ 16
    → bytes_of (take (i + 1) words) ≡ bytes_of (take i words) ++ to_le_bytes w16 (get_or words i 0)
unpacked_more words i lt fits = ap bytes_of (take_more words i 0 lt) ∙ bytes_of-push (take i words) (get_or words i 0) fits

-- the words so far, and the word that the next two bytes are, or the last one alone
pub packed_more : (words : List ℕ) (word : ℕ) (cells rest total : List ℕ) → padded cells ≡ bytes_of (word ∷ []) ++ padded rest
    → bytes_of words ++ padded cells ≡ total → bytes_of (words ++ word ∷ []) ++ padded rest ≡ total
packed_more words word cells rest total step so_far =
    ap (λ (bytes : List ℕ). bytes ++ padded rest) (bytes_of-append words (word ∷ []))
    ∙ append_assoc (bytes_of words) (bytes_of (word ∷ [])) (padded rest) ∙ sym (ap (λ (bytes : List ℕ). bytes_of words ++ bytes) step) ∙ so_far

-- each is a byte
abbrev pub IsBytes : List ℕ → Type 0
IsBytes bytes = (i : ℕ) → get_or bytes i 0 < 256

pub IsBytes-rest : (front rest : List ℕ) → IsBytes (front ++ rest) → IsBytes rest
IsBytes-rest [] rest h = h
IsBytes-rest (b ∷ front) rest h = IsBytes-rest front rest (λ i. h (suc i))

pub IsBytes-bytes_of : (words : List ℕ) → ((i : ℕ) → get_or words i 0 < 2 ^ 16) → IsBytes (bytes_of words)
IsBytes-bytes_of [] h i = omega arith
IsBytes-bytes_of (word ∷ words) h zero = omega arith
IsBytes-bytes_of (word ∷ words) h (suc zero) = let fits : word < 2 ^ 16 = h 0 in omega arith
IsBytes-bytes_of (word ∷ words) h (suc (suc i)) = IsBytes-bytes_of words (λ k. h (suc k)) i

pub number_again : (n : ℕ) → number (n % 256) (n / 256) ≡ n
number_again n = omega arith

-- the spellings so far, and one more
pub written_more : {X : Type 0} (spell : X → List ℕ) (front words ws : List ℕ) (xs : List X) (i : ℕ) (d : X) → i < length xs
    → bytes_of words ≡ front ++ flat_map spell (take i xs) → bytes_of ws ≡ spell (get_or xs i d) → bytes_of (words ++ ws) ≡ front ++ flat_map spell (take (i + 1) xs)
written_more spell front words ws xs i d lt so_far one =
    bytes_of-append words ws ∙ ap (λ (bytes : List ℕ). bytes ++ bytes_of ws) so_far ∙ ap (λ (bytes : List ℕ). (front ++ flat_map spell (take i xs)) ++ bytes) one
    ∙ flat_map_more spell front (take i xs) (get_or xs i d) ∙ ap (λ ys. front ++ flat_map spell ys) (sym (take_more xs i d lt))
