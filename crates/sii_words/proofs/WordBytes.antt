-- The bytes of a list of words.
use Rattle.std.proofs.Common.{◌≡◌, ℕ, suc, ◌+◌, ◌*◌, ◌/◌, ◌%◌, ◌<◌, List, [], ◌∷◌, ◌++◌, length, get_or, take, set, refl, ap, append_assoc, Fits, w8, w16, arith}
use Rattle.std.proofs.Math.Seq.{take-suc-set}
use Rattle.std.proofs.Math.ListN.{length-set}
use Rattle.std.proofs.lemmas.List.{take_more}
use Rattle.sii_words.specs.Words.{bytes_of}

bytes_of-append : (words more : List ℕ) → bytes_of (words ++ more) ≡ bytes_of words ++ bytes_of more
bytes_of-append [] more = refl
bytes_of-append (word ∷ words) more = ap (λ (bytes : List ℕ). word % 256 ∷ word / 256 ∷ bytes) (bytes_of-append words more)

pub length-bytes_of : (words : List ℕ) → length (bytes_of words) ≡ 2 * length words
length-bytes_of [] = refl
length-bytes_of (word ∷ words) = omega (arith, length-bytes_of words)

-- the bytes of one word more
pub bytes_of-more : (words pair : List ℕ) (i : ℕ) → i < length words → Fits w16 (get_or words i 0)
    → pair ≡ get_or words i 0 % 256 ∷ get_or words i 0 / 256 % 256 ∷ [] → bytes_of (take (i + 1) words) ≡ bytes_of (take i words) ++ pair
bytes_of-more words pair i within fits spelt =
    let high : get_or words i 0 / 256 % 256 ≡ get_or words i 0 / 256 = omega arith in
    rw (take_more words i 0 within, bytes_of-append (take i words) (get_or words i 0 ∷ []), spelt, high) refl

-- two bytes written after the first k
pub take-two_set : (bytes : List ℕ) (k low high : ℕ) → k + 1 < length bytes
    → take (k + 2) (set (set bytes k low) (k + 1) high) ≡ take k bytes ++ low ∷ high ∷ []
take-two_set bytes k low high within =
    let first : k < length bytes = omega arith in
    let second : k + 1 < length (set bytes k low) = omega (arith, length-set bytes k low) in
    let two : k + 2 ≡ suc (k + 1) = omega arith in
    let one : k + 1 ≡ suc k = omega arith in
    rw (two, take-suc-set (set bytes k low) (k + 1) high second, one, take-suc-set bytes k low first, append_assoc) refl

pub low_of : (low high : ℕ) → low < 256 → (low + high * 256) % 256 ≡ low
low_of low high fits = omega arith

pub high_of : (low high : ℕ) → low < 256 → (low + high * 256) / 256 ≡ high
high_of low high fits = omega arith

-- one word more is read
pub word_read : (words bytes : List ℕ) (i word : ℕ) → i < length words → length bytes ≡ 2 * length words → ((k : ℕ) → Fits w8 (get_or bytes k 0))
    → word ≡ get_or bytes (2 * i) 0 + get_or bytes (2 * i + 1) 0 * 256 → bytes_of (take i words) ≡ take (2 * i) bytes
    → bytes_of (take (i + 1) (set words i word)) ≡ take (2 * (i + 1)) bytes
word_read words bytes i word within count fits spelt so_far =
    let one : i + 1 ≡ suc i = omega arith in
    let two : 2 * (i + 1) ≡ 2 * i + 1 + 1 = omega arith in
    let first : 2 * i < length bytes = omega arith in
    let second : 2 * i + 1 < length bytes = omega arith in
    let low : get_or bytes (2 * i) 0 < 256 = omega (arith, fits (2 * i)) in
    rw (
      two,
      take_more bytes (2 * i + 1) 0 second,
      take_more bytes (2 * i) 0 first,
      append_assoc,
      one,
      take-suc-set words i word within,
      bytes_of-append (take i words) (word ∷ []),
      spelt,
      low_of (get_or bytes (2 * i) 0) (get_or bytes (2 * i + 1) 0) low,
      high_of (get_or bytes (2 * i) 0) (get_or bytes (2 * i + 1) 0) low,
      so_far,
    ) refl

-- lists of words with the same bytes are equal
pub same_bytes : (words others : List ℕ) → bytes_of words ≡ bytes_of others → words ≡ others
same_bytes [] [] same = refl
same_bytes [] (other ∷ others) same = cc
same_bytes (word ∷ words) [] same = cc
same_bytes (word ∷ words) (other ∷ others) same =
    let low : word % 256 ≡ other % 256 = cc in
    let high : word / 256 ≡ other / 256 = cc in
    let first : word ≡ other = omega arith in
    let bytes : bytes_of words ≡ bytes_of others = cc in
    let rest = same_bytes words others bytes in
    cc
