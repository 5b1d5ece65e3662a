-- The words that bytes spell.
use Rattle.std.proofs.Common.{◌≡◌, ℕ, ◌+◌, ◌*◌, ◌/◌, ◌%◌, List, [], ◌∷◌, length, refl, sym, ap, subst, ◌∙◌, arith, Result, Ok, Err}
use Rattle.std.specs.Prelude.{IfErr, IsErrAnd}
use Rattle.sii_words.specs.Words.{bytes_of}
use Rattle.sii_words.proofs.WordBytes.{length-bytes_of}
use Rattle.sii_bytes.specs.Bytes.{AreWords, words_in}

words_in-bytes_of : (words : List ℕ) → words_in (bytes_of words) ≡ words
words_in-bytes_of [] = refl
words_in-bytes_of (word ∷ words) =
    let first : word % 256 + 256 * (word / 256) ≡ word = omega arith in
    let rest = words_in-bytes_of words in
    cc

-- words with these bytes are those that the bytes spell
pub spelt_by : (words bytes : List ℕ) → bytes_of words ≡ bytes → words ≡ words_in bytes
spelt_by words bytes spelt = sym (words_in-bytes_of words) ∙ ap words_in spelt

-- there are two bytes for each word
pub length-words_in : (bytes : List ℕ) → length bytes % 2 ≡ 0 → length bytes ≡ 2 * length (words_in bytes)
length-words_in [] entire = refl
length-words_in (low ∷ []) entire = absurd (omega arith)
length-words_in (low ∷ high ∷ bytes) entire =
    let rest : length bytes % 2 ≡ 0 = omega arith in
    let count = length-words_in bytes rest in
    omega arith

-- bytes that were read are whole words
pub read_entire : (Size : ℕ → Type 0) (words bytes : List ℕ) → bytes_of words ≡ bytes → length words ≡ length bytes / 2 → Size (length words) → AreWords Size bytes
read_entire Size words bytes spelt count size =
    let all : length bytes ≡ 2 * length words = sym (ap length spelt) ∙ length-bytes_of words in
    let entire : length bytes % 2 ≡ 0 = omega arith in
    (entire, subst Size count size)

-- a code that is handed on
pub handed_on : {T : Type 0} (P : ℕ → Type 0) (result : Result T ℕ) (code : ℕ) → IsErrAnd result (λ (other : ℕ). other ≡ code) → P code → IfErr result P
handed_on P (Ok value) code is holds = absurd is
handed_on P (Err other) code is holds = subst P (sym is) holds
