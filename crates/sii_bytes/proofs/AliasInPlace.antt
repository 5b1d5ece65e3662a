-- The words that bytes spell, as single bytes change, and the check byte taken over bytes.
use Rattle.std.proofs.Common.{◌≡◌, ℕ, zero, suc, ◌+◌, ◌*◌, ◌/◌, ◌%◌, ◌<◌, ◌≤◌, List, [], ◌∷◌, length, get_or, take, set, flat_map, refl, sym, ap, ◌∙◌, inl, inr, arith, get_or-set_same, get_or-set_other, length-set}
use Rattle.std.proofs.lemmas.Bool.{cases_eq}
use Rattle.std.proofs.lemmas.Grind.{flat_map-append}
use Rattle.std.proofs.lemmas.List.{take_more}
use Rattle.sii_words.specs.CheckByte.{bits_of_byte, check_byte_of, IsChecked}
use Rattle.sii_words.specs.Words.{IsImageSize, bytes_of}
use Rattle.sii_words.specs.steps.ShiftRegister.{ShiftsThrough}
use Rattle.sii_words.proofs.LongDivision.{shifts_on}
use Rattle.sii_words.proofs.ShiftRegister.{register_is_check_byte}
use Rattle.sii_edit.specs.Alias.{with_alias, with_low_byte}
use Rattle.sii_bytes.specs.Bytes.{AreWords, words_in}

-- all of them are bytes
abbrev pub AreBytes : List ℕ → Type 0
AreBytes bytes = (at : ℕ) → get_or bytes at 0 < 256

pub bytes_with_one : (bytes : List ℕ) (at byte : ℕ) → at < length bytes → byte < 256 → AreBytes bytes → AreBytes (set bytes at byte)
bytes_with_one bytes at byte within small all place = elim (cases_eq place at) [
  | inl here ↦ rw (here, get_or-set_same bytes at byte 0 within) small
  | inr other ↦ rw (get_or-set_other bytes at place byte 0 other) (all place)
]

-- one byte more goes through the register
pub shifts_one_more : (bytes : List ℕ) (at before between after : ℕ) → at < length bytes → ShiftsThrough (flat_map bits_of_byte (take at bytes)) before between
    → ShiftsThrough (bits_of_byte (get_or bytes at 0)) between after → ShiftsThrough (flat_map bits_of_byte (take (at + 1) bytes)) before after
shifts_one_more bytes at before between after within sofar next =
    rw (take_more bytes at 0 within, flat_map-append bits_of_byte (take at bytes) (get_or bytes at 0 ∷ []))
    (shifts_on (flat_map bits_of_byte (take at bytes)) (bits_of_byte (get_or bytes at 0)) before between after sofar next)

-- the first words have the first bytes
front_spelt : (count : ℕ) (bytes : List ℕ) → count * 2 ≤ length bytes → AreBytes bytes → take (count * 2) bytes ≡ bytes_of (take count (words_in bytes))
front_spelt zero bytes within all = refl
front_spelt (suc count) [] within all = absurd (omega arith)
front_spelt (suc count) (low ∷ []) within all = absurd (omega arith)
front_spelt (suc count) (low ∷ high ∷ bytes) within all =
    let small : low < 256 = all 0 in
    let first : (low + 256 * high) % 256 ≡ low = omega arith in
    let second : (low + 256 * high) / 256 ≡ high = omega arith in
    let rest : take (count * 2) bytes ≡ bytes_of (take count (words_in bytes)) = front_spelt count bytes (omega arith) (λ at. all (suc (suc at))) in
    let two : suc count * 2 ≡ suc (suc (count * 2)) = omega arith in
    rw (two, first, second, rest) refl

all_spelt : (bytes : List ℕ) → length bytes % 2 ≡ 0 → AreBytes bytes → bytes ≡ bytes_of (words_in bytes)
all_spelt [] entire all = refl
all_spelt (low ∷ []) entire all = absurd (omega arith)
all_spelt (low ∷ high ∷ bytes) entire all =
    let small : low < 256 = all 0 in
    let first : (low + 256 * high) % 256 ≡ low = omega arith in
    let second : (low + 256 * high) / 256 ≡ high = omega arith in
    let rest : bytes ≡ bytes_of (words_in bytes) = all_spelt bytes (omega arith) (λ at. all (suc (suc at))) in
    rw (first, second, ← rest) refl

pub register_is_check_byte_of_bytes : (bytes : List ℕ) (register : ℕ) → 14 ≤ length bytes → AreBytes bytes → register < 256
    → ShiftsThrough (flat_map bits_of_byte (take 14 bytes)) 255 register → register ≡ check_byte_of (words_in bytes)
register_is_check_byte_of_bytes bytes register enough all small shifts =
    let front : take 14 bytes ≡ bytes_of (take 7 (words_in bytes)) = front_spelt 7 bytes enough all in
    let seven : 7 ≤ length (words_in bytes) = seven_words 7 bytes enough in
    let spelt = rw front at shifts in
    register_is_check_byte (words_in bytes) register seven small spelt
  where
    seven_words : (count : ℕ) (bytes : List ℕ) → count * 2 ≤ length bytes → count ≤ length (words_in bytes)
    seven_words zero bytes within = omega arith
    seven_words (suc count) [] within = absurd (omega arith)
    seven_words (suc count) (low ∷ []) within = absurd (omega arith)
    seven_words (suc count) (low ∷ high ∷ bytes) within = omega (arith, seven_words count bytes (omega arith))

-- a word is its two bytes
word_at : (k : ℕ) (bytes : List ℕ) → k * 2 + 1 < length bytes → get_or (words_in bytes) k 0 ≡ get_or bytes (k * 2) 0 + 256 * get_or bytes (k * 2 + 1) 0
word_at k [] within = absurd (omega arith)
word_at k (low ∷ []) within = absurd (omega arith)
word_at zero (low ∷ high ∷ bytes) within = refl
word_at (suc k) (low ∷ high ∷ bytes) within =
    let two : suc k * 2 ≡ suc (suc (k * 2)) = omega arith in
    let more : suc (suc (k * 2)) + 1 ≡ suc (suc (k * 2 + 1)) = omega arith in
    rw (two, more) (word_at k bytes (omega arith))

-- both bytes of a word are set, or the low one
word_set : (k : ℕ) (bytes : List ℕ) (low high : ℕ) → k * 2 + 1 < length bytes
    → words_in (set (set bytes (k * 2) low) (k * 2 + 1) high) ≡ set (words_in bytes) k (low + 256 * high)
word_set k [] low high within = absurd (omega arith)
word_set k (a ∷ []) low high within = absurd (omega arith)
word_set zero (a ∷ b ∷ bytes) low high within = refl
word_set (suc k) (a ∷ b ∷ bytes) low high within =
    let two : suc k * 2 ≡ suc (suc (k * 2)) = omega arith in
    let more : suc (suc (k * 2)) + 1 ≡ suc (suc (k * 2 + 1)) = omega arith in
    rw (two, more) (ap (λ (words : List ℕ). (a + 256 * b) ∷ words) (word_set k bytes low high (omega arith)))

low_set : (k : ℕ) (bytes : List ℕ) (low : ℕ) → k * 2 + 1 < length bytes → AreBytes bytes
    → words_in (set bytes (k * 2) low) ≡ set (words_in bytes) k (with_low_byte (get_or (words_in bytes) k 0) low)
low_set k [] low within all = absurd (omega arith)
low_set k (a ∷ []) low within all = absurd (omega arith)
low_set zero (a ∷ b ∷ bytes) low within all =
    let small : a < 256 = all 0 in
    let same : low + 256 * b ≡ 256 * ((a + 256 * b) / 256) + low = omega arith in
    ap (λ (word : ℕ). word ∷ words_in bytes) same
low_set (suc k) (a ∷ b ∷ bytes) low within all =
    let two : suc k * 2 ≡ suc (suc (k * 2)) = omega arith in
    rw two (ap (λ (words : List ℕ). (a + 256 * b) ∷ words) (low_set k bytes low (omega arith) (λ at. all (suc (suc at)))))

module _ (bytes : List ℕ) (read : AreWords IsImageSize bytes) (all : AreBytes bytes) where
  long : 128 ≤ length bytes
  long = let least : 64 ≤ length bytes / 2 = read.1.0 in omega arith

  low_of_seven : get_or (words_in bytes) 7 0 % 256 ≡ get_or bytes 14 0
  low_of_seven =
      let seven : get_or (words_in bytes) 7 0 ≡ get_or bytes 14 0 + 256 * get_or bytes 15 0 = word_at 7 bytes (omega (arith, long)) in
      let small : get_or bytes 14 0 < 256 = all 14 in
      omega arith

  pub checked_in_place : (check : ℕ) → check ≡ check_byte_of (words_in bytes) → get_or bytes 14 0 ≡ check → IsChecked (words_in bytes)
  checked_in_place check is same = low_of_seven ∙ same ∙ is

  module _ (value low high check : ℕ) (low_fits : low < 256) (high_fits : high < 256) (spelt : value ≡ low + 256 * high) where
    abbrev pub named : List ℕ
    named = set (set bytes 8 low) 9 high

    pub named_long : length named ≡ length bytes
    named_long = omega (arith, length-set {A = ℕ})

    pub named_bytes : AreBytes named
    named_bytes =
        bytes_with_one (set bytes 8 low) 9 high (omega (arith, long, length-set bytes 8 low)) high_fits
        (bytes_with_one bytes 8 low (omega (arith, long)) low_fits all)

    named_words : words_in named ≡ set (words_in bytes) 4 value
    named_words = word_set 4 bytes low high (omega (arith, long)) ∙ ap (λ (word : ℕ). set (words_in bytes) 4 word) (sym spelt)

    pub set_in_place : check < 256 → check ≡ check_byte_of (words_in named) → set named 14 check ≡ bytes_of (with_alias (words_in bytes) value)
    set_in_place check_fits is =
        let entire : length (set named 14 check) % 2 ≡ 0 = omega (arith, read.0, named_long, length-set named 14 check) in
        let fit : AreBytes (set named 14 check) = bytes_with_one named 14 check (omega (arith, long, named_long)) check_fits named_bytes in
        let last : words_in (set named 14 check) ≡ set (words_in named) 7 (with_low_byte (get_or (words_in named) 7 0) check)
        = low_set 7 named check (omega (arith, long, named_long)) named_bytes in
        let seven : get_or (words_in named) 7 0 ≡ get_or (words_in bytes) 7 0
        = ap (λ (words : List ℕ). get_or words 7 0) named_words ∙ get_or-set_other (words_in bytes) 4 7 value 0 (omega arith) in
        let right : check ≡ check_byte_of (set (words_in bytes) 4 value) = is ∙ ap check_byte_of named_words in
        all_spelt (set named 14 check) entire fit ∙ ap bytes_of (last ∙ rw (seven, named_words, ← right) refl)
