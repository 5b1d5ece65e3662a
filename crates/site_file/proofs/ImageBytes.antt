-- The bytes of an image of which a word is overwritten.
use Rattle.std.proofs.Common.{◌≡◌, ℕ, zero, suc, ◌+◌, ◌*◌, ◌/◌, ◌%◌, ◌<◌, ◌≤◌, List, [], ◌∷◌, length}
use Rattle.std.proofs.Common.{slice_get, slice_index, slice_set, Some, refl, ap, inl, inr, arith}
use Rattle.sii_words.specs.Words.{bytes_of}
use Rattle.site_core.specs.Disk.{IsOutside, overlaid}
use Rattle.site_core.proofs.StopImages.{equal_by_elements}
use Rattle.sii_words.proofs.WordBytes.{low_of, high_of}

-- two bytes laid over those of a word are those of a list with another word
laid_at : (words : List ℕ) (word value at : ℕ) → at ≡ word * 2 → word < length words
    → overlaid (bytes_of words) at (value % 256 ∷ value / 256 ∷ []) ≡ bytes_of (slice_set words word value)
laid_at [] word value at at_is inside = absurd (let e : word < 0 = inside in omega arith)
laid_at (w ∷ ws) zero value at at_is inside = let begins : at ≡ 0 = omega arith in rw begins refl
laid_at (w ∷ ws) (suc n) value at at_is inside =
    let ends : at + 2 ≡ suc (suc (n * 2 + 2)) = omega arith in
    let begins : at ≡ suc (suc (n * 2)) = omega arith in
    rw (ends, begins) (ap (λ (bytes : List ℕ). w % 256 ∷ w / 256 ∷ bytes) (laid_at ws n value (n * 2) refl (omega arith)))

pub word_laid : (words : List ℕ) (word value : ℕ) → word < length words
    → overlaid (bytes_of words) (word * 2) (value % 256 ∷ value / 256 ∷ []) ≡ bytes_of (slice_set words word value)
word_laid words word value inside = laid_at words word value (word * 2) refl inside

-- the word's bytes lie inside
pub word_inside : (words : List ℕ) (word : ℕ) → word < length words → word * 2 ≤ length (bytes_of words)
word_inside [] word inside = absurd (let e : word < 0 = inside in omega arith)
word_inside (w ∷ ws) zero inside = omega arith
word_inside (w ∷ ws) (suc n) inside = let more : n * 2 ≤ length (bytes_of ws) = word_inside ws n (omega arith) in omega arith

further : (at n place : ℕ) → at ≡ suc (suc (n * 2)) → IsOutside place (record { start = n * 2; count = 2 })
    → IsOutside (suc (suc place)) (record { start = at; count = 2 })
further at n place at_is (inl before) = inl (omega arith)
further at n place at_is (inr after) = inr (omega arith)

-- bytes that are those of words but for the two bytes of one of them are those of a list with another word there
pub word_left : (words : List ℕ) (word at : ℕ) (image : List ℕ) → at ≡ word * 2 → word < length words → length (bytes_of words) ≤ length image
    → ((k : ℕ) → slice_index image k < 256)
    → ((place : ℕ) → IsOutside place (record { start = at; count = 2 }) → slice_get image place ≡ slice_get (bytes_of words) place)
    → (held : ℕ) × (image ≡ bytes_of (slice_set words word held))
word_left [] word at image at_is inside long bytes same = absurd (let e : word < 0 = inside in omega arith)
word_left (w ∷ ws) word at [] at_is inside long bytes same = absurd (omega arith)
word_left (w ∷ ws) word at (a ∷ []) at_is inside long bytes same = absurd (omega arith)
word_left (w ∷ ws) zero at (a ∷ b ∷ image) at_is inside long bytes same =
    let fits : a < 256 = bytes 0 in
    let rest : image ≡ bytes_of ws = equal_by_elements image (bytes_of ws) (λ place. same (suc (suc place)) (inr (omega arith))) in
    (a + b * 256, rw (low_of a b fits, high_of a b fits, rest) refl)
word_left (w ∷ ws) (suc n) at (a ∷ b ∷ image) at_is inside long bytes same =
    let begins : at ≡ suc (suc (n * 2)) = omega arith in
    let first : Some a ≡ Some (w % 256) = same 0 (inl (omega arith)) in
    let second : Some b ≡ Some (w / 256) = same 1 (inl (omega arith)) in
    let rest : (held : ℕ) × (image ≡ bytes_of (slice_set ws n held)) = word_left ws n (n * 2) image refl (omega arith) (omega arith)
    (λ k. bytes (suc (suc k))) (λ place out. same (suc (suc place)) (further at n place begins out)) in
    let rest_is : image ≡ bytes_of (slice_set ws n rest.0) = rest.1 in
    (rest.0, cc)
