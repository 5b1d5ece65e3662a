-- What is remembered of the writes to unsynced places.
use Rattle.std.proofs.Common.{◌≡◌, ℕ, zero, suc, ◌+◌, ◌<◌, ◌≤◌, ◌⊎◌, List, [], ◌∷◌, ◌++◌, length, take, drop, None, slice_get, refl, sym, subst, ◌∙◌, inl, inr, arith, length-append, length-take, length-drop}
use Rattle.site_core.specs.Disk.{Disk, Range, IsOutside, StopImage, overlaid, write_begun}
use Rattle.site_shadow.specs.Unsynced.{Covers, Remembers, MarksOnly, DiffersAtMarks}

-- a write that has begun
pub Remembers-begun : (old new : List Range) (disk : Disk) (at count : ℕ) → Remembers old disk → MarksOnly old (record { start = at; count = count }) new
    → Remembers new (write_begun disk at count)
Remembers-begun old new disk at count keeps marks = record {
  unmarked = λ place synced. marks place synced.0 (keeps.unmarked place synced.1);
  after = λ place synced. keeps.after place synced.1;
}

after_laid : (disk : Disk) (at place : ℕ) (over : List ℕ) → at ≤ length disk.bytes → IsOutside place (record { start = at; count = length over })
    → place < length (overlaid disk.bytes at over) → place < length disk.bytes
after_laid disk at place over within (inl below) inside = omega arith
after_laid disk at place over within (inr after) inside =
    omega (arith, length-append (take at disk.bytes ++ over) (drop (at + length over) disk.bytes), length-append (take at disk.bytes) over, length-take at disk.bytes, length-drop (at + length over) disk.bytes)

-- bytes that were laid over an unsynced range
pub Remembers-laid : (before : List Range) (disk : Disk) (at : ℕ) (over new : List ℕ) → at ≤ length disk.bytes → Covers disk at (length over)
    → Remembers before disk → new ≡ overlaid disk.bytes at over → Remembers before (record disk { bytes = new })
Remembers-laid before disk at over new within covers keeps is = record {
  unmarked = keeps.unmarked;
  after = λ place synced inside.
      keeps.after place synced (after_laid disk at place over within (covers place synced) (subst (λ (b : List ℕ). place < length b) is inside));
}

-- A STOP

-- bytes that differ from the disk's only in marked places
pub StopImage-torn : (before : List Range) (disk : Disk) (image : List ℕ) → Remembers before disk → DiffersAtMarks before disk.bytes image → StopImage disk image
StopImage-torn before disk image keeps torn = record {
  bytes = λ place synced. torn.same place (keeps.unmarked place synced);
  no_shorter = let long : length image ≡ length disk.bytes = torn.long in omega arith;
}

slice_get-take : (bytes : List ℕ) (n place : ℕ) → place < n → slice_get (take n bytes) place ≡ slice_get bytes place
slice_get-take [] zero place below = refl
slice_get-take [] (suc n) place below = refl
slice_get-take (b ∷ bs) zero place below = absurd (omega arith)
slice_get-take (b ∷ bs) (suc n) zero below = refl
slice_get-take (b ∷ bs) (suc n) (suc place) below = slice_get-take bs n place (omega arith)

pub slice_get-past : (bytes : List ℕ) (place : ℕ) → length bytes ≤ place → slice_get bytes place ≡ None
slice_get-past [] place past = refl
slice_get-past (b ∷ bs) zero past = absurd (omega arith)
slice_get-past (b ∷ bs) (suc place) past = slice_get-past bs place (omega arith)

below_or : (a b : ℕ) → (a < b) ⊎ (b ≤ a)
below_or a zero = inr (omega arith)
below_or zero (suc b) = inl (omega arith)
below_or (suc a) (suc b) = elim (below_or a b) [ inl below ↦ inl (omega arith) | inr past ↦ inr (omega arith) ]

-- and those, cut where the synced bytes end
pub StopImage-cut : (before : List Range) (disk : Disk) (image : List ℕ) → Remembers before disk → DiffersAtMarks before disk.bytes image → StopImage disk (take disk.synced_length image)
StopImage-cut before disk image keeps torn = record {
  bytes = λ place synced. elim (below_or place disk.synced_length) [
    | inl below ↦ slice_get-take image disk.synced_length place below ∙ torn.same place (keeps.unmarked place synced)
    | inr past ↦ slice_get-past (take disk.synced_length image) place (omega (arith, length-take disk.synced_length image))
        ∙ sym (slice_get-past disk.bytes place (elim (below_or place (length disk.bytes)) [
          | inl inside ↦ let below : place < disk.synced_length = keeps.after place synced inside in absurd (omega arith)
          | inr out ↦ out
        ]))
  ];
  no_shorter = let long : length image ≡ length disk.bytes = torn.long in omega (arith, length-take disk.synced_length image);
}
