-- Bytes that are laid over others keep those outside of their range.
use Rattle.std.proofs.Common.{◌≡◌, ℕ, zero, suc, ◌+◌, ◌-◌, ◌<◌, ◌≤◌, min, List, [], ◌∷◌, ◌++◌, length, take, drop, slice_get, refl, sym, ap, ◌∙◌, inl, inr, arith, append_assoc, length-append, length-take, length-drop}
use Rattle.std.proofs.Math.Seq.{drop-nil}
use Rattle.site_core.specs.Disk.{Disk, IsOutside, IsSynced, StopImage, overlaid, write_begun, written, WriteFailed}

slice_get-drop : (bytes : List ℕ) (n place : ℕ) → slice_get (drop n bytes) place ≡ slice_get bytes (n + place)
slice_get-drop [] n place = ap (λ (b : List ℕ). slice_get b place) (drop-nil n)
slice_get-drop (b ∷ bs) zero place = let e : 0 + place ≡ place = omega arith in ap (λ (p : ℕ). slice_get (b ∷ bs) p) (sym e)
slice_get-drop (b ∷ bs) (suc n) place =
    let e : suc n + place ≡ suc (n + place) = omega arith in
    slice_get-drop bs n place ∙ ap (λ (p : ℕ). slice_get (b ∷ bs) p) (sym e)

slice_get-after : (xs ys : List ℕ) (place : ℕ) → slice_get (xs ++ ys) (length xs + place) ≡ slice_get ys place
slice_get-after [] ys place = let e : 0 + place ≡ place = omega arith in ap (λ (p : ℕ). slice_get ys p) e
slice_get-after (x ∷ xs) ys place =
    let e : length (x ∷ xs) + place ≡ suc (length xs + place) = omega arith in
    ap (λ (p : ℕ). slice_get (x ∷ (xs ++ ys)) p) e ∙ slice_get-after xs ys place

slice_get-before : (bytes ys : List ℕ) (n place : ℕ) → place < n → n ≤ length bytes → slice_get (take n bytes ++ ys) place ≡ slice_get bytes place
slice_get-before [] ys n place below within = absurd (let e : n ≤ 0 = within in omega arith)
slice_get-before (b ∷ bs) ys zero place below within = absurd (omega arith)
slice_get-before (b ∷ bs) ys (suc n) zero below within = refl
slice_get-before (b ∷ bs) ys (suc n) (suc place) below within = slice_get-before bs ys n place (omega arith) (omega arith)

after_range : (bytes over : List ℕ) (at place : ℕ) → at ≤ length bytes → at + length over ≤ place → slice_get (overlaid bytes at over) place ≡ slice_get bytes place
after_range bytes over at place within after =
    let front : List ℕ = take at bytes ++ over in
    let long : length front ≡ at + length over = omega (arith, length-append (take at bytes) over, length-take at bytes) in
    let split : place ≡ length front + (place - (at + length over)) = omega arith in
    let same : (at + length over) + (place - (at + length over)) ≡ place = omega arith in
    ap (λ (p : ℕ). slice_get (front ++ drop (at + length over) bytes) p) split
    ∙ slice_get-after front (drop (at + length over) bytes) (place - (at + length over))
    ∙ slice_get-drop bytes (at + length over) (place - (at + length over))
    ∙ ap (λ (p : ℕ). slice_get bytes p) same

before_range : (bytes over : List ℕ) (at place : ℕ) → at ≤ length bytes → place < at → slice_get (overlaid bytes at over) place ≡ slice_get bytes place
before_range bytes over at place within below =
    ap (λ (b : List ℕ). slice_get b place) (append_assoc (take at bytes) over (drop (at + length over) bytes))
    ∙ slice_get-before bytes (over ++ drop (at + length over) bytes) at place below within

-- outside of the range the bytes are those that they were
pub overlaid-outside : (bytes over : List ℕ) (at place : ℕ) → at ≤ length bytes → IsOutside place (record { start = at; count = length over })
    → slice_get (overlaid bytes at over) place ≡ slice_get bytes place
overlaid-outside bytes over at place within (inl below) = before_range bytes over at place within below
overlaid-outside bytes over at place within (inr after) = after_range bytes over at place within after

-- a write makes the bytes no fewer
pub length-overlaid : (bytes over : List ℕ) (at : ℕ) → at ≤ length bytes → length bytes ≤ length (overlaid bytes at over)
length-overlaid bytes over at within =
    omega (arith, length-append (take at bytes ++ over) (drop (at + length over) bytes), length-append (take at bytes) over, length-take at bytes, length-drop (at + length over) bytes)

-- an image of a disk that was written is one of the disk whose write has begun
pub StopImage-written : (disk : Disk) (at : ℕ) (over image : List ℕ) → at ≤ length disk.bytes → StopImage (written (write_begun disk at (length over)) at over) image
    → StopImage (write_begun disk at (length over)) image
StopImage-written disk at over image within stop = record {
  bytes = λ place is. stop.bytes place is ∙ overlaid-outside disk.bytes over at place within is.0;
  no_shorter = let longer : length disk.bytes ≤ length (overlaid disk.bytes at over) = length-overlaid disk.bytes over at within in
      let short : min disk.synced_length (length (overlaid disk.bytes at over)) ≤ length image = stop.no_shorter in omega arith;
}

-- and so is one of a disk whose write has failed
pub StopImage-failed : (disk later : Disk) (at count : ℕ) (image : List ℕ) → WriteFailed (write_begun disk at count) at count later → StopImage later image
    → StopImage (write_begun disk at count) image
StopImage-failed disk later at count image failed stop = record {
  bytes = λ place is. stop.bytes place (synced_there place is) ∙ failed.bytes place is.0;
  no_shorter = let e : min later.synced_length (length later.bytes) ≤ length image = stop.no_shorter in
      let same : later.synced_length ≡ disk.synced_length = failed.synced_length in
      let longer : length disk.bytes ≤ length later.bytes = failed.no_shorter in omega arith;
}
  where
    synced_there : (place : ℕ) → IsSynced (write_begun disk at count) place → IsSynced later place
    synced_there place is = rw failed.unsynced is
