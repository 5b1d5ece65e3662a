-- Words that are written to an image.
use Rattle.std.proofs.Common.{◌≡◌, ℕ, ◌*◌, ◌/◌, ◌%◌, ◌<◌, ◌≤◌, ◌^◌, min, Bool, true, List, [], ◌∷◌, ◌++◌}
use Rattle.std.proofs.Common.{length, slice_set, Some, refl, sym, ap, subst, ◌∙◌, inl, inr, arith}
use Rattle.std.specs.Int.{w16, to_le_bytes}
use Rattle.esc_model.specs.declared.rest.WordWrite.{WordWrite}
use Rattle.esc_model.specs.SlaveHalf.{SlaveHalf, Activity, Idle, Reading, Writing, in_flight, MayHold}
use Rattle.sii_words.specs.Words.{bytes_of}
use Rattle.site_core.specs.Disk.{Disk, StopImage, write_begun, written, synced, overlaid}
use Rattle.site_core.proofs.Overlays.{StopImage-written, StopImage-failed}
use Rattle.site_file.specs.declared.asking.LineFile.{LineFile}
use Rattle.site_file.specs.Calls.{Asked, syncs}
use Rattle.site_file.specs.Asking.{WordCalls, reaches_sync, unwritten}
use Rattle.site_file.specs.Files.{File, IsBytes, sound, image_of, Becomes, BecomesBy}
use Rattle.site_file.specs.Laws.{OneFileIsAsked, IsFlying, IsLeftOf, WordIsDurable, WordMayHoldAnything, none, more, WordsAreDurable}
use Rattle.site_file.proofs.ImageBytes.{word_laid, word_inside, word_left}
use Rattle.site_file.proofs.Images.{sync_image}

pub one_file : OneFileIsAsked
one_file file word value calls done (reaches_sync d) = (refl, (refl, tt))
one_file file word value calls done unwritten = (refl, tt)

-- THE FILE BEHIND THE CALLS

-- a file of these bytes, all synced
of_synced : List ℕ → Disk
of_synced bytes = record { bytes = bytes; unsynced = []; synced_length = length bytes }

-- the image whose word has been written, and isn't synced
abbrev laid : List ℕ → (word value : ℕ) → File
laid words word value = sound (written (write_begun (image_of words).disk (word * 2) 2) (word * 2) (to_le_bytes w16 value))

laid_bytes : (words : List ℕ) (word value : ℕ) → word < length words → value < 2 ^ 16
    → overlaid (bytes_of words) (word * 2) (to_le_bytes w16 value) ≡ bytes_of (slice_set words word value)
laid_bytes words word value inside short =
    let high : value / 256 % 256 ≡ value / 256 = omega arith in
    rw high (word_laid words word value inside)

laid_synced : (words : List ℕ) (word value : ℕ) → word < length words → value < 2 ^ 16
    → sound (synced (laid words word value).disk) ≡ image_of (slice_set words word value)
laid_synced words word value inside short =
    ap (λ (bytes : List ℕ). sound (record { bytes = bytes; unsynced = []; synced_length = length bytes })) (laid_bytes words word value inside short)

durable_if : (file : LineFile) (words : List ℕ) (word value : ℕ) (calls : List Asked) (done : Bool) (later : File) → word < length words
    → value < 2 ^ 16 → done ≡ true → WordCalls file word value calls done → BecomesBy calls (image_of words) later
    → later ≡ image_of (slice_set words word value)
durable_if file words word value calls done later inside short is_done unwritten becomes = absurd cc
durable_if file words word value calls done later inside short is_done (reaches_sync d) becomes =
    let synced_it : Becomes syncs true becomes.0 becomes.2.0 = subst (λ (b : Bool). Becomes syncs b becomes.0 becomes.2.0) is_done becomes.2.1 in
    let same : Becomes syncs true (laid words word value) becomes.2.0 = subst (λ (f : File). Becomes syncs true f becomes.2.0) becomes.1 synced_it in
    becomes.2.2 ∙ same.all refl ∙ laid_synced words word value inside short

durable : (file : LineFile) (words : List ℕ) (word value : ℕ) (calls : List Asked) (later : File) → word < length words → value < 2 ^ 16
    → WordCalls file word value calls true → BecomesBy calls (image_of words) later → later ≡ image_of (slice_set words word value)
durable file words word value calls later inside short are becomes =
    durable_if file words word value calls true later inside short refl are becomes

pub word_is_durable : WordIsDurable
word_is_durable file half write calls later flying are becomes =
    durable file half.words write.word write.value calls later flying.inside flying.short are becomes

-- calls one after the other
pub split : (calls others : List Asked) (old new : File) → BecomesBy (calls ++ others) old new
    → (mid : File) × BecomesBy calls old mid × BecomesBy others mid new
split [] others old new becomes = (old, refl, becomes)
split (call ∷ calls) others old new becomes =
    let rest : (mid : File) × BecomesBy calls becomes.0 mid × BecomesBy others mid new = split calls others becomes.0 new becomes.2 in
    (rest.0, (becomes.0, becomes.1, rest.1), rest.2)

pub words_are_durable : WordsAreDurable
words_are_durable file words laters calls later none becomes = becomes
words_are_durable file words laters calls later (more before one mid word value so_far inside short are) becomes =
    let parts : (then : File) × BecomesBy before (image_of words) then × BecomesBy one then later = split before one (image_of words) later becomes in
    let first : parts.0 ≡ image_of mid = words_are_durable file words mid before parts.0 so_far parts.1 in
    durable file mid word value one later inside short are (subst (λ (f : File). BecomesBy one f later) first parts.2)

-- WHAT MAY BE LEFT

flying_is : (activity : Activity) (write : WordWrite) → in_flight activity ≡ Some write → activity ≡ Writing write.word write.value
flying_is Idle write e = absurd cc
flying_is Reading write e = absurd cc
flying_is (Writing word value) write e =
    let same : (record { word = word; value = value }) ≡ write = cc in ap (λ (w : WordWrite). Writing w.word w.value) same

-- An image in which the word's two bytes may be anything is left of the half.
pub left_of : (half : SlaveHalf) (write : WordWrite) (image : List ℕ) → IsFlying half write → IsBytes image
    → StopImage (write_begun (image_of half.words).disk (write.word * 2) 2) image → IsLeftOf half image
left_of half write image flying bytes stop =
    let words = half.words in
    let shortest : min (length (bytes_of words)) (length (bytes_of words)) ≤ length image = stop.no_shorter in
    let left : (held : ℕ) × (image ≡ bytes_of (slice_set words write.word held)) =
    word_left words write.word (write.word * 2) image refl flying.inside (omega arith) bytes (λ place out. stop.bytes place (out, tt)) in
    let after : List ℕ = slice_set words write.word left.0 in
    record {
      words = after;
      image_is = left.1;
      left = subst (λ (a : Activity). MayHold a words after) (sym (flying_is half.activity write flying.flying)) (left.0, refl);
    }

-- an image of the file as it was written is one of the file while it was written
begun : (words : List ℕ) (word value : ℕ) (image : List ℕ) → word < length words → StopImage (laid words word value).disk image
    → StopImage (write_begun (image_of words).disk (word * 2) 2) image
begun words word value image inside stop =
    StopImage-written (image_of words).disk (word * 2) (to_le_bytes w16 value) image (word_inside words word inside) stop

pub word_may_hold_anything : WordMayHoldAnything
word_may_hold_anything file half write calls done image flying unwritten bytes (inl stop) = left_of half write image flying bytes stop
word_may_hold_anything file half write calls done image flying unwritten bytes (inr after) =
    left_of half write image flying bytes (StopImage-failed (image_of half.words).disk after.0.disk (write.word * 2) 2 image after.1.disk after.2)
word_may_hold_anything file half write calls done image flying (reaches_sync d) bytes (inl stop) = left_of half write image flying bytes stop
word_may_hold_anything file half write calls done image flying (reaches_sync d) bytes (inr (mid, is, inl stop)) =
    let there : StopImage (laid half.words write.word write.value).disk image = subst (λ (f : File). StopImage f.disk image) is stop in
    left_of half write image flying bytes (begun half.words write.word write.value image flying.inside there)
word_may_hold_anything file half write calls done image flying (reaches_sync d) bytes (inr (mid, is, inr after)) =
    let old : File = laid half.words write.word write.value in
    let same : Becomes syncs done old after.0 = subst (λ (f : File). Becomes syncs done f after.0) is after.1 in
    let there : StopImage old.disk image = sync_image done old after.0 image refl same after.2 in
    left_of half write image flying bytes (begun half.words write.word write.value image flying.inside there)
