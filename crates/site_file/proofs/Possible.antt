-- The definitions leave something to happen, and any word to be torn.
use Rattle.std.proofs.Common.{ℕ, ◌*◌, ◌/◌, ◌%◌, ◌<◌, ◌≤◌, Bool, true, false, List, [], ◌∷◌, length, slice_set, refl}
use Rattle.std.proofs.Common.{subst, inl, arith}
use Rattle.sii_words.specs.Words.{bytes_of}
use Rattle.site_core.specs.Disk.{Disk, StopImage, write_begun, written, synced, overlaid}
use Rattle.site_core.proofs.Overlays.{overlaid-outside, length-overlaid}
use Rattle.site_file.specs.Calls.{Call, tells_length, reads, writes, syncs}
use Rattle.site_file.specs.Asking.{reaches_sync, unwritten}
use Rattle.site_file.specs.Files.{File, KeepsSynced, Syncs, Becomes, BecomesBy, sound, image_of}
use Rattle.site_file.specs.Laws.{SomethingBecomes, AnyWordMayBeLeft}
use Rattle.site_file.proofs.ImageBytes.{word_laid, word_inside}

-- where nothing is lost
kept : (old : File) → KeepsSynced old (record { disk = old.disk; is_sound = false })
kept old = record { bytes = λ at is. refl; no_shorter = omega arith; unsynced = refl; synced_length = refl; unsound = refl }

syncs_to : (disk : Disk) (is_sound : Bool) → (new : File) × Syncs (record { disk = disk; is_sound = is_sound }) new
syncs_to disk true = (sound (synced disk), record { all = λ is. refl; none = λ e. absurd cc })
syncs_to disk false =
    let unsound : File = record { disk = disk; is_sound = false } in
    (unsound, record { all = λ e. absurd cc; none = λ is. kept unsound })

becomes_something : (call : Call) (succeeded : Bool) (old : File) → (new : File) × Becomes call succeeded old new
becomes_something tells_length succeeded old = (old, refl)
becomes_something (reads at count) succeeded old = (old, refl)
becomes_something (writes at bytes) true old = (record old { disk = written (write_begun old.disk at (length bytes)) at bytes }, refl)
becomes_something (writes at bytes) false old = (
  record { disk = write_begun old.disk at (length bytes); is_sound = false },
  record {
    disk = record { bytes = λ place out. refl; no_shorter = omega arith; unsynced = refl; synced_length = refl };
    unsound = refl;
  },
)
becomes_something syncs true old = syncs_to old.disk old.is_sound
becomes_something syncs false old = (record { disk = old.disk; is_sound = false }, kept old)

pub something_becomes : SomethingBecomes
something_becomes [] old = (old, refl)
something_becomes (call ∷ calls) old =
    let first : (new : File) × Becomes call.call call.succeeded old new = becomes_something call.call call.succeeded old in
    let rest : (new : File) × BecomesBy calls first.0 new = something_becomes calls first.0 in
    (rest.0, (first.0, first.1, rest.1))

torn : (words : List ℕ) (word held : ℕ) → word < length words
    → StopImage (write_begun (image_of words).disk (word * 2) 2) (bytes_of (slice_set words word held))
torn words word held inside =
    let pair : List ℕ = held % 256 ∷ held / 256 ∷ [] in
    let starts : word * 2 ≤ length (bytes_of words) = word_inside words word inside in
    let longer : length (bytes_of words) ≤ length (overlaid (bytes_of words) (word * 2) pair) =
    length-overlaid (bytes_of words) pair (word * 2) starts in
    let laid : StopImage (write_begun (image_of words).disk (word * 2) 2) (overlaid (bytes_of words) (word * 2) pair) = record {
      bytes = λ place is. overlaid-outside (bytes_of words) pair (word * 2) place starts is.0;
      no_shorter = omega arith;
    } in
    subst (λ (image : List ℕ). StopImage (write_begun (image_of words).disk (word * 2) 2) image) (word_laid words word held inside) laid

pub any_word_may_be_left : AnyWordMayBeLeft
any_word_may_be_left file half write calls done held flying (reaches_sync d) = inl (torn half.words write.word held flying.inside)
any_word_may_be_left file half write calls done held flying unwritten = inl (torn half.words write.word held flying.inside)
