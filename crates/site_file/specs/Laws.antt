-- Laws of the files behind a shadow.
use Rattle.std.specs.Prelude.{◌≡◌, ℕ, ◌<◌, ◌≤◌, ◌^◌, Bool, true, false, List, [], ◌∷◌, ◌++◌, length, slice_set, Some}
use Rattle.std.specs.List.{AllByRecursion}
use Rattle.esc_model.specs.declared.rest.WordWrite.{WordWrite}
use Rattle.esc_model.specs.SlaveHalf.{SlaveHalf, in_flight, settled, MayLeave}
use Rattle.sii_words.specs.Words.{bytes_of}
use Rattle.site_core.specs.Disk.{Disk, StopImage, WriteFailed, write_begun, written, synced}
use Rattle.site_file.specs.declared.asking.LineFile.{LineFile}
use Rattle.site_file.specs.declared.asking.LineFile.TheVariants.{Journal}
use Rattle.site_file.specs.Calls.{Asked, asked, writes, syncs}
use Rattle.site_file.specs.Asking.{WordCalls}
use Rattle.site_file.specs.Files.{File, IsBytes, sound, image_of, BecomesBy, MayBeLeft}

-- WORDS

-- As a word is written, one file alone is asked.
abbrev pub OneFileIsAsked : Type 0
OneFileIsAsked = (file : LineFile) (word value : ℕ) (calls : List Asked) (done : Bool) → WordCalls file word value calls done
    → AllByRecursion (λ call. call.file ≡ file) calls

-- A half of these words has a word in flight.
pub record IsFlying (half : SlaveHalf) (write : WordWrite) : Type 0 where
  pub flying : in_flight half.activity ≡ Some write
  pub inside : write.word < length half.words
  pub short : write.value < 2 ^ 16

-- Where the word is written and synced, the image holds the words of the half at rest, all synced.
abbrev pub WordIsDurable : Type 0
WordIsDurable = (file : LineFile) (half : SlaveHalf) (write : WordWrite) (calls : List Asked) (later : File) → IsFlying half write
    → WordCalls file write.word write.value calls true → BecomesBy calls (image_of half.words) later
    → later ≡ image_of (settled half write.word write.value).words

-- The image is of words that a power cut may leave of the half.
pub record IsLeftOf (half : SlaveHalf) (image : List ℕ) : Type 0 where
  pub words : List ℕ
  pub image_is : image ≡ bytes_of words
  pub left : MayLeave half words

-- At each moment until then, also where a call fails, a power cut leaves an image that is left of the half.
abbrev pub WordMayHoldAnything : Type 0
WordMayHoldAnything = (file : LineFile) (half : SlaveHalf) (write : WordWrite) (calls : List Asked) (done : Bool) (image : List ℕ)
    → IsFlying half write → WordCalls file write.word write.value calls done
    → IsBytes image → MayBeLeft calls (image_of half.words) image → IsLeftOf half image

-- Words are written to a file, one after the other, and each of them is synced: these calls make of `words` the words `laters`.
pub data WordsCalls (file : LineFile) (words : List ℕ) : (calls : List Asked) (laters : List ℕ) → Type 0 where
  none : WordsCalls file words [] words
  more : (calls one : List Asked) (mid : List ℕ) (word value : ℕ) → WordsCalls file words calls mid → word < length mid → value < 2 ^ 16
      → WordCalls file word value one true → WordsCalls file words (calls ++ one) (slice_set mid word value)

-- After them the image holds the words, all synced.
abbrev pub WordsAreDurable : Type 0
WordsAreDurable = (file : LineFile) (words laters : List ℕ) (calls : List Asked) (later : File) → WordsCalls file words calls laters
    → BecomesBy calls (image_of words) later → later ≡ image_of laters

-- THE JOURNAL

-- A write that succeeds does to the file what it does to the shadow.
abbrev pub WriteFollows : Type 0
WriteFollows = (shadow : Disk) (at : ℕ) (bytes : List ℕ) (later : File)
    → BecomesBy (asked Journal (writes at bytes) true ∷ []) (sound shadow) later
    → later ≡ sound (written (write_begun shadow at (length bytes)) at bytes)

-- Before, in and after a write, a power cut leaves of the file what it may leave of the shadow in the middle of the write.
abbrev pub WriteMayHoldAnything : Type 0
WriteMayHoldAnything = (shadow : Disk) (at : ℕ) (bytes : List ℕ) (done : Bool) (image : List ℕ) → at ≤ length shadow.bytes
    → MayBeLeft (asked Journal (writes at bytes) done ∷ []) (sound shadow) image → StopImage (write_begun shadow at (length bytes)) image

-- After a write that failed it leaves of the file what it may leave of the shadow, whatever that holds in the range then.
abbrev pub FailedWriteLeavesNoMore : Type 0
FailedWriteLeavesNoMore = (shadow after : Disk) (at : ℕ) (bytes : List ℕ) (later : File) (image : List ℕ)
    → shadow.synced_length ≤ length shadow.bytes
    → WriteFailed (write_begun shadow at (length bytes)) at (length bytes) after
    → BecomesBy (asked Journal (writes at bytes) false ∷ []) (sound shadow) later → StopImage later.disk image → StopImage after image

-- A sync that succeeds makes of the file what it makes of the shadow.
abbrev pub SyncFollows : Type 0
SyncFollows = (shadow : Disk) (later : File) → BecomesBy (asked Journal syncs true ∷ []) (sound shadow) later → later ≡ sound (synced shadow)

-- Before, in and after a sync, also one that failed, a power cut leaves of the file what it may leave of the shadow before it.
abbrev pub SyncLeavesNoMore : Type 0
SyncLeavesNoMore = (shadow : Disk) (done : Bool) (image : List ℕ) → MayBeLeft (asked Journal syncs done ∷ []) (sound shadow) image
    → StopImage shadow image

-- THE DEFINITIONS

-- Whatever is asked of a file, and however that ends, there is a file that it leads to.
abbrev pub SomethingBecomes : Type 0
SomethingBecomes = (calls : List Asked) (old : File) → (new : File) × BecomesBy calls old new

-- A power cut as a word is written may leave any other in its place.
abbrev pub AnyWordMayBeLeft : Type 0
AnyWordMayBeLeft = (file : LineFile) (half : SlaveHalf) (write : WordWrite) (calls : List Asked) (done : Bool) (held : ℕ) → IsFlying half write
    → WordCalls file write.word write.value calls done → MayBeLeft calls (image_of half.words) (bytes_of (slice_set half.words write.word held))
