-- What a file holds as it is asked (POSIX: pread, pwrite, fdatasync), and what a power cut may leave of it.
use Rattle.std.specs.Prelude.{◌≡◌, ◌⊎◌, ℕ, ◌<◌, ◌≤◌, min, Bool, true, false, List, [], ◌∷◌, length, slice_get}
use Rattle.std.specs.Prelude.{slice_index, IsTrue}
use Rattle.site_core.specs.Disk.{Disk, IsSynced, StopImage, WriteFailed, write_begun, written, synced}
use Rattle.site_file.specs.Calls.{Call, Asked, tells_length, reads, writes, syncs}
use Rattle.sii_words.specs.Words.{bytes_of}

-- a file: what a read gives, which ranges of it aren't synced, and whether each write and sync has succeeded so far
pub record File : Type 0 where
  pub disk : Disk
  pub is_sound : Bool

-- a file on which no call has failed
abbrev pub sound : Disk → File
sound disk = record { disk = disk; is_sound = true }

-- each of them is a byte
abbrev pub IsBytes : List ℕ → Type 0
IsBytes image = (place : ℕ) → slice_index image place < 256

-- an EEPROM image of these words, all of it synced
abbrev pub image_of : List ℕ → File
image_of words = sound (record { bytes = bytes_of words; unsynced = []; synced_length = length (bytes_of words) })

-- What is synced stays. What isn't may hold anything, since the system may have dropped what it could not write, and isn't synced.
pub record KeepsSynced (old new : File) : Type 0 where
  pub bytes : (at : ℕ) → IsSynced old.disk at → slice_get new.disk.bytes at ≡ slice_get old.disk.bytes at
  pub no_shorter : min old.disk.synced_length (length old.disk.bytes) ≤ length new.disk.bytes
  pub unsynced : new.disk.unsynced ≡ old.disk.unsynced
  pub synced_length : new.disk.synced_length ≡ old.disk.synced_length
  pub unsound : new.is_sound ≡ false

-- A sync succeeds. It makes all bytes durable, unless a call has failed before: then it proves nothing.
pub record Syncs (old new : File) : Type 0 where
  pub all : IsTrue old.is_sound → new ≡ sound (synced old.disk)
  pub none : old.is_sound ≡ false → KeepsSynced old new

-- A write fails: its range may hold anything, and isn't synced.
pub record FailsToWrite (old : File) (at count : ℕ) (new : File) : Type 0 where
  pub disk : WriteFailed (write_begun old.disk at count) at count new.disk
  pub unsound : new.is_sound ≡ false

-- The file after a call that succeeded, or failed.
abbrev pub Becomes : Call → (succeeded : Bool) → File → File → Type 0
Becomes tells_length succeeded old new = new ≡ old
Becomes (reads at count) succeeded old new = new ≡ old
Becomes (writes at bytes) true old new = new ≡ record old { disk = written (write_begun old.disk at (length bytes)) at bytes }
Becomes (writes at bytes) false old new = FailsToWrite old at (length bytes) new
Becomes syncs true old new = Syncs old new
Becomes syncs false old new = KeepsSynced old new

-- The file after these calls.
abbrev pub BecomesBy : List Asked → File → File → Type 0
BecomesBy [] old new = new ≡ old
BecomesBy (call ∷ calls) old new = (mid : File) × Becomes call.call call.succeeded old mid × BecomesBy calls mid new

-- the file before a call, or in its middle: the range of a write isn't synced
abbrev pub under_way : Call → File → Disk
under_way tells_length file = file.disk
under_way (reads at count) file = file.disk
under_way (writes at bytes) file = write_begun file.disk at (length bytes)
under_way syncs file = file.disk

-- A power cut before one of these calls, in it, or after the last one, may leave this image of the file.
abbrev pub MayBeLeft : List Asked → File → List ℕ → Type 0
MayBeLeft [] file image = StopImage file.disk image
MayBeLeft (call ∷ calls) file image =
    StopImage (under_way call.call file) image ⊎ ((mid : File) × Becomes call.call call.succeeded file mid × MayBeLeft calls mid image)
