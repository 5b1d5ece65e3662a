-- What a device does with the image files of its slaves.
use Rattle.std.specs.Prelude.{◌≡◌, ◌⊎◌, ℕ, zero, suc, ◌*◌, ◌%◌, Bool, true, false, List, [], ◌∷◌, ◌++◌, length, Option, Some, None, slice_get, is_some}
use Rattle.std.specs.Int.{bit_at, w16, to_le_bytes}
use Rattle.esc_model.specs.declared.rest.WordWrite.{WordWrite}
use Rattle.site_shadow.specs.declared.device.Resting.{Resting}
use Rattle.site_shadow.specs.declared.device.Resting.TheVariants.{InTime, Stays, Well, Failed, FailedWith}
use Rattle.site_file.specs.Owned.{file_at}
use Rattle.wire_mirror.specs.declared.images.ImageCall.{ImageCall}
use Rattle.wire_mirror.specs.declared.images.ImageCall.TheVariants as call

-- a word is written to the file of a slave: its two bytes at its place, the low byte first
abbrev pub writes_word : (slave : ℕ) → WordWrite → (succeeded : Bool) → ImageCall
writes_word slave write succeeded = call.Writes slave (write.word * 2) (to_le_bytes w16 write.value) succeeded

-- a word is written to the file of a slave, which is marked as unsynced if that succeeds; else each later look finds the failure
abbrev pub put : (slave : ℕ) → WordWrite → (succeeded : Bool) → List ImageCall
put slave write true = writes_word slave write true ∷ call.Marks slave ∷ []
put slave write false = writes_word slave write false ∷ call.Fails ∷ []

-- the file of a slave is synced; if that fails, each later look finds the failure
abbrev pub synced : (slave : ℕ) → (succeeded : Bool) → List ImageCall
synced slave true = call.Syncs slave true ∷ []
synced slave false = call.Syncs slave false ∷ call.Fails ∷ []

-- A word is written to the file of its slave, if there is one, and nothing else is done.
abbrev pub PutsWord : {F : Type 0} → Option F → (slave : ℕ) → WordWrite → (old new : List ImageCall) → Type 0
PutsWord (Some file) slave write old new = (succeeded : Bool) × (new ≡ old ++ put slave write succeeded)
PutsWord None slave write old new = new ≡ old

-- A word in flight that comes to rest well is written to the file of its slave, and nothing else is done.
abbrev pub Mirrors : {F : Type 0} → Option F → (slave : ℕ) → Option WordWrite → Resting → (old new : List ImageCall) → Type 0
Mirrors file slave None resting old new = new ≡ old
Mirrors file slave (Some write) Well old new = PutsWord file slave write old new
Mirrors file slave (Some write) InTime old new = new ≡ old
Mirrors file slave (Some write) Stays old new = new ≡ old
Mirrors file slave (Some write) Failed old new = new ≡ old
Mirrors file slave (Some write) (FailedWith left) old new = new ≡ old

-- The file of a slave is synced, if there is one and it is marked: bit i of `unsynced` stands for file i. Nothing else is done.
pub data SyncsFile {F : Type 0} (unsynced slave : ℕ) (file : Option F) (old new : List ImageCall) : Type 0 where
  keeps : (is_some file ≡ false) ⊎ (bit_at unsynced (slave % 64) ≡ 0) → new ≡ old → SyncsFile unsynced slave file old new
  syncs : (succeeded : Bool) → bit_at unsynced (slave % 64) ≡ 1 → new ≡ old ++ synced slave succeeded → SyncsFile unsynced slave file old new

-- The same of the files of the slaves below this one, in order.
abbrev pub SyncsBelow : {F : Type 0} → (slave : ℕ) → (unsynced : ℕ) → List (Option F) → (old new : List ImageCall) → Type 0
SyncsBelow zero unsynced files old new = new ≡ old
SyncsBelow (suc slave) unsynced files old new =
    (mid : List ImageCall) × SyncsBelow slave unsynced files old mid × SyncsFile unsynced slave (file_at (slice_get files slave)) mid new

-- The marks are taken away, and each file that was marked is synced.
pub record SyncsMarked {F : Type 0} (files : List (Option F)) (old new : List ImageCall) : Type 0 where
  pub unsynced : ℕ
  pub each : SyncsBelow (length files) unsynced files (old ++ call.TakesMarks unsynced ∷ []) new
