-- A pair that a power cut leaves of a state, made of what it leaves of each part.
use Rattle.std.proofs.Common.{◌≡◌, ℕ, zero, suc, Bool, true, false, List, [], ◌∷◌, Some, slice_get, IsTrue, refl, sym}
use Rattle.sii_words.specs.Words.{bytes_of}
use Rattle.esc_model.specs.SlaveHalf.{SlaveHalf, MayLeave}
use Rattle.esc_model.proofs.Resting.{MayLeave-same}
use Rattle.site_core.specs.Disk.{Disk, StopImage}
use Rattle.site_core.specs.State.{State, Pair, Leaves, EachMayLeave}
use Rattle.site_core.proofs.StopImages.{StopImage-same}
use Rattle.site_file.specs.declared.asking.LineFile.{LineFile}
use Rattle.site_file.specs.declared.asking.LineFile.TheVariants.{Journal, Image}
use Rattle.site_file.specs.Laws.{IsLeftOf}
use Rattle.site_file.specs.AllFiles.{Shows}

-- the image of a slave's half
pub record IsLeftOfSlave (halves : List SlaveHalf) (slave : ℕ) (image : List ℕ) : Type 0 where
  pub half : SlaveHalf
  pub here : slice_get halves slave ≡ Some half
  pub left : IsLeftOf half image

-- what may be left of one part of a state
abbrev pub IsLeftOfPart : State → LineFile → List ℕ → Type 0
IsLeftOfPart state Journal image = StopImage state.disk image
IsLeftOfPart state (Image slave) image = IsLeftOfSlave state.halves slave image

-- words that may be left of a half, and are those of the image where its file is owned
record Left (half : SlaveHalf) (is_owned : Bool) (image : List ℕ) : Type 0 where
  words : List ℕ
  may : MayLeave half words
  shown : IsTrue is_owned → image ≡ bytes_of words

left_of_half : (half : SlaveHalf) (is_owned : Bool) (image : List ℕ) → (IsTrue is_owned → IsLeftOf half image) → Left half is_owned image
left_of_half half true image left =
    let is : IsLeftOf half image = left refl in record { words = is.words; may = is.left; shown = λ is_owned. is.image_is }
left_of_half half false image left = record { words = half.words; may = MayLeave-same half; shown = λ is_owned. absurd cc }

-- words that may be left of each half
record AllLeft (halves : List SlaveHalf) (owns : ℕ → Bool) (images : ℕ → List ℕ) : Type 0 where
  words : List (List ℕ)
  may : EachMayLeave halves words
  shown : (slave : ℕ) (half : SlaveHalf) → slice_get halves slave ≡ Some half → IsTrue (owns slave)
      → (left : List ℕ) × (slice_get words slave ≡ Some left) × (images slave ≡ bytes_of left)

all_left : (halves : List SlaveHalf) (owns : ℕ → Bool) (images : ℕ → List ℕ)
    → ((slave : ℕ) (half : SlaveHalf) → slice_get halves slave ≡ Some half → IsTrue (owns slave) → IsLeftOf half (images slave))
    → AllLeft halves owns images
all_left [] owns images left = record { words = []; may = tt; shown = λ slave half here is_owned. absurd cc }
all_left (half ∷ halves) owns images left =
    let first : Left half (owns 0) (images 0) = left_of_half half (owns 0) (images 0) (left 0 half refl) in
    let rest : AllLeft halves (λ slave. owns (suc slave)) (λ slave. images (suc slave)) =
    all_left halves (λ slave. owns (suc slave)) (λ slave. images (suc slave)) (λ slave other here. left (suc slave) other here) in
    record { words = first.words ∷ rest.words; may = (first.may, rest.may); shown = shown_at first rest }
  where
    shown_at : (first : Left half (owns 0) (images 0)) (rest : AllLeft halves (λ slave. owns (suc slave)) (λ slave. images (suc slave)))
        → (slave : ℕ) (other : SlaveHalf) → slice_get (half ∷ halves) slave ≡ Some other → IsTrue (owns slave)
        → (words : List ℕ) × (slice_get (first.words ∷ rest.words) slave ≡ Some words) × (images slave ≡ bytes_of words)
    shown_at first rest zero other here is_owned = (first.words, refl, first.shown is_owned)
    shown_at first rest (suc slave) other here is_owned = rest.shown slave other here is_owned

-- the bytes of the disk
record DiskLeft (disk : Disk) (is_owned : Bool) (image : List ℕ) : Type 0 where
  bytes : List ℕ
  may : StopImage disk bytes
  shown : IsTrue is_owned → image ≡ bytes

disk_left : (disk : Disk) (is_owned : Bool) (image : List ℕ) → (IsTrue is_owned → StopImage disk image) → DiskLeft disk is_owned image
disk_left disk true image left = record { bytes = image; may = left refl; shown = λ is_owned. refl }
disk_left disk false image left = record { bytes = disk.bytes; may = StopImage-same disk; shown = λ is_owned. absurd cc }

-- A pair that shows the images of the files that are owned.
pub record ShownPair (state : State) (owned : LineFile → Bool) (images : LineFile → List ℕ) : Type 0 where
  pub pair : Pair
  pub leaves : Leaves state pair
  pub shows : (name : LineFile) → IsTrue (owned name) → Shows pair name (images name)

same_half : (half : SlaveHalf) (image : List ℕ) (here : SlaveHalf) → here ≡ half → IsLeftOf here image → IsLeftOf half image
same_half half image here same left = rw (sym same) left

pub shown_pair : (state : State) (owned : LineFile → Bool) (images : LineFile → List ℕ)
    → ((name : LineFile) → IsTrue (owned name) → IsLeftOfPart state name (images name)) → ShownPair state owned images
shown_pair state owned images left =
    let disk : DiskLeft state.disk (owned Journal) (images Journal) = disk_left state.disk (owned Journal) (images Journal) (left Journal) in
    let words : AllLeft state.halves (λ slave. owned (Image slave)) (λ slave. images (Image slave)) =
    all_left state.halves (λ slave. owned (Image slave)) (λ slave. images (Image slave)) (λ slave half here is_owned.
    let is : IsLeftOfSlave state.halves slave (images (Image slave)) = left (Image slave) is_owned in
    same_half half (images (Image slave)) is.half (let e = is.here in cc) is.left) in
    record {
      pair = record { disk = disk.bytes; words = words.words };
      leaves = record { disk = disk.may; words = words.may };
      shows = shown_at disk words;
    }
  where
    shown_at : (disk : DiskLeft state.disk (owned Journal) (images Journal))
        (words : AllLeft state.halves (λ slave. owned (Image slave)) (λ slave. images (Image slave))) → (name : LineFile) → IsTrue (owned name)
        → Shows (record { disk = disk.bytes; words = words.words }) name (images name)
    shown_at disk words Journal is_owned = disk.shown is_owned
    shown_at disk words (Image slave) is_owned =
        let is : IsLeftOfSlave state.halves slave (images (Image slave)) = left (Image slave) is_owned in
        words.shown slave is.half is.here is_owned
