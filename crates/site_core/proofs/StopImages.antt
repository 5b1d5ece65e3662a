-- What a power cut may leave of a disk.
use Rattle.std.proofs.Common.{◌≡◌, ℕ, suc, List, [], ◌∷◌, Some, None, slice_get, refl, sym, subst, arith}
use Rattle.site_core.specs.Disk.{Disk, StopImage, write_begun, synced, DiskStopped}

-- lists with the same elements are equal
pub equal_by_elements : {A : Type 0} (xs ys : List A) → ((at : ℕ) → slice_get xs at ≡ slice_get ys at) → xs ≡ ys
equal_by_elements [] [] same = refl
equal_by_elements [] (y ∷ ys) same = let e : None ≡ Some y = same 0 in absurd cc
equal_by_elements (x ∷ xs) [] same = let e : Some x ≡ None = same 0 in absurd cc
equal_by_elements (x ∷ xs) (y ∷ ys) same =
    let head : Some x ≡ Some y = same 0 in
    let tail : xs ≡ ys = equal_by_elements xs ys (λ at. same (suc at)) in
    cc

-- the bytes that a read gives are an image
pub StopImage-same : (disk : Disk) → StopImage disk disk.bytes
StopImage-same disk = record { bytes = λ at is. refl; no_shorter = omega arith }

-- a write that begins takes no image away
pub StopImage-write_begun : (disk : Disk) (at count : ℕ) (image : List ℕ) → StopImage disk image → StopImage (write_begun disk at count) image
StopImage-write_begun disk at count image stop = record { bytes = λ place is. stop.bytes place is.1; no_shorter = stop.no_shorter }

-- after a sync the disk's bytes are the only image
pub StopImage-synced : (disk : Disk) (image : List ℕ) → StopImage (synced disk) image → image ≡ disk.bytes
StopImage-synced disk image stop = equal_by_elements image disk.bytes (λ at. stop.bytes at tt)

-- a power cut adds no image
pub StopImage-stopped : (disk later : Disk) (image : List ℕ) → DiskStopped disk later → StopImage later image → StopImage disk image
StopImage-stopped disk later image stopped stop =
    let all : StopImage (synced later) image = subst (λ (d : Disk). StopImage d image) stopped.all_synced stop in
    let is : image ≡ later.bytes = StopImage-synced later image all in
    subst (λ (i : List ℕ). StopImage disk i) (sym is) stopped.image
