-- What a power cut leaves of a disk on which only one range may be torn, and what writes within that range do.
use Rattle.std.proofs.Common.{◌≡◌, ◌⊎◌, inl, inr, ℕ, ◌+◌, ◌<◌, ◌≤◌, List, [], ◌∷◌, length, arith}
use Rattle.std.specs.List.{AllByRecursion}
use Rattle.site_core.specs.Disk.{Range, Disk, StopImage, IsOutside, write_begun}
use Rattle.book_model.proofs.StopLaws.{AgreesOutside}
use Rattle.book_model.specs.OldFile.{IsInside, TornWithin}

outside-all : (start count : ℕ) (ranges : List Range) (k : ℕ) → AllByRecursion (IsInside start count) ranges → (k < start) ⊎ (start + count ≤ k) → AllByRecursion (IsOutside k) ranges
outside-all start count [] k all out = tt
outside-all start count (r ∷ ranges) k all out = (one out, outside-all start count ranges k all.1 out)
  where
    one : (k < start) ⊎ (start + count ≤ k) → IsOutside k r
    one (inl before) = inl (omega (arith, before, all.0.0))
    one (inr past) = inr (omega (arith, past, all.0.1))

pub torn-agrees : (start count : ℕ) (disk : Disk) (image : List ℕ) → TornWithin start count disk → StopImage disk image → AgreesOutside disk.bytes start count image
torn-agrees start count disk image torn stop = record {
  outside = λ k out. stop.bytes k (outside-all start count disk.unsynced k torn.ranges out);
  no_shorter = omega (arith, stop.no_shorter, torn.entire);
}

-- a write in the range begins
pub torn-begun : (start count at size : ℕ) (disk : Disk) → TornWithin start count disk → start ≤ at → at + size ≤ start + count → TornWithin start count (write_begun disk at size)
torn-begun start count at size disk torn from to = record { ranges = ((from, to), torn.ranges); entire = torn.entire }

-- where nothing is unsynced
pub torn-none : (start count : ℕ) (disk : Disk) → disk.unsynced ≡ [] → length disk.bytes ≤ disk.synced_length → TornWithin start count disk
torn-none start count disk none entire = record { ranges = rw none tt; entire = entire }

-- other bytes, as many as before
pub torn-same : (start count : ℕ) (disk new : Disk) → TornWithin start count disk → new.unsynced ≡ disk.unsynced → new.synced_length ≡ disk.synced_length → length new.bytes ≡ length disk.bytes
    → TornWithin start count new
torn-same start count disk new torn ranges synced long = record { ranges = rw ranges torn.ranges; entire = omega (arith, synced, long, torn.entire) }
