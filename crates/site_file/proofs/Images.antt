-- What a power cut may leave of a file after a sync.
use Rattle.std.proofs.Common.{◌≡◌, ℕ, ◌≤◌, min, Bool, true, false, List, length, IsTrue, sym, subst, ◌∙◌, arith}
use Rattle.site_core.specs.Disk.{StopImage, synced}
use Rattle.site_core.proofs.StopImages.{StopImage-same, StopImage-synced}
use Rattle.site_file.specs.Calls.{syncs}
use Rattle.site_file.specs.Files.{File, KeepsSynced, Becomes}

-- what isn't synced may have become anything, and so it may be left
kept_image : (old new : File) (image : List ℕ) → KeepsSynced old new → StopImage new.disk image → StopImage old.disk image
kept_image old new image kept stop = record {
  bytes = λ at is. stop.bytes at (rw kept.unsynced is) ∙ kept.bytes at is;
  no_shorter = let e : min new.disk.synced_length (length new.disk.bytes) ≤ length image = stop.no_shorter in
      let same : new.disk.synced_length ≡ old.disk.synced_length = kept.synced_length in
      let longer : min old.disk.synced_length (length old.disk.bytes) ≤ length new.disk.bytes = kept.no_shorter in omega arith;
}

-- a sync, also one that fails, adds nothing to what may be left
pub sync_image : (done : Bool) (old new : File) (image : List ℕ) → IsTrue old.is_sound → Becomes syncs done old new → StopImage new.disk image
    → StopImage old.disk image
sync_image false old new image is_sound becomes stop = kept_image old new image becomes stop
sync_image true old new image is_sound becomes stop =
    let all : StopImage (synced old.disk) image = subst (λ (f : File). StopImage f.disk image) (becomes.all is_sound) stop in
    subst (λ (i : List ℕ). StopImage old.disk i) (sym (StopImage-synced old.disk image all)) (StopImage-same old.disk)
