-- The journal's file beside the shadow's disk.
use Rattle.std.proofs.Common.{◌≡◌, ℕ, ◌≤◌, min, true, false, List, length, refl, sym, subst, ◌∙◌, inl, inr, arith}
use Rattle.site_core.specs.Disk.{Disk, IsSynced, StopImage, WriteFailed, write_begun}
use Rattle.site_core.proofs.Overlays.{StopImage-written, StopImage-failed}
use Rattle.site_file.specs.Files.{File, sound}
use Rattle.site_file.specs.Laws.{WriteFollows, WriteMayHoldAnything, FailedWriteLeavesNoMore, SyncFollows, SyncLeavesNoMore}
use Rattle.site_file.proofs.Images.{sync_image}

pub write_follows : WriteFollows
write_follows shadow at bytes later becomes = becomes.2 ∙ becomes.1

pub write_may_hold_anything : WriteMayHoldAnything
write_may_hold_anything shadow at bytes done image inside (inl stop) = stop
write_may_hold_anything shadow at bytes true image inside (inr after) =
    StopImage-written shadow at bytes image inside (subst (λ (f : File). StopImage f.disk image) after.1 after.2)
write_may_hold_anything shadow at bytes false image inside (inr after) =
    StopImage-failed shadow after.0.disk at (length bytes) image after.1.disk after.2

-- an image of a disk whose write has begun is one of the disk whose write has failed
after_failure : (shadow after : Disk) (at count : ℕ) (image : List ℕ) → shadow.synced_length ≤ length shadow.bytes
    → WriteFailed (write_begun shadow at count) at count after → StopImage (write_begun shadow at count) image → StopImage after image
after_failure shadow after at count image long failed stop = record {
  bytes = λ place is. let begun : IsSynced (write_begun shadow at count) place = rw failed.unsynced at is in
      stop.bytes place begun ∙ sym (failed.bytes place begun.0);
  no_shorter = let e : min shadow.synced_length (length shadow.bytes) ≤ length image = stop.no_shorter in
      let same : after.synced_length ≡ shadow.synced_length = failed.synced_length in omega arith;
}

pub failed_write_leaves_no_more : FailedWriteLeavesNoMore
failed_write_leaves_no_more shadow after at bytes later image long failed becomes stop =
    let there : StopImage becomes.0.disk image = subst (λ (f : File). StopImage f.disk image) becomes.2 stop in
    let begun : StopImage (write_begun shadow at (length bytes)) image =
    StopImage-failed shadow becomes.0.disk at (length bytes) image becomes.1.disk there in
    after_failure shadow after at (length bytes) image long failed begun

pub sync_follows : SyncFollows
sync_follows shadow later becomes = becomes.2 ∙ becomes.1.all refl

pub sync_leaves_no_more : SyncLeavesNoMore
sync_leaves_no_more shadow done image (inl stop) = stop
sync_leaves_no_more shadow done image (inr after) = sync_image done (sound shadow) after.0 image refl after.1 after.2
