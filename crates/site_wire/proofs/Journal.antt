-- What a call on the journal's file leaves of its device.
use Rattle.std.proofs.Common.{◌≡◌, true, false, IsTrue, refl, sym, subst, ◌∙◌}
use Rattle.site_core.specs.State.{Seen}
use Rattle.site_shadow.specs.declared.device.Passing.{Passing}
use Rattle.site_shadow.specs.declared.device.Passing.TheVariants.{Passes}
use Rattle.site_shadow.specs.Following as shadow
use Rattle.site_shadow.specs.Following.{GoesOn}
use Rattle.site_file.specs.declared.files.FileDevice.{FileDevice}
use Rattle.site_file.specs.declared.asking.Call.{Call}
use Rattle.site_file.specs.declared.asking.Call.TheVariants.{TellsLength as tells_length}
use Rattle.site_file.specs.Device as device
use Rattle.site_file.specs.Device.{CallsJournal, AsksLength, ReadsJournal}
use Rattle.site_file.proofs.Following.{failed_already}

pub GoesOn-same : (seen : Seen) → GoesOn seen seen
GoesOn-same seen = record {
  extends = record { goes = shadow.rests refl refl; stopped = λ is. is };
  kept = λ going. record { bytes = refl; synced_length = refl; synced = λ at is. is; words = λ slave half here. (half, here, refl) };
}

-- the journal and its answer, as a device hands them on
pub handed_on : {F : Type 0} (Asks : Passing → FileDevice F → Type 0) (reported result : Passing) (mid after : FileDevice F) → result ≡ reported → after ≡ mid
    → Asks reported mid → Asks result after
handed_on Asks reported result mid after same_result same_journal asks =
    subst (λ (p : Passing). Asks p after) (sym same_result) (subst (Asks reported) (sym same_journal) asks)

module _ {F : Type 0} where
  -- A journal that has failed is left as it is by each call.
  pub same_call : (call : Call) (before after : FileDevice F) (result : Passing) → IsTrue before.has_failed → CallsJournal call before result after
      → after ≡ before
  same_call call before after result failed (device.over lacks stops same) = same ∙ failed_already before failed
  same_call call before after result failed (device.passes going asks passed sound) = absurd (let e : true ≡ false = sym failed ∙ going in cc)
  same_call call before after result failed (device.fails going asks fails now) = absurd (let e : true ≡ false = sym failed ∙ going in cc)

  pub same_length : (before after : FileDevice F) (result : Passing) → IsTrue before.has_failed → AsksLength before result after → after ≡ before
  same_length before after result failed (device.calls one) = same_call tells_length before after result failed one
  same_length before after result failed (device.differs going asks stops sound) = absurd (let e : true ≡ false = sym failed ∙ going in cc)

  pub same_read : (before after : FileDevice F) (result : Passing) → IsTrue before.has_failed → ReadsJournal before result after → after ≡ before
  same_read before after result failed (device.over lacks stops same) = same ∙ failed_already before failed
  same_read before after result failed (device.compared going asks passed sound) = absurd (let e : true ≡ false = sym failed ∙ going in cc)
  same_read before after result failed (device.fails going asks fails now) = absurd (let e : true ≡ false = sym failed ∙ going in cc)

  -- One that has passed a call has not failed.
  pub call_sound : (call : Call) (before after : FileDevice F) (result : Passing) → CallsJournal call before result after → result ≡ Passes
      → after.has_failed ≡ false
  call_sound call before after result (device.over lacks stops same) passed = absurd cc
  call_sound call before after result (device.passes going asks passed sound) is = sound
  call_sound call before after result (device.fails going asks fails now) passed = absurd cc

  pub length_sound : (before after : FileDevice F) (result : Passing) → AsksLength before result after → result ≡ Passes → after.has_failed ≡ false
  length_sound before after result (device.calls one) passed = call_sound tells_length before after result one passed
  length_sound before after result (device.differs going asks stops sound) passed = sound

  pub read_sound : (before after : FileDevice F) (result : Passing) → ReadsJournal before result after → result ≡ Passes → after.has_failed ≡ false
  read_sound before after result (device.over lacks stops same) passed = absurd cc
  read_sound before after result (device.compared going asks compares sound) passed = sound
  read_sound before after result (device.fails going asks fails now) passed = absurd cc
