use Rattle.std.proofs.Common.{ℕ, List, refl, subst}
use Rattle.sii_words.specs.Words.{IsDeviceSize}
use Rattle.sii_bytes.specs.Bytes.Answers.{words_refused}
use Rattle.sii_bytes.specs.Editing.{RefusesImage}
use Rattle.sii_bytes.proofs.EditRefusals.{same_length}
use Rattle.sii_bytes.proofs.editing.edit_image.Goals as goal

pub copy_from_slice-requires : goal.copy_from_slice-requires
copy_from_slice-requires c =
    same_length IsDeviceSize c.args.device.now c.in-Ok.found c.in-Ok-imaged.found.items c.deref.result.now c.in-Ok.ensures.0 c.in-Ok.ensures.1 c.in-Ok-imaged.ensures.length
    c.deref.ensures.value

pub returns-in-Err-imaged : goal.returns-in-Err-imaged
returns-in-Err-imaged c =
    words_refused c.in-Ok.ensures.0 (subst (λ (words : List ℕ). RefusesImage words c.args.image.now c.in-Err-imaged.code) c.in-Ok.ensures.1 c.in-Err-imaged.ensures.err) refl
