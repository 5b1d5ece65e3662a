use Rattle.std.proofs.Common.{ℕ, List, refl, subst}
use Rattle.sii_words.specs.Words.{IsDeviceSize}
use Rattle.sii_bytes.specs.Bytes.Answers.{words_refused}
use Rattle.sii_bytes.specs.Editing.{RefusesCategory}
use Rattle.sii_bytes.proofs.EditRefusals.{same_length}
use Rattle.sii_bytes.proofs.editing.edit_category.Goals as goal

pub copy_from_slice-requires : goal.copy_from_slice-requires
copy_from_slice-requires c =
    same_length IsDeviceSize c.args.device.now c.in-Ok.found c.in-Ok-recategorized.found.items c.deref.result.now c.in-Ok.ensures.0 c.in-Ok.ensures.1 c.in-Ok-recategorized.ensures.length
    c.deref.ensures.value

pub returns-in-Err-recategorized : goal.returns-in-Err-recategorized
returns-in-Err-recategorized c =
    words_refused c.in-Ok.ensures.0 (subst (λ (words : List ℕ). RefusesCategory words c.args.kind c.args.content.now c.in-Err-recategorized.code) c.in-Ok.ensures.1 c.in-Err-recategorized.ensures.err) refl
