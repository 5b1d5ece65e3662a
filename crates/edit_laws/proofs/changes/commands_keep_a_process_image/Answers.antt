use Rattle.std.proofs.Common.{take}
use Rattle.sii_edit.proofs.FoldLaws.{process_image-contents}
use Rattle.edit_laws.proofs.changes.commands_keep_a_process_image.Goals as goal

pub returns : goal.returns
returns c = λ base commands count some. process_image-contents base (take count commands) some
