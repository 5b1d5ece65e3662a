use Rattle.sii_edit.proofs.FoldLaws.{SameShape-contents}
use Rattle.edit_laws.proofs.changes.contents_keep_the_shape.Goals as goal

pub returns : goal.returns
returns c = SameShape-contents
