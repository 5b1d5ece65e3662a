use Rattle.sii_edit.proofs.FoldLaws.{contents-push}
use Rattle.edit_laws.proofs.changes.contents_after_one_more.Goals as goal

pub returns : goal.returns
returns c = contents-push
