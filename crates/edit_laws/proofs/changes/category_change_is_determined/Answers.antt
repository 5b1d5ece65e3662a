use Rattle.sii_edit.proofs.OneEdit.{one-change}
use Rattle.edit_laws.proofs.changes.category_change_is_determined.Goals as goal

pub returns : goal.returns
returns c = one-change c.one_chain.ensures.unique
