use Rattle.sii_edit.proofs.CommandLaws.{SameShape-outcome}
use Rattle.edit_laws.proofs.changes.commands_keep_the_shape.Goals as goal

pub returns : goal.returns
returns c = SameShape-outcome
