use Rattle.sii_edit.proofs.CommandLaws.{not_memory}
use Rattle.edit_laws.proofs.changes.memory_is_not_validated.Goals as goal

pub returns : goal.returns
returns c = not_memory
