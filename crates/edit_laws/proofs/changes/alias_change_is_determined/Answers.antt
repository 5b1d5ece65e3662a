use Rattle.sii_edit.proofs.AliasLaws.{with_alias-from_ChangesAlias}
use Rattle.edit_laws.proofs.changes.alias_change_is_determined.Goals as goal

pub returns : goal.returns
returns c = with_alias-from_ChangesAlias
