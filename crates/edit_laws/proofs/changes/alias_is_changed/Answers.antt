use Rattle.sii_edit.proofs.AliasLaws.{ChangesAlias-with_alias}
use Rattle.edit_laws.proofs.changes.alias_is_changed.Goals as goal

pub returns : goal.returns
returns c = ChangesAlias-with_alias
