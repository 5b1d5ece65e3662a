use Rattle.std.proofs.Common.{◌≡◌, arith}
use Rattle.sii_edit.specs.Alias.{with_alias}
use Rattle.sii_edit.proofs.AliasLaws.{ChangesAlias-with_alias}
use Rattle.sii_edit.proofs.alias.alias_image.Goals as goal

pub returns-clause-changed : goal.returns-clause-changed
returns-clause-changed c =
    let made : c.set-2.new.self ≡ with_alias c.args.image.now c.args.value = cc in
    rw made (ChangesAlias-with_alias c.args.image.now c.args.value (omega arith))
