use Rattle.std.proofs.Common.{length, refl, arith}
use Rattle.std.proofs.lemmas.Option.{slice_get_read}
use Rattle.sii_bytes.specs.Content.LacksItem.{fewer}
use Rattle.sii_bytes.specs.Content.ReadsItem.{done, lacks}
use Rattle.sii_bytes.proofs.content.read_manager.Goals as goal

pub returns-then-number-len : goal.returns-then-number-len
returns-then-number-len c = lacks (fewer c.in-Ok.found.items refl c.in-Ok.ensures (omega arith)) refl

pub returns : goal.returns
returns c =
    let found = slice_get_read c.in-Ok.found.items (length c.in-Ok.found.items) c.args.number c.index.result.now refl (omega arith) c.index.ensures in
    done c.index.result.now refl (record { items = c.in-Ok.found.items; all = c.in-Ok.ensures; found = found }) c.manager_row.ensures
