use Rattle.std.proofs.Common.{refl, arith}
use Rattle.sii_cats.specs.Pdos.{ArePdos, view}
use Rattle.sii_bytes.specs.Content.ReadsItem.{done, lacks}
use Rattle.sii_bytes.proofs.ContentItems.{item_of, no_item}
use Rattle.sii_bytes.proofs.content.read_pdo.Goals as goal

pub returns-then-number-len : goal.returns-then-number-len
returns-then-number-len c = lacks (no_item view ArePdos c.args.content.now c.in-Ok.found.items c.args.number c.in-Ok.ensures (omega arith)) refl

pub returns : goal.returns
returns c =
    done (view c.index.result.now) refl
    (item_of view ArePdos c.args.content.now c.in-Ok.found.items c.args.number c.index.result.now c.in-Ok.ensures (omega arith) c.index.ensures)
    c.pdo_row.ensures
