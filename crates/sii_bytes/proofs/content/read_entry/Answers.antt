use Rattle.std.proofs.Common.{length, refl, arith}
use Rattle.std.proofs.lemmas.Option.{slice_get_read}
use Rattle.sii_cats.specs.Pdos.{ArePdos, view}
use Rattle.sii_bytes.specs.Content.ReadsEntry.{done, lacks, fewer}
use Rattle.sii_bytes.proofs.ContentItems.{item_of, no_item}
use Rattle.sii_bytes.proofs.content.read_entry.Goals as goal

pub returns-then-pdo-len : goal.returns-then-pdo-len
returns-then-pdo-len c = lacks (no_item view ArePdos c.args.content.now c.in-Ok.found.items c.args.pdo c.in-Ok.ensures (omega arith)) refl

pub returns-then-number-len : goal.returns-then-number-len
returns-then-number-len c =
    fewer (view c.index.result.now) refl
    (item_of view ArePdos c.args.content.now c.in-Ok.found.items c.args.pdo c.index.result.now c.in-Ok.ensures (omega arith) c.index.ensures)
    (omega arith) refl

pub returns : goal.returns
returns c =
    let entries = c.index.result.now.entries.items in
    done (view c.index.result.now) c.index-2.result.now refl
    (item_of view ArePdos c.args.content.now c.in-Ok.found.items c.args.pdo c.index.result.now c.in-Ok.ensures (omega arith) c.index.ensures)
    (slice_get_read entries (length entries) c.args.number c.index-2.result.now refl (omega arith) c.index-2.ensures)
    c.entry_row.ensures
