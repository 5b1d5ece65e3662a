use Rattle.std.proofs.Common.{sym, subst}
use Rattle.station_files.specs.Files.{Known, HasBytes}
use Rattle.wire_scan.proofs.Kept.{held_there}
use Rattle.wire_scan.proofs.backup.write_missing.Goals as goal

pub returns-else-not-branch-clause-written : goal.returns-else-not-branch-clause-written
returns-else-not-branch-clause-written g c = λ may.
    let P : Known → Type 0 = λ files. HasBytes files c.args.name.now c.args.bytes.now in
    let there = c.in_ok-is_there.ensures.there c.if-not-branch.false in
    subst P (sym c.is_there.ensures.same) (held_there (g.S.Store.files c.args.store.now) c.args.name.now c.args.bytes.now there may)
