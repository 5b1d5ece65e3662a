use Rattle.std.proofs.Common.{map, string_bytes}
use Rattle.station_files.specs.LineFiles.{names_of}
use Rattle.station_line.proofs.Saved.{holds_line_ok, changes_line}
use Rattle.station_line.proofs.site.write_line.Goals as goal

pub returns-clause-written : goal.returns-clause-written
returns-clause-written g c =
    holds_line_ok c.write_files.result (g.S.Store.files c.write.new.self) (g.S.Store.files c.write_files.new.store) (string_bytes c.args.line.now.journal) c.args.journal.now (names_of c.args.line.now) (map (λ file. file.items) c.args.slaves.now)
    (rw c.as_str.ensures.value at c.in_ok-write.ensures.written) (rw c.deref.ensures.value at c.write_files.ensures.others) (rw c.deref.ensures.value at c.write_files.ensures.written)

pub returns-clause-others : goal.returns-clause-others
returns-clause-others g c =
    changes_line (g.S.Store.files c.args.store.now) (g.S.Store.files c.write.new.self) (g.S.Store.files c.write_files.new.store) (string_bytes c.args.line.now.journal) (names_of c.args.line.now)
    (rw c.as_str.ensures.value at c.write.ensures.others) (rw c.deref.ensures.value at c.write_files.ensures.others)
