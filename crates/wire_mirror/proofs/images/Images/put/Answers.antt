use Rattle.std.proofs.Common.{true, false, slice_get}
use Rattle.site_file.specs.Owned.{file_at}
use Rattle.wire_mirror.proofs.Syncing.{marked, puts, there, unmarked}
use Rattle.wire_mirror.proofs.images.Images.put.Goals as goal

pub returns-then-write_at : goal.returns-then-write_at
returns-then-write_at g c =
    let found = c.in-Some-Some in
    puts (file_at (slice_get c.args.self.now.files.items c.args.slave)) found.file c.args.slave c.args.write true c.args.calls.now c.mark.new.calls
    (there c.args.self.now.files.items c.deref.result.now c.args.slave found.field-0.now found.file c.deref.ensures.value found.ensures.lookup.3.0 found.ensures.lookup.1 found.field-0-is)
    (marked c.args.slave c.args.write c.from-place.result c.to_le_bytes.result c.write_at.result c.args.calls.now c.write_at.new.calls c.mark.new.calls
    c.from-place.ensures c.to_le_bytes.ensures c.if-write_at.true c.write_at.ensures c.mark.ensures)

pub returns-else-write_at : goal.returns-else-write_at
returns-else-write_at g c =
    let found = c.in-Some-Some in
    puts (file_at (slice_get c.args.self.now.files.items c.args.slave)) found.file c.args.slave c.args.write false c.args.calls.now c.fail.new.calls
    (there c.args.self.now.files.items c.deref.result.now c.args.slave found.field-0.now found.file c.deref.ensures.value found.ensures.lookup.3.0 found.ensures.lookup.1 found.field-0-is)
    (unmarked c.args.slave c.args.write c.from-place.result c.to_le_bytes.result c.write_at.result c.args.calls.now c.write_at.new.calls c.fail.new.calls
    c.from-place.ensures c.to_le_bytes.ensures c.if-write_at.false c.write_at.ensures c.fail.ensures)
