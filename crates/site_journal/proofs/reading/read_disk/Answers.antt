use Rattle.std.proofs.Common.{◌≡◌, length, ◌∙◌, arith}
use Rattle.std.proofs.lemmas.List.{with_items_is}
use Rattle.std.specs.Vec.{with_items}
use Rattle.site_journal.proofs.ReadLaws.{handed_on, sync_fails, length_fails, memory_fails, read_fails, reads_all}
use Rattle.site_journal.proofs.reading.read_disk.Goals as goal

pub returns-in_err-disk_sync-clause-reads : goal.returns-in_err-disk_sync-clause-reads
returns-in_err-disk_sync-clause-reads g c =
    sync_fails _ (g.S.Site.seen c.args.site.now) (g.S.Site.seen c.disk_sync.new.self) c.in_err-disk_sync.field-0.0 c.from_residual.result
    (handed_on c.from_residual.result _ c.from_residual.ensures.1) c.in_err-disk_sync.ensures.syncs

pub returns-in_err-count-clause-reads : goal.returns-in_err-count-clause-reads
returns-in_err-count-clause-reads g c =
    length_fails _ (g.S.Site.seen c.args.site.now) (g.S.Site.seen c.disk_sync.new.self) (g.S.Site.seen c.disk_len.new.self) c.in_err-count.field-0.0 c.from_residual-in_err-count.result
    (handed_on c.from_residual-in_err-count.result _ c.from_residual-in_err-count.ensures.1) c.in_ok-disk_sync.ensures.syncs c.in_err-count.ensures.length

pub returns-in_err-bytes-clause-reads : goal.returns-in_err-bytes-clause-reads
returns-in_err-bytes-clause-reads g c =
    memory_fails _ (g.S.Site.seen c.args.site.now) (g.S.Site.seen c.disk_sync.new.self) (g.S.Site.seen c.disk_len.new.self) c.in_ok-count.count c.from_residual-in_err-bytes.result
    (handed_on c.from_residual-in_err-bytes.result _ c.from_residual-in_err-bytes.ensures.1) c.in_ok-disk_sync.ensures.syncs c.in_ok-count.ensures.length

pub returns-in_err-disk_read-clause-reads : goal.returns-in_err-disk_read-clause-reads
returns-in_err-disk_read-clause-reads g c =
    read_fails _ (g.S.Site.seen c.args.site.now) (g.S.Site.seen c.disk_sync.new.self) (g.S.Site.seen c.disk_len.new.self) (g.S.Site.seen c.disk_read.new.self)
    c.in_ok-count.count _ _ c.in_err-disk_read.field-0.0 c.from_residual-in_err-disk_read.result
    (handed_on c.from_residual-in_err-disk_read.result _ c.from_residual-in_err-disk_read.ensures.1) c.in_ok-disk_sync.ensures.syncs c.in_ok-count.ensures.length c.in_err-disk_read.ensures.reads

pub returns-clause-reads : goal.returns-clause-reads
returns-clause-reads g c =
    let long : length c.deref_mut.result.now ≡ c.in_ok-count.count = c.deref_mut.ensures.len ∙ c.in_ok-bytes.ensures.len in
    reads_all _ (g.S.Site.seen c.args.site.now) (g.S.Site.seen c.disk_sync.new.self) (g.S.Site.seen c.disk_len.new.self) (g.S.Site.seen c.disk_read.new.self)
    c.in_ok-count.count _ (with_items c.in_ok-bytes.bytes c.disk_read.new.bytes) c.disk_read.new.bytes long
    (λ full. with_items_is c.in_ok-bytes.bytes c.disk_read.new.bytes (omega (arith, full, c.in_ok-bytes.ensures.len))) c.in_ok-disk_sync.ensures.syncs c.in_ok-count.ensures.length c.in_ok-disk_read.ensures.reads
