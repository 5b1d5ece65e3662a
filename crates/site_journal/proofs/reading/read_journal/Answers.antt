use Rattle.site_journal.proofs.ReadLaws.{handed_on}
use Rattle.site_journal.proofs.JournalLaws.{journal_unread}
use Rattle.site_journal.proofs.reading.read_journal.Goals as goal

pub returns-in_err-bytes-clause-reads : goal.returns-in_err-bytes-clause-reads
returns-in_err-bytes-clause-reads g c =
    journal_unread _ c.args.sizes.now (g.S.Site.seen c.args.site.now) (g.S.Site.seen c.read_disk.new.site) c.in_err-bytes.field-0.0 c.from_residual.result
    (handed_on c.from_residual.result _ c.from_residual.ensures.1) c.in_err-bytes.ensures.reads
