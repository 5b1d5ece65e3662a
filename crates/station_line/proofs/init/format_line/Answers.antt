use Rattle.station_line.proofs.Formatted.{saves_empty}
use Rattle.station_line.proofs.init.format_line.Goals as goal

pub returns-in-Ok-clause-saved : goal.returns-in-Ok-clause-saved
returns-in-Ok-clause-saved g c =
    saves_empty c.save_site-saved.result (g.S.Store.files c.save_site-saved.new.store) c.args.line.now c.args.slaves.now c.new.result.items c.in_ok-site.site.seen c.format-formatted.new.site.seen c.in_ok-site.site.line.sizes
    c.in_ok-site.ensures.sizes c.in_ok-site.ensures.seen c.new.ensures.items c.in-Ok.ensures.formats.bytes c.in-Ok.ensures.formats.halves c.save_site-saved.ensures.saved
