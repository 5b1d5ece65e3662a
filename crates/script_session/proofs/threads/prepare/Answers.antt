use Rattle.std.proofs.Common.{refl}
use Rattle.script_session.proofs.SeparateLaws.{same_servable}
use Rattle.script_session.proofs.threads.prepare.Goals as goal

pub returns-in-Ok-clause-sites : goal.returns-in-Ok-clause-sites
returns-in-Ok-clause-sites g c =
    let parts = c.into_parts-parts in
    same_servable c.args.capacity c.args.site.seen.state c.in-Ok.field-0.sites c.lent_sites-sites.result c.lent_sites-sites.ensures
    (c.in-Ok.ensures.sites c.args.site.seen.state parts.ensures.disk parts.ensures.halves)

pub returns-in-Ok-clause-reported : goal.returns-in-Ok-clause-reported
returns-in-Ok-clause-reported g c =
    let parts = c.into_parts-parts in
    (parts.result.1, c.reported_by-reported.ensures c.args.site.seen parts.ensures.device c.has_stopped-has_stopped.ensures)

pub returns-in-Err-clause-failed : goal.returns-in-Err-clause-failed
returns-in-Err-clause-failed g c =
    let parts = c.into_parts-parts in
    record {
      part = c.reported_by-reported.result;
      line = refl;
      tells_it = (parts.result.1, c.reported_by-reported.ensures c.args.site.seen parts.ensures.device c.has_stopped-has_stopped.ensures);
    }
