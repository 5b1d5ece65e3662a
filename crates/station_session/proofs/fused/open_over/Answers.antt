use Rattle.std.proofs.Common.{subst, sym}
use Rattle.std.specs.Prelude.{IfOk}
use Rattle.site_shadow.specs.Site.{SiteValue}
use Rattle.station_alone.specs.Opening.{BeginsSession, Opens}
use Rattle.station_line.specs.Opened.{IsMigrated}
use Rattle.station_line.proofs.Opened.{starts-migrated}
use Rattle.station_session.proofs.fused.open_over.Goals as goal

pub returns-in-Ok-clause-starts : goal.returns-in-Ok-clause-starts
returns-in-Ok-clause-starts g c =
    let opened = c.open-in-Ok in
    starts-migrated c.args.is_old c.args.site c.with_device-in-Ok.result opened.result c.if-not-is_old.false
    (subst (λ (site : SiteValue). IsMigrated c.args.site.seen site.line site.seen) (sym c.with_device-in-Ok.ensures) c.in-Ok.ensures.migrated)
    opened.ensures.opens opened.ensures.begins
