use Rattle.station_alone.specs.Station.{station}
use Rattle.station_alone.specs.Opening.{most_calls_to_open}
use Rattle.station_alone.proofs.OpenLaws.{begins-session, keeps-opening}
use Rattle.station_alone.proofs.alone.Alone.open_counted.Goals as goal

pub returns-in-Ok-clause-begins : goal.returns-in-Ok-clause-begins
returns-in-Ok-clause-begins g c =
    let new = station c.in-Ok.core (g.S.Site.line c.open_core.new.site) (g.S.Site.seen c.open_core.new.site) in
    begins-session (g.S.Site.line c.args.site) (g.S.Site.seen c.args.site) c.in-Ok.ensures.opens.0 new c.in-Ok.ensures.opens.1

pub returns-in-Ok-clause-keeps : goal.returns-in-Ok-clause-keeps
returns-in-Ok-clause-keeps g c =
    let its = g.S.Site.line c.args.site in
    keeps-opening (g.S.Site.seen c.args.site) (g.S.Site.seen c.open_core.new.site) (most_calls_to_open its.sizes) c.in-Ok.ensures.opens.1.quiet

pub returns-in-Err-clause-keeps_back : goal.returns-in-Err-clause-keeps_back
returns-in-Err-clause-keeps_back g c =
    let its = g.S.Site.line c.args.site in
    keeps-opening (g.S.Site.seen c.args.site) (g.S.Site.seen c.open_core.new.site) (most_calls_to_open its.sizes) c.in-Err.ensures.fails.quiet
