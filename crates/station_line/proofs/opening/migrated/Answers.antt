use Rattle.station_line.proofs.Going.{failure_goes, left_goes, recovery_goes}
use Rattle.station_line.proofs.opening.migrated.Goals as goal

pub returns-in-Ok-clause-goes : goal.returns-in-Ok-clause-goes
returns-in-Ok-clause-goes g c =
    let r = c.in-Ok.alone in
    left_goes c.args.site.seen r c.into_parts-core.result.1.seen c.into_parts-core.ensures.seen
    (recovery_goes c.args.site.line c.args.site.seen r c.in-Ok.ensures.steps c.in-Ok.ensures.keeps)

pub returns-in-Err-clause-goes : goal.returns-in-Err-clause-goes
returns-in-Err-clause-goes g c =
    let e = c.in-Err.back in
    failure_goes c.args.site.line c.args.site.seen e.1 e.0.line e.0.seen c.in-Err.ensures.refused c.in-Err.ensures.keeps
