use Rattle.station_line.proofs.Opened.{starts-migrated}
use Rattle.station_line.proofs.Going.{goes_through, open_goes}
use Rattle.station_line.proofs.opening.open_station.Goals as goal

pub returns-then-is_old-clause-starts : goal.returns-then-is_old-clause-starts
returns-then-is_old-clause-starts g c =
    let left = c.in_ok-left in
    starts-migrated c.args.is_old c.args.site left.left c.open.result c.if-is_old.true left.ensures.migrated c.open.ensures.opens c.open.ensures.begins

pub returns-then-is_old-clause-goes : goal.returns-then-is_old-clause-goes
returns-then-is_old-clause-goes g c =
    let left = c.in_ok-left in
    goes_through c.args.site.seen left.left.seen c.open.result left.ensures.goes
    (open_goes left.left.line left.left.seen c.open.result c.open.ensures.opens c.open.ensures.keeps c.open.ensures.fails c.open.ensures.keeps_back)
