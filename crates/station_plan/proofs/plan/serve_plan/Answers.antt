use Rattle.station_plan.proofs.Plans.{serves_plan}
use Rattle.station_plan.proofs.plan.serve_plan.Goals as goal

pub returns : goal.returns
returns g c =
    serves_plan c.compare-planned.result c.args.alone c.args.commands.items c.args.answered.now c.serve_station.new.answered c.args.before c.in_ok-site.site.line c.in_ok-site.site.seen
    c.in_ok-site.ensures.served c.compare-planned.ensures
