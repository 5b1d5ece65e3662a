use Rattle.station_plan.proofs.Plans.{plans}
use Rattle.station_plan.proofs.plan.plan_line.Goals as goal

pub returns-in_ok-write-in-Ok : goal.returns-in_ok-write-in-Ok
returns-in_ok-write-in-Ok g c = plans c.args.site c.args.commands.items c.in-Ok.planned c.plan_site.new.answered c.in-Ok.ensures
