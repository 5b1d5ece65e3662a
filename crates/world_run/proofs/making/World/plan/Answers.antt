use Rattle.world_law.specs.World.{World}
use Rattle.world_run.specs.Torn.{disk_of}
use Rattle.world_run.proofs.EventLaws.{seen, plans}
use Rattle.world_run.proofs.making.World.plan.Goals as goal

pub returns-in-Ok : goal.returns-in-Ok
returns-in-Ok c =
    let now : World = record { book = c.self.inside.station; state = record { disk = disk_of c.self.inside.disk; halves = c.self.inside.line.halves }; took = c.self.inside.line.took } in
    seen _ now _ _ c.self.view_is (plans now c.in-Some.station c.plan.new.self c.in-Some.is c.plan.ensures.same)

pub returns-in-Err-ImageOverLimit : goal.returns-in-Err-ImageOverLimit
returns-in-Err-ImageOverLimit c =
    let now : World = record { book = c.self.inside.station; state = record { disk = disk_of c.self.inside.disk; halves = c.self.inside.line.halves }; took = c.self.inside.line.took } in
    seen _ now _ _ c.self.view_is (plans now c.in-Some.station c.plan.new.self c.in-Some.is c.plan.ensures.same)
