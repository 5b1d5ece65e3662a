use Rattle.world_law.specs.World.{World}
use Rattle.world_run.specs.Torn.{disk_of}
use Rattle.world_run.proofs.EventLaws.{seen}
use Rattle.world_run.proofs.SlaveEventLaws.{comes-to-rest}
use Rattle.world_run.proofs.making.World.rest.Goals as goal

pub returns : goal.returns
returns c =
    let now : World = record { book = c.self.inside.station; state = record { disk = disk_of c.self.inside.disk; halves = c.self.inside.line.halves }; took = c.self.inside.line.took } in
    seen _ now _ _ c.self.view_is (comes-to-rest now c.args.slave c.args.end c.rest.new.self c.rest.ensures)
