use Rattle.world_law.specs.World.{World}
use Rattle.world_run.specs.Torn.{disk_of}
use Rattle.world_run.proofs.EventLaws.{seen, migrates}
use Rattle.world_run.proofs.making.World.migrate.Goals as goal

pub returns : goal.returns
returns c =
    let now : World = record { book = c.self.inside.station; state = record { disk = disk_of c.self.inside.disk; halves = c.self.inside.line.halves }; took = c.self.inside.line.took } in
    seen _ now _ _ c.self.view_is (migrates now c.in-Some.station c.migrate.new.self c.in-Some.is c.migrate.ensures)
