use Rattle.std.proofs.Common.{◌<◌, length, refl}
use Rattle.world_run.proofs.SidesLaws.{read-at}
use Rattle.std.proofs.Common.{arith}
use Rattle.world_run.proofs.line.WorldLine.are_idle.Goals as goal

pub is_idle-requires : goal.is_idle-requires
is_idle-requires c =
    let inside : c.loop-slave.slave < length c.self.inside.halves.items = omega arith in
    c.self.invariant.each c.loop-slave.slave c.index.result.now (read-at c.self.inside.halves.items c.loop-slave.slave c.loop-slave.slave c.index.result.now inside refl c.index.ensures)
