use Rattle.world_law.specs.World.{World}
use Rattle.world_run.specs.Torn.{disk_of}
use Rattle.std.specs.Prelude.{IsTrue}
use Rattle.book_model.specs.Memory.{OutOfMemory}
use Rattle.world_run.proofs.EventLaws.{seen, submits, refuses}
use Rattle.world_run.proofs.making.World.submit.Goals as goal

pub returns-in-Ok : goal.returns-in-Ok
returns-in-Ok c =
    let now : World = record { book = c.self.inside.station; state = record { disk = disk_of c.self.inside.disk; halves = c.self.inside.line.halves }; took = c.self.inside.line.took } in
    seen _ now _ _ c.self.view_is (submits now c.in-Some.station c.submit.new.self c.args.command.now c.in-Ok._number c.in-Some.is c.in-Ok.ensures.answer c.in-Ok.ensures.accepted)

pub returns-in-Err : goal.returns-in-Err
returns-in-Err c =
    let now : World = record { book = c.self.inside.station; state = record { disk = disk_of c.self.inside.disk; halves = c.self.inside.line.halves }; took = c.self.inside.line.took } in
    let not : ¬ OutOfMemory c.in-Err.refusal = (λ memory. (let e : IsTrue c.is_memory.result = c.is_memory.ensures memory in let no = c.if-is_memory.false in absurd cc)) in
    seen _ now _ _ c.self.view_is (refuses now c.in-Some.station c.submit.new.self c.args.command.now c.in-Err.refusal c.in-Some.is c.in-Err.ensures.answer not c.in-Err.ensures.refused)
