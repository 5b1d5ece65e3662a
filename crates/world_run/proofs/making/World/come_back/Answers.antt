use Rattle.std.proofs.Common.{◌≡◌, ◌<◌, length, subst, arith}
use Rattle.world_law.specs.World.{World}
use Rattle.world_run.specs.Torn.{disk_of}
use Rattle.book_model.specs.Book.{slave_at}
use Rattle.world_run.specs.declared.station.Asked.{Asked}
use Rattle.world_run.specs.Progress.{asked_of}
use Rattle.world_run.specs.Returns.{MayReturn}
use Rattle.world_run.specs.Step.{sides_of}
use Rattle.world_run.proofs.EventLaws.{seen}
use Rattle.world_run.proofs.SlaveEventLaws.{comes-back}
use Rattle.world_run.proofs.making.World.come_back.Goals as goal

pub returns : goal.returns
returns c =
    let now : World = record { book = c.self.inside.station; state = record { disk = disk_of c.self.inside.disk; halves = c.self.inside.line.halves }; took = c.self.inside.line.took } in
    let inside : c.args.slave < length now.state.halves = omega (arith, c.from.ensures, c.len.ensures.len, c.if-from-len.false) in
    let may : MayReturn (asked_of (slave_at c.in-Some.station c.args.slave).operation) c.args.outcome c.args.slave (sides_of now) =
    subst (λ (a : Asked). MayReturn a c.args.outcome c.args.slave (sides_of now)) c.asked.ensures (c.may_return.ensures.may.0 c.if-not-may_return.false) in
    let same : c.may_return.new.line ≡ sides_of now = c.may_return.ensures.same in
    rw same (seen _ now _ _ c.self.view_is (comes-back now c.in-Some.station c.rom_done.new.self c.args.slave c.args.outcome c.in-Some.is inside may c.rom_done.ensures))
