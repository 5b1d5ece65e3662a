use Rattle.std.proofs.Common.{List, subst}
use Rattle.world_law.specs.World.{World}
use Rattle.world_run.specs.Torn.{disk_of}
use Rattle.world_run.specs.declared.leaving.LeftByte.{LeftByte}
use Rattle.world_run.specs.declared.leaving.LeftWord.{LeftWord}
use Rattle.world_run.specs.Left.{TornBy}
use Rattle.world_run.specs.Torn.{StopsAs}
use Rattle.world_run.proofs.EventLaws.{seen}
use Rattle.world_run.proofs.SlaveEventLaws.{stops}
use Rattle.world_run.proofs.making.World.stop.Goals as goal

pub returns : goal.returns
returns c =
    let now : World = record { book = c.self.inside.station; state = record { disk = disk_of c.self.inside.disk; halves = c.self.inside.line.halves }; took = c.self.inside.line.took } in
    let left = c.args.left.now in
    let on_disk = subst (λ (l : List LeftByte). StopsAs l now.state.disk (disk_of c.stop.new.self)) c.deref.ensures.value c.stop.ensures in
    let torn = subst (λ (l : List LeftWord). TornBy l now.state.halves c.stop-2.new.self.halves) c.deref-2.ensures.value c.stop-2.ensures.halves in
    rw c.set_station.ensures (seen _ now _ _ c.self.view_is (stops now left (disk_of c.stop.new.self) c.stop-2.new.self on_disk torn c.stop-2.ensures.took))
