use Rattle.std.proofs.Common.{◌≡◌, ◌∙◌, Some, sym, ap}
use Rattle.world_law.specs.World.{World}
use Rattle.world_run.specs.Torn.{disk_of}
use Rattle.std.specs.Option.{option_copied}
use Rattle.world_run.specs.Progress.{handed_out}
use Rattle.world_run.proofs.EventLaws.{seen, ends-action}
use Rattle.world_run.proofs.making.World.end_action.Goals as goal

pub returns : goal.returns
returns c =
    let now : World = record { book = c.self.inside.station; state = record { disk = disk_of c.self.inside.disk; halves = c.self.inside.line.halves }; took = c.self.inside.line.took } in
    let out : handed_out c.in-Some.station ≡ Some c.in-Some-action.action.now = sym c.action.ensures.action ∙ ap option_copied c.in-Some-action.is in
    seen _ now _ _ c.self.view_is (ends-action now c.in-Some.station c.end_action.new.self c.in-Some-action.action.now (disk_of c.end.new.self) c.in-Some.is out c.end_action.ensures c.in_ok-end.ensures.ok)
