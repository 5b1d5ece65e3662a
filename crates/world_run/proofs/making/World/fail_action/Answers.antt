use Rattle.std.proofs.Common.{◌≡◌, ◌∙◌, List, Some, sym, ap, subst}
use Rattle.world_law.specs.World.{World}
use Rattle.world_run.specs.Torn.{disk_of}
use Rattle.world_run.specs.declared.leaving.LeftByte.{LeftByte}
use Rattle.std.specs.Option.{option_copied}
use Rattle.world_run.specs.Torn.{FailsAs}
use Rattle.world_run.specs.Progress.{handed_out}
use Rattle.world_run.proofs.EventLaws.{seen, fails-action}
use Rattle.world_run.proofs.making.World.fail_action.Goals as goal

pub returns : goal.returns
returns c =
    let now : World = record { book = c.self.inside.station; state = record { disk = disk_of c.self.inside.disk; halves = c.self.inside.line.halves }; took = c.self.inside.line.took } in
    let out : handed_out c.in-Some.station ≡ Some c.in-Some-action.action.now = sym c.action.ensures.action ∙ ap option_copied c.in-Some-action.is in
    let fails = subst (λ (l : List LeftByte). FailsAs c.in-Some-action.action.now l now.state.disk (disk_of c.fail.new.self)) c.deref.ensures.value c.fail.ensures in
    seen _ now _ _ c.self.view_is (fails-action now c.in-Some.station c.end_action.new.self c.in-Some-action.action.now c.args.fault c.args.bytes.now (disk_of c.fail.new.self) c.in-Some.is out c.in_default-fault.not-Lost c.end_action.ensures fails)
