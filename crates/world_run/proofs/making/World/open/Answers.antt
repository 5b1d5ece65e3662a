use Rattle.std.proofs.Common.{subst}
use Rattle.std.specs.List.{AllByRecursion}
use Rattle.esc_model.specs.WordAccess.{IsIdle}
use Rattle.world_law.specs.World.{World}
use Rattle.world_run.proofs.OpenLaws.{lost-open}
use Rattle.world_run.proofs.making.World.open.Goals as goal

pub returns-in_default : goal.returns-in_default
returns-in_default c = lost-open c.args.self.now (let found = c.in_ok-journal.ensures in rw c.in_default.is at found)

pub come_up-requires-clause-idle : goal.come_up-requires-clause-idle
come_up-requires-clause-idle c = subst (λ (w : World). AllByRecursion IsIdle w.state.halves) c.self.view_is (c.are_idle.ensures.0 c.if-not-are_idle.false)
