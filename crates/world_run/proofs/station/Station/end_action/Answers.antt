use Rattle.std.proofs.Common.{sym, subst}
use Rattle.book_model.specs.Book.{Book}
use Rattle.world_run.specs.Progress.{KnowsProgress}
use Rattle.std.proofs.Common.{None}
use Rattle.world_run.proofs.ProgressLaws.{knows-done}
use Rattle.world_run.proofs.station.Station.end_action.Goals as goal

pub invariant_of-self : goal.invariant_of-self
invariant_of-self c =
    subst (λ (b : Book). KnowsProgress None c.self.inside.asked.items b) (sym c.disk_done.ensures)
    (knows-done c.self.inside.action c.self.inside.asked.items c.self.inside.core c.args.outcome c.self.invariant c.requires)
