use Rattle.line_changes.proofs.Pairs.{reported}
use Rattle.line_changes.proofs.diff.print_difference.Goals as goal

pub returns-clause-status : goal.returns-clause-status
returns-clause-status g c =
    reported c.args.first.now c.args.second.now c.in_ok-difference.difference c.status.result c.in_ok-difference.ensures.same c.status.ensures
