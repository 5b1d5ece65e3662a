use Rattle.line_changes.proofs.Differences.{differences_named, nothing_differs}
use Rattle.line_changes.proofs.difference.compare.Goals as goal

pub returns-clause-same : goal.returns-clause-same
returns-clause-same c = nothing_differs c.args.old.now c.args.new.now c.in_ok-difference.difference c.in_ok-difference.ensures

pub returns-clause-named : goal.returns-clause-named
returns-clause-named c = differences_named c.args.old.now c.args.new.now c.in_ok-difference.difference c.in_ok-difference.ensures
