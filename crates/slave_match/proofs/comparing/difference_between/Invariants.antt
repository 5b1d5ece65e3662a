use Rattle.std.proofs.Common.{◌≡◌, ◌-◌, ◌≤◌}
use Rattle.std.specs.Prelude.{IfSome}
use Rattle.slave_match.specs.Difference.{difference_from}
use Rattle.slave_match.proofs.comparing.difference_between.Given as goal

abbrev pub invariant-loop-after : goal.invariant-loop-after
invariant-loop-after l = record {
  found : l.found ≡ difference_from l.after (l.most - l.after) l.words l.kept;
  count : IfSome l.found (λ d. d.count ≤ l.after);
}
