use Rattle.std.proofs.Common.{◌≡◌, ◌+◌}
use Rattle.std.specs.List.{flat_map, range_with_len}
use Rattle.sii_edit.specs.Fold.{contents_after}
use Rattle.line_changes.specs.Size.{resizes_between}
use Rattle.line_changes.proofs.commands.resizes.Given as goal

abbrev pub invariant-loop-command : goal.invariant-loop-command
invariant-loop-command l = record {
  plant : l.plant ≡ contents_after l.base l.commands l.command;
  found : l.found.items ≡ flat_map (λ command. resizes_between command (contents_after l.base l.commands command) (contents_after l.base l.commands (command + 1))) (range_with_len 0 l.command);
}
