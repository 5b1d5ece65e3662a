use Rattle.std.proofs.Common.{◌≡◌, ◌++◌, slice_index}
use Rattle.std.specs.List.{flat_map, range_with_len}
use Rattle.line_changes.specs.Changes.{change_at}
use Rattle.line_changes.proofs.changes.note_slave.Given as goal

abbrev pub invariant-loop-at : goal.invariant-loop-at
invariant-loop-at l = l.changes.items ≡ l.fn.changes.items ++ flat_map (λ at. change_at l.slave at (slice_index l.old at) (slice_index l.new at)) (range_with_len 0 l.at)
