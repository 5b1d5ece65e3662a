use Rattle.std.proofs.Common.{slice_index}
use Rattle.line_changes.specs.Changes.{change_at}
use Rattle.line_changes.proofs.Ranges.{next_of}
use Rattle.line_changes.proofs.changes.note_slave.Goals as goal

pub loop-at-preserved : goal.loop-at-preserved
loop-at-preserved c =
    next_of (λ at. change_at c.args.slave at (slice_index c.args.old.now at) (slice_index c.args.new.now at)) c.args.changes.now.items c.loop-at.changes.items c.note_word.new.changes.items c.loop-at.at c.loop-at.invariant c.in_ok-note_word.ensures
