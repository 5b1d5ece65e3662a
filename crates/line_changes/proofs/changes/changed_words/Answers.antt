use Rattle.std.proofs.Common.{◌∙◌}
use Rattle.line_changes.proofs.Ranges.{next_slave}
use Rattle.line_changes.proofs.changes.changed_words.Goals as goal

pub loop-slave-preserved : goal.loop-slave-preserved
loop-slave-preserved c =
    next_slave c.args.old.now c.args.new.now c.loop-slave.slave c.as_slice-before.result.now c.as_slice-after.result.now c.loop-slave.changes.items c.note_slave.new.changes.items
    (c.as_slice-before.ensures.words ∙ c.slave.ensures) (c.as_slice-after.ensures.words ∙ c.slave-in-loop-slave.ensures) c.loop-slave.invariant c.in_ok-note_slave.ensures
