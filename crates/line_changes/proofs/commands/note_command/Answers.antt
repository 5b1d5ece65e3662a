use Rattle.std.proofs.Common.{List, ℕ, ◌++◌, ap, ◌∙◌}
use Rattle.sii_words.specs.Plant.{words_of}
use Rattle.line_changes.specs.Size.{resize_of}
use Rattle.line_changes.proofs.Ranges.{next_of}
use Rattle.line_changes.proofs.commands.note_command.Goals as goal

pub loop-slave-preserved : goal.loop-slave-preserved
loop-slave-preserved c =
    let slave = c.loop-slave.slave in
    let now = c.loop-slave.found.items in
    next_of (λ s. resize_of c.args.command s (words_of c.args.old.now s) (words_of c.args.new.now s)) c.args.found.now.items now c.note_slave.new.found.items slave c.loop-slave.invariant
    (c.in_ok-note_slave.ensures ∙ ap (λ (words : List ℕ). now ++ resize_of c.args.command slave words c.slave-in-loop-slave.result.now) c.slave.ensures
    ∙ ap (λ (words : List ℕ). now ++ resize_of c.args.command slave (words_of c.args.old.now slave) words) c.slave-in-loop-slave.ensures)
