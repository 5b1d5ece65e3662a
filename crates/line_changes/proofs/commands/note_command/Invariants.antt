use Rattle.std.proofs.Common.{◌≡◌, ◌++◌}
use Rattle.std.specs.List.{flat_map, range_with_len}
use Rattle.sii_words.specs.Plant.{words_of}
use Rattle.line_changes.specs.Size.{resize_of}
use Rattle.line_changes.proofs.commands.note_command.Given as goal

abbrev pub invariant-loop-slave : goal.invariant-loop-slave
invariant-loop-slave l = l.found.items ≡ l.fn.found.items ++ flat_map (λ slave. resize_of l.command slave (words_of l.old slave) (words_of l.new slave)) (range_with_len 0 l.slave)
