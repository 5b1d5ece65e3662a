use Rattle.std.proofs.Common.{◌≡◌, ◌++◌, Ok}
use Rattle.std.specs.Vec.Iter.{into_iter_items}
use Rattle.station_files.specs.declared.faults.Fault.{Fault}
use Rattle.station_line.specs.Rounds.{SubmitsSo}
use Rattle.station_line.proofs.commands.submit_all.Given as goal

abbrev pub invariant-loop-command : goal.invariant-loop-command
invariant-loop-command g l = (l.yielded ++ into_iter_items l.command-iterator ≡ into_iter_items l.initial.command-iterator) × SubmitsSo {E = Fault} l.yielded (Ok tt) l.fn.answered l.answered l.fn.alone l.alone
