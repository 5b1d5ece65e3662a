use Rattle.std.proofs.Common.{take}
use Rattle.book_parts.proofs.StepLaws.{RunsLive}
use Rattle.book_parts.proofs.naming.name_entry.Given as goal

abbrev pub invariant-loop-run : goal.invariant-loop-run
invariant-loop-run l = RunsLive l.initial.works l.works (take l.run-index l.entry.runs) l.entry.number
