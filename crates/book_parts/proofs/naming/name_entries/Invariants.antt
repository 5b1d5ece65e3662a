use Rattle.std.proofs.Common.{take}
use Rattle.book_parts.proofs.StepLaws.{EntriesLive}
use Rattle.book_parts.proofs.naming.name_entries.Given as goal

abbrev pub invariant-loop-entry : goal.invariant-loop-entry
invariant-loop-entry l = EntriesLive l.initial.works l.works (take l.entry-index l.entries)
