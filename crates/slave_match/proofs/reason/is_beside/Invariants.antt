use Rattle.std.proofs.Common.{Any}
use Rattle.jrn_format.specs.declared.journal.Entry.{Entry}
use Rattle.jrn_format.specs.declared.journal.Batch.{Batch}
use Rattle.slave_match.specs.Reason.{NamesPage}
use Rattle.slave_match.proofs.Reasons.{NoneBelow}
use Rattle.slave_match.proofs.reason.is_beside.Given as goal

abbrev pub invariant-loop-run : goal.invariant-loop-run
invariant-loop-run l = NoneBelow (NamesPage l.slave l.at) l.run-items l.run-index

abbrev pub invariant-loop-entry : goal.invariant-loop-entry
invariant-loop-entry l = NoneBelow (λ (entry : Entry). Any (NamesPage l.slave l.at) entry.runs) l.entry-items l.entry-index

abbrev pub invariant-loop-batch : goal.invariant-loop-batch
invariant-loop-batch l = NoneBelow (λ (batch : Batch). Any (λ (entry : Entry). Any (NamesPage l.slave l.at) entry.runs) batch.entries) l.batches l.batch-index
