use Rattle.std.proofs.Common.{◌≡◌, ◌≤◌, length, take}
use Rattle.std.specs.Prelude.{◌==◌}
use Rattle.std.specs.List.{filter}
use Rattle.jrn_format.specs.declared.journal.Batch.{Batch}
use Rattle.book_core.proofs.taking.older_count.Given as goal

abbrev pub invariant-loop-batch : goal.invariant-loop-batch
invariant-loop-batch l = record {
  counted : l.count ≡ length (filter (λ (b : Batch). b.half == l.half) (take l.batch-index l.batches));
  few : l.count ≤ l.batch-index;
}
