use Rattle.std.proofs.Common.{◌≡◌, ◌++◌, take}
use Rattle.sii_words.specs.Redo.{redone}
use Rattle.book_model.specs.Entries.{entries_of, live_runs}
use Rattle.book_core.proofs.taking.note_batches.Given as goal

abbrev pub invariant-loop-batch : goal.invariant-loop-batch
invariant-loop-batch l = record {
  noted : l.found ≡ l.initial.found ++ entries_of (take l.batch-index l.batches);
  redone_so_far : l.contents ≡ redone l.initial.contents (live_runs (take l.batch-index l.batches));
}
