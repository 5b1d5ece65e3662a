use Rattle.std.proofs.Common.{◌≡◌, take}
use Rattle.sii_words.specs.Redo.{redone}
use Rattle.book_model.specs.Entries.{live_runs}
use Rattle.slave_match.proofs.redoing.redo_batches.Given as goal

abbrev pub invariant-loop-batch : goal.invariant-loop-batch
invariant-loop-batch l = l.contents ≡ redone l.initial.contents (live_runs (take l.batch-index l.batches))
