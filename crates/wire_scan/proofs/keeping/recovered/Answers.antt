use Rattle.std.proofs.Common.{ℕ, List, length, ap, ◌∙◌}
use Rattle.sii_words.specs.Redo.{redone}
use Rattle.sii_words.proofs.RedoLaws.{length-redone}
use Rattle.book_model.specs.Entries.{live_runs}
use Rattle.wire_scan.proofs.keeping.recovered.Goals as goal

pub returns-clause-count : goal.returns-clause-count
returns-clause-count c =
    ap length (c.redo_batches.ensures ∙ ap (λ (p : List (List ℕ)). redone p (live_runs c.args.batches.now)) c.of-plant.ensures)
    ∙ length-redone c.args.words.items (live_runs c.args.batches.now)
