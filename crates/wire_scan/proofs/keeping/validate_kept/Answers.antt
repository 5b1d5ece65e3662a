use Rattle.book_model.specs.Entries.{live_runs}
use Rattle.wire_scan.proofs.KeptWords.{all_kept}
use Rattle.wire_scan.proofs.keeping.validate_kept.Goals as goal

pub returns-clause-kept : goal.returns-clause-kept
returns-clause-kept c = all_kept c.args.mends.now (live_runs c.args.batches.now) c.args.slaves.now c.args.images.now c.in_ok-require_alike.ensures.passed
