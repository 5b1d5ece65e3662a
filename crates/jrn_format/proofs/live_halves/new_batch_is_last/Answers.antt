use Rattle.jrn_format.proofs.HalvesLaws.{with_batch-live}
use Rattle.jrn_format.proofs.live_halves.new_batch_is_last.Goals as goal

pub returns : goal.returns
returns c = with_batch-live
