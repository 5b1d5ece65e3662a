use Rattle.jrn_format.proofs.HalvesLaws.{goes-live}
use Rattle.jrn_format.proofs.live_halves.batch_goes_live.Goals as goal

pub returns : goal.returns
returns c = goes-live
