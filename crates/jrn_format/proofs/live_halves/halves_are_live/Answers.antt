use Rattle.jrn_format.proofs.HalvesLaws.{stand-live}
use Rattle.jrn_format.proofs.live_halves.halves_are_live.Goals as goal

pub returns : goal.returns
returns c = stand-live
