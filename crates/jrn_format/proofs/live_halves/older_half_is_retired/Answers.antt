use Rattle.jrn_format.proofs.HalvesLaws.{retired-live}
use Rattle.jrn_format.proofs.live_halves.older_half_is_retired.Goals as goal

pub returns : goal.returns
returns c = retired-live
