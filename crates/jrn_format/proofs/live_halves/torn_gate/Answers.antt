use Rattle.jrn_format.proofs.HalvesLaws.{next_live}
use Rattle.jrn_format.proofs.live_halves.torn_gate.Goals as goal

pub returns : goal.returns
returns c = next_live
