use Rattle.jrn_format.proofs.HalvesLaws.{place-retired}
use Rattle.jrn_format.proofs.live_halves.room_stays_after_a_retire.Goals as goal

pub returns : goal.returns
returns c = place-retired
