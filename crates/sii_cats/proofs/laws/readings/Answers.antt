use Rattle.sii_cats.proofs.Unique.{readings_agree}
use Rattle.sii_cats.proofs.laws.readings.Goals as goal

pub returns : goal.returns
returns c = readings_agree
