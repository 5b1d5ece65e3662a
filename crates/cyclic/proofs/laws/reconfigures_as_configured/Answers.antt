use Rattle.cyclic.proofs.Reconfiguring.{reconfigured_is}
use Rattle.cyclic.proofs.laws.reconfigures_as_configured.Goals as goal

pub returns : goal.returns
returns c = reconfigured_is
