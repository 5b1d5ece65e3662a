use Rattle.std.proofs.Common.{refl}
use Rattle.ecat_frame.specs.Retained.{pdus}
use Rattle.ecat_frame.proofs.Spelled.{kept_empty}
use Rattle.ecat_frame.proofs.frame.Frame.clear.Goals as goal

pub invariant_of-self : goal.invariant_of-self
invariant_of-self c = kept_empty _ (rw (c.put.ensures, c.clear.ensures) refl)

pub returns : goal.returns
unfolding pdus
returns c = refl
