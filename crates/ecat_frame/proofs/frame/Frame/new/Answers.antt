use Rattle.std.proofs.Common.{refl}
use Rattle.ecat_frame.specs.Retained.{pdus}
use Rattle.ecat_frame.proofs.Spelled.{kept_empty}
use Rattle.ecat_frame.proofs.frame.Frame.new.Goals as goal

pub invariant_of-result : goal.invariant_of-result
invariant_of-result c = kept_empty _ (rw (c.put.ensures, c.new-bytes.ensures) refl)

pub returns : goal.returns
unfolding pdus
returns c = refl
