use Rattle.std.proofs.Common.{refl}
use Rattle.ecat_frame.specs.Frame.{spelling}
use Rattle.ecat_frame.proofs.Spelled.{spelling-IsFrame}
use Rattle.ecat_frame.proofs.laws.spelling_is_read.Goals as goal

pub returns : goal.returns
returns c = λ ds fits short. spelling-IsFrame (spelling ds) ds refl fits short
