use Rattle.ecat_frame.proofs.OneReading.{one_frame, one_fault, no_frame}
use Rattle.ecat_frame.proofs.laws.one_reading.Goals as goal

pub returns : goal.returns
returns c = record { list = one_frame; place = one_fault; never_both = no_frame }
