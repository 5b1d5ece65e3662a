use Rattle.jrn_format.proofs.FileLaws.{next-stands}
use Rattle.jrn_format.proofs.file.batch_goes_live_in_a_file.Goals as goal

pub returns : goal.returns
returns c = next-stands
