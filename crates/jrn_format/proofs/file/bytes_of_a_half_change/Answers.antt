use Rattle.jrn_format.proofs.FileLaws.{changed_file}
use Rattle.jrn_format.proofs.file.bytes_of_a_half_change.Goals as goal

pub returns : goal.returns
returns c = changed_file
