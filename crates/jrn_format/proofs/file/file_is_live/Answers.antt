use Rattle.jrn_format.proofs.FileLaws.{stand_in_file-live}
use Rattle.jrn_format.proofs.file.file_is_live.Goals as goal

pub returns : goal.returns
returns c = stand_in_file-live
