use Rattle.jrn_format.proofs.FileLaws.{retired-stands}
use Rattle.jrn_format.proofs.file.older_half_is_retired_in_a_file.Goals as goal

pub returns : goal.returns
returns c = retired-stands
