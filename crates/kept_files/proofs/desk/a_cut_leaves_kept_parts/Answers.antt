use Rattle.kept_files.proofs.AtDeskOnFiles.{cut_leaves_kept_parts}
use Rattle.kept_files.proofs.desk.a_cut_leaves_kept_parts.Goals as goal

pub returns : goal.returns
returns g c = cut_leaves_kept_parts _ _
