use Rattle.kept_files.proofs.OnFiles.{cut_leaves_kept}
use Rattle.kept_files.proofs.laws.a_cut_leaves_kept_files.Goals as goal

pub returns : goal.returns
returns c = cut_leaves_kept
