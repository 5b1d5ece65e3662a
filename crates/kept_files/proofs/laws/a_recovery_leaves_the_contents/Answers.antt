use Rattle.kept_files.proofs.OnFiles.{recovery_leaves_contents}
use Rattle.kept_files.proofs.laws.a_recovery_leaves_the_contents.Goals as goal

pub returns : goal.returns
returns c = recovery_leaves_contents
