use Rattle.kept_files.proofs.AtDesk.{cut_is_kept}
use Rattle.kept_files.proofs.desk.a_cut_at_a_desk_is_kept.Goals as goal

pub returns : goal.returns
returns c = cut_is_kept
