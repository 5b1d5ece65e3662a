use Rattle.book_model.proofs.LineLaws.{up-kept}
use Rattle.book_model.proofs.up.each_pair_is_kept.Goals as goal

pub returns : goal.returns
returns c = up-kept
