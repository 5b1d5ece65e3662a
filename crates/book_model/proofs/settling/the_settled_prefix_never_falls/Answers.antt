use Rattle.book_model.proofs.SettlingLaws.{prefix-stays}
use Rattle.book_model.proofs.settling.the_settled_prefix_never_falls.Goals as goal

pub returns : goal.returns
returns c = prefix-stays
