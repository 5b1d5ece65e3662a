use Rattle.sii_words.proofs.RedoLaws.{SameShape-redone}
use Rattle.sii_words.proofs.laws.redo_keeps_the_shape.Goals as goal

pub returns : goal.returns
returns c = SameShape-redone
