use Rattle.sii_words.proofs.RedoLaws.{redone-same}
use Rattle.sii_words.proofs.laws.redo_of_same_values.Goals as goal

pub returns : goal.returns
returns c = redone-same
