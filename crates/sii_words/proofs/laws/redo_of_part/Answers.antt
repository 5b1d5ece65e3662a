use Rattle.sii_words.proofs.RedoLaws.{redone-from_part}
use Rattle.sii_words.proofs.laws.redo_of_part.Goals as goal

pub returns : goal.returns
returns c = redone-from_part
