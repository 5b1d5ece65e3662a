use Rattle.sii_words.proofs.RedoLaws.{redone-elsewhere}
use Rattle.sii_words.proofs.laws.redo_over_anything.Goals as goal

pub returns : goal.returns
returns c = redone-elsewhere
