use Rattle.sii_words.proofs.RedoLaws.{redone-append}
use Rattle.sii_words.proofs.laws.redo_of_appended.Goals as goal

pub returns : goal.returns
returns c = redone-append
