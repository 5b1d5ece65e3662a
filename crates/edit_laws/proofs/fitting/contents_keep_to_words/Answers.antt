use Rattle.sii_edit.proofs.PlantLaws.{fit-contents}
use Rattle.edit_laws.proofs.fitting.contents_keep_to_words.Goals as goal

pub returns : goal.returns
returns c = fit-contents
