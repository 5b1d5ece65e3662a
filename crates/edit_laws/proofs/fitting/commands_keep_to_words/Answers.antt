use Rattle.sii_edit.proofs.PlantLaws.{fit-outcome}
use Rattle.edit_laws.proofs.fitting.commands_keep_to_words.Goals as goal

pub returns : goal.returns
returns c = fit-outcome
