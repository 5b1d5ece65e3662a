use Rattle.sii_words.proofs.RunLaws.{redone-runs_between}
use Rattle.sii_words.proofs.laws.redo_of_runs_between.Goals as goal

pub returns : goal.returns
returns c = redone-runs_between
