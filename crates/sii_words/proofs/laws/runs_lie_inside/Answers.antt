use Rattle.sii_words.proofs.RunLaws.{LiesInside-runs_between}
use Rattle.sii_words.proofs.laws.runs_lie_inside.Goals as goal

pub returns : goal.returns
returns c = LiesInside-runs_between
