use Rattle.sii_cats.proofs.InPlace.{managers_end}
use Rattle.sii_cats.proofs.managers.manager_of.Goals as goal

pub returns-in_default : goal.returns-in_default
returns-in_default c = managers_end c.args.words.now c.in_default.len_below
