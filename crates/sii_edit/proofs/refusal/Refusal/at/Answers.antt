use Rattle.std.proofs.Common.{sym}
use Rattle.sii_edit.proofs.UnlessLaws.{placed-other}
use Rattle.sii_edit.proofs.refusal.Refusal.at.Goals as goal

pub returns-in_default : goal.returns-in_default
returns-in_default c = sym (placed-other c.args.place c.args.cause c.in_default.not-Memory)
