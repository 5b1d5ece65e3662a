use Rattle.std.proofs.Common.{◌∙◌, sym}
use Rattle.jrn_format.proofs.Sizes.{length-entry}
use Rattle.jrn_format.proofs.writing.size_of.Goals as goal

pub returns-clause-spelt : goal.returns-clause-spelt
returns-clause-spelt c = λ number. length-entry number c.args.runs.now ∙ sym c.runs_size.ensures
