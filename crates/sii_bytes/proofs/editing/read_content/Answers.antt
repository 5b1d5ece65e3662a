use Rattle.std.proofs.Common.{◌∙◌}
use Rattle.sii_bytes.proofs.BytesLaws.{spelt_by}
use Rattle.sii_bytes.proofs.editing.read_content.Goals as goal

pub returns-in-Ok-clause-ok : goal.returns-in-Ok-clause-ok
returns-in-Ok-clause-ok c = c.from_vec.ensures ∙ spelt_by c.in-Ok.words.items c.args.content.now c.in-Ok.ensures.words
