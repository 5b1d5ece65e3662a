use Rattle.sii_bytes.proofs.EditRefusals.{image_refused}
use Rattle.sii_bytes.proofs.editing.imaged.Goals as goal

pub returns-clause-err : goal.returns-clause-err
returns-clause-err c = image_refused c.args.words c.args.bytes.now c.in_ok-image.image c.in_ok-image.ensures.1 c.edited.result c.edited.ensures.err
