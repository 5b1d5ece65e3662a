use Rattle.std.proofs.Common.{arith}
use Rattle.sii_bytes.proofs.EditRefusals.{category_refused}
use Rattle.sii_bytes.proofs.editing.recategorized.Goals as goal

pub returns-clause-err : goal.returns-clause-err
returns-clause-err c =
    category_refused c.args.words c.args.content.now c.in_ok-read_content.field-0 c.args.kind c.in_ok-read_content.ensures.ok (omega arith) c.edited.result c.edited.ensures.err
