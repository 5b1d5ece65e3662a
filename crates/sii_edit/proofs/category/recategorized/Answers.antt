use Rattle.std.proofs.Common.{ap, sym, ◌∙◌}
use Rattle.sii_cats.specs.steps.Chain.{members_of}
use Rattle.sii_edit.proofs.CategoryLaws.{answered, content_unread}
use Rattle.sii_edit.proofs.category.recategorized.Goals as goal

pub returns-in_err-validate_content-in-Err-RunsOut : goal.returns-in_err-validate_content-in-Err-RunsOut
returns-in_err-validate_content-in-Err-RunsOut c =
    let unread = rw c.in-Err-RunsOut.field-0-is at c.in-Err-RunsOut.ensures.exact in
    let cause = c.in_err-validate_content-in-Err-RunsOut.field-0.0 in
    answered _ c.from_residual.result cause c.from_residual.ensures.1
    (content_unread c.args.expect c.args.words c.args.kind c.args.content.now _ cause (ap members_of (sym c.as_slice.ensures.words) ∙ unread.0) (sym c.if-is_other.ensures) c.in_err-validate_content-in-Err-RunsOut.ensures)
