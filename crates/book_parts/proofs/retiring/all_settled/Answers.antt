use Rattle.std.proofs.Common.{◌∙◌, sym}
use Rattle.book_parts.proofs.SettledLaws.{settled-more, settled-not}
use Rattle.book_parts.proofs.retiring.all_settled.Goals as goal

pub loop-at-preserved : goal.loop-at-preserved
loop-at-preserved c =
    settled-more c.args.works.now c.loop-at.at c.index-works-at.result c.loop-at-test.true c.index-works-at.is c.loop-at.invariant (sym c.can_retire.ensures ∙ c.if-not-can_retire.false)

pub returns-then-not-can_retire : goal.returns-then-not-can_retire
returns-then-not-can_retire c =
    settled-not c.args.works.now c.loop-at.at c.index-works-at.result c.loop-at-test.true c.index-works-at.is (sym c.can_retire.ensures ∙ c.if-not-can_retire.true)
