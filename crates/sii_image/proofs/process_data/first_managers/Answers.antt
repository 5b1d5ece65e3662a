use Rattle.std.proofs.Common.{ap, sym, ◌∙◌}
use Rattle.sii_image.specs.ProcessData.{managers_in}
use Rattle.sii_image.proofs.Contents.{passed}
use Rattle.sii_image.proofs.process_data.first_managers.Goals as goal

pub loop-category-preserved : goal.loop-category-preserved
loop-category-preserved c =
    sym (ap managers_in (passed c.args.words.now 41 c.args.categories.now c.loop-category.category-index _ c.loop-category-test.true c.if-category-eq-SYNC_MANAGERS.false))
    ∙ c.loop-category.invariant
