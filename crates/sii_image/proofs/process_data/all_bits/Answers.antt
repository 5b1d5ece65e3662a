use Rattle.sii_image.proofs.Contents.{sums_more, sums_pass, sums_start}
use Rattle.sii_image.proofs.process_data.all_bits.Goals.{then-category-kind+in_ok-add_pdos, else-category-kind}
use Rattle.sii_image.proofs.process_data.all_bits.Goals as goal

pub loop-category-init : goal.loop-category-init
loop-category-init c = sums_start c.args.words.now c.args.kind c.args.categories.now c.requires.few

pub loop-category-preserved : goal.loop-category-preserved
loop-category-preserved c =
    let words = c.args.words.now in
    let categories = c.args.categories.now in
    elim c.if-category-kind.branch [
      | then-category-kind+in_ok-add_pdos w ↦
          rw w.sums-is (sums_more words c.args.kind categories c.loop-category.sums w.add_pdos.new.sums c.loop-category.category-index _ c.loop-category-test.true c.loop-category.invariant
          w.if-category-kind.true (rw w.content.ensures at w.in_ok-add_pdos.ensures.exact) (rw w.content.ensures at w.in_ok-add_pdos.ensures.most))
      | else-category-kind w ↦
          rw w.sums-is (sums_pass words c.args.kind categories c.loop-category.sums c.loop-category.category-index _ c.loop-category-test.true c.loop-category.invariant w.if-category-kind.false)
    ]
