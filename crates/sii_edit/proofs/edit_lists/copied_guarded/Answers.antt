use Rattle.std.proofs.Common.{arith, ◌∙◌}
use Rattle.std.proofs.lemmas.List.{take_all}
use Rattle.sii_words.proofs.Copying.{copied_more}
use Rattle.sii_edit.proofs.edit_lists.copied_guarded.Goals as goal

pub loop-edit-preserved : goal.loop-edit-preserved
loop-edit-preserved c =
    copied_more c.loop-edit.copies.items c.push_guarded.new.copies.items c.args.edits.now c.loop-edit.edit-index c.edit-item.result c.edit-item.result (omega arith) c.edit-item.is c.loop-edit.invariant c.in_ok-push_guarded.ensures

pub returns : goal.returns
returns c = c.from_vec.ensures ∙ c.loop-edit.invariant ∙ take_all c.loop-edit.edit-index c.args.edits.now (omega (arith, c.loop-edit-test.false))
