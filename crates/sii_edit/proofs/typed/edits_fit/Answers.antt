use Rattle.std.proofs.Common.{subst, All}
use Rattle.std.proofs.lemmas.List.{take_all}
use Rattle.std.proofs.lemmas.List.Elements.{All-more}
use Rattle.sii_edit.specs.Fitting.{EditFits}
use Rattle.sii_edit.proofs.typed.edits_fit.Goals as goal

pub loop-edit-preserved : goal.loop-edit-preserved
loop-edit-preserved c = All-more EditFits c.args.edits.now c.loop-edit.edit-index c.edit-item.result c.loop-edit-test.true c.loop-edit.invariant (subst EditFits c.edit-item.is c.edit_fits.ensures)

pub returns : goal.returns
returns c = subst (All EditFits) (take_all c.loop-edit.edit-index c.args.edits.now c.loop-edit-test.false) c.loop-edit.invariant
