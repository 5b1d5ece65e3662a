use Rattle.std.proofs.Common.{subst, All}
use Rattle.std.proofs.lemmas.List.{take_all}
use Rattle.std.proofs.lemmas.List.Elements.{All-more}
use Rattle.sii_edit.specs.declared.command.GuardedEdit.{GuardedEdit}
use Rattle.sii_edit.specs.Fitting.{EditFits}
use Rattle.sii_edit.proofs.typed.guarded_edits_fit.Goals as goal

pub loop-guarded-preserved : goal.loop-guarded-preserved
loop-guarded-preserved c =
    All-more (λ (guarded : GuardedEdit). EditFits guarded.edit) c.args.edits.now c.loop-guarded.guarded-index c.guarded-item.result c.loop-guarded-test.true c.loop-guarded.invariant
    (subst (λ (guarded : GuardedEdit). EditFits guarded.edit) c.guarded-item.is c.edit_fits.ensures)

pub returns : goal.returns
returns c =
    subst (All (λ (guarded : GuardedEdit). EditFits guarded.edit)) (take_all c.loop-guarded.guarded-index c.args.edits.now c.loop-guarded-test.false) c.loop-guarded.invariant
