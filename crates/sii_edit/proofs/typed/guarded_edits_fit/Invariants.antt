use Rattle.std.proofs.Common.{All, take}
use Rattle.sii_edit.specs.declared.command.GuardedEdit.{GuardedEdit}
use Rattle.sii_edit.specs.Fitting.{EditFits}
use Rattle.sii_edit.proofs.typed.guarded_edits_fit.Given as goal

abbrev pub invariant-loop-guarded : goal.invariant-loop-guarded
invariant-loop-guarded l = All (λ (guarded : GuardedEdit). EditFits guarded.edit) (take l.guarded-index l.edits)
