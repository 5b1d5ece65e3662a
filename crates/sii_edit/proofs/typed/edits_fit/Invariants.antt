use Rattle.std.proofs.Common.{All, take}
use Rattle.sii_edit.specs.Fitting.{EditFits}
use Rattle.sii_edit.proofs.typed.edits_fit.Given as goal

abbrev pub invariant-loop-edit : goal.invariant-loop-edit
invariant-loop-edit l = All EditFits (take l.edit-index l.edits)
