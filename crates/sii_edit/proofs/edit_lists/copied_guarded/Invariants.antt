use Rattle.std.proofs.Common.{◌≡◌, take}
use Rattle.sii_edit.proofs.edit_lists.copied_guarded.Given as goal

abbrev pub invariant-loop-edit : goal.invariant-loop-edit
invariant-loop-edit l = l.copies.items ≡ take l.edit-index l.edits
