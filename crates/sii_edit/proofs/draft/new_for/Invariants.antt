use Rattle.std.proofs.Common.{◌≡◌, drop}
use Rattle.sii_edit.specs.Draft.{new_for}
use Rattle.sii_edit.proofs.draft.new_for.Given as goal

abbrev pub invariant-loop-renewal : goal.invariant-loop-renewal
invariant-loop-renewal l = new_for (drop l.renewal-index l.renewals) l.slave ≡ new_for l.renewals l.slave
