use Rattle.std.proofs.Common.{◌≡◌, ◌+◌, drop}
use Rattle.sii_edit.specs.steps.Draft.{place_of}
use Rattle.sii_edit.proofs.draft.place_of.Given as goal

abbrev pub invariant-loop-place : goal.invariant-loop-place
invariant-loop-place l = place_of l.renewals l.slave ≡ l.place + place_of (drop l.place l.renewals) l.slave
