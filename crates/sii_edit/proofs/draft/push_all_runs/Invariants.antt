use Rattle.std.proofs.Common.{◌≡◌, ◌++◌, drop}
use Rattle.sii_edit.specs.steps.Draft.{drafted_runs}
use Rattle.sii_edit.proofs.draft.push_all_runs.Given as goal

-- the runs so far and those of the slaves that are left
abbrev pub invariant-loop-renewal : goal.invariant-loop-renewal
invariant-loop-renewal l = l.runs.items ++ drafted_runs l.plant (drop l.renewal-index l.renewals) ≡ l.fn.runs.items ++ drafted_runs l.plant l.renewals
