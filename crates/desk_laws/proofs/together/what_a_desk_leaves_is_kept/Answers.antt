use Rattle.desk_laws.proofs.Ending.{desk-kept, desk-leads}
use Rattle.desk_laws.proofs.together.what_a_desk_leaves_is_kept.Goals as goal

pub returns-clause-kept : goal.returns-clause-kept
returns-clause-kept c = desk-kept

pub returns-clause-served : goal.returns-clause-served
returns-clause-served c = desk-leads
