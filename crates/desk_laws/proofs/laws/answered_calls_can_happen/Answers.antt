use Rattle.desk_laws.proofs.Happening.{can-happen, only-of-its-job}
use Rattle.desk_laws.proofs.laws.answered_calls_can_happen.Goals as goal

pub returns : goal.returns
returns c = λ book call answered. (only-of-its-job book call, can-happen book call answered)
