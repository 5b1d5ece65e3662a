use Rattle.desk_laws.proofs.LostLaws.{lost-changes-nothing, none-is-lost}
use Rattle.desk_laws.proofs.laws.a_lost_disk_changes_nothing.Goals as goal

pub returns : goal.returns
returns c = record { same = lost-changes-nothing; never = none-is-lost }
