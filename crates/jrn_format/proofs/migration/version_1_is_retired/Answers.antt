use Rattle.jrn_format.proofs.MigrationLaws.{plain_retired}
use Rattle.jrn_format.proofs.migration.version_1_is_retired.Goals as goal

pub returns : goal.returns
returns c = plain_retired
