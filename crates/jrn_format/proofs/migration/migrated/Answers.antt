use Rattle.jrn_format.proofs.MigrationLaws.{after_version}
use Rattle.jrn_format.proofs.migration.migrated.Goals as goal

pub returns : goal.returns
returns c = after_version
