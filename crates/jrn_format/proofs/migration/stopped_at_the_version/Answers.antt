use Rattle.jrn_format.proofs.MigrationLaws.{any_version}
use Rattle.jrn_format.proofs.migration.stopped_at_the_version.Goals as goal

pub returns : goal.returns
returns c = any_version
