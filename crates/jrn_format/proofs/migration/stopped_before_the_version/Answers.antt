use Rattle.jrn_format.proofs.MigrationLaws.{before_version}
use Rattle.jrn_format.proofs.migration.stopped_before_the_version.Goals as goal

pub returns : goal.returns
returns c = before_version
