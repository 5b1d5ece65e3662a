use Rattle.jrn_format.proofs.MigrationLaws.{version_exchanged}
use Rattle.jrn_format.proofs.migration.version_byte_changes.Goals as goal

pub returns : goal.returns
returns c = version_exchanged
