use Rattle.jrn_format.proofs.MigrationLaws.{formatted}
use Rattle.jrn_format.proofs.migration.formatted.Goals as goal

pub returns : goal.returns
returns c = formatted
