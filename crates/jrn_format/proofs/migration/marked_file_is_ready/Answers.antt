use Rattle.jrn_format.proofs.MigrationLaws.{marked_ready}
use Rattle.jrn_format.proofs.migration.marked_file_is_ready.Goals as goal

pub returns : goal.returns
returns c = marked_ready
