use Rattle.jrn_format.proofs.MigrationLaws.{after_the_gate}
use Rattle.jrn_format.proofs.migration.bytes_after_the_gate_change.Goals as goal

pub returns : goal.returns
returns c = after_the_gate
