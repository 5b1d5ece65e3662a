use Rattle.desk_laws.proofs.SlaveLaws.{slave-reads}
use Rattle.desk_laws.proofs.laws.served_slaves_read_as_the_contents.Goals as goal

pub returns : goal.returns
returns c = slave-reads
