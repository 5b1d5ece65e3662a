use Rattle.book_model.proofs.SlaveLaws.{slave-freed}
use Rattle.book_model.proofs.slaves.a_slave_is_freed.Goals as goal

pub returns : goal.returns
returns c = slave-freed
