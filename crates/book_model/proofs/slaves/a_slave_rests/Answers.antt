use Rattle.book_model.proofs.SlaveLaws.{slave-rests}
use Rattle.book_model.proofs.slaves.a_slave_rests.Goals as goal

pub returns : goal.returns
returns c = slave-rests
