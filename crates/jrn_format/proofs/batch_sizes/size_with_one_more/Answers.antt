use Rattle.jrn_format.proofs.SizeLaws.{payload_one_more}
use Rattle.jrn_format.proofs.batch_sizes.size_with_one_more.Goals as goal

pub returns : goal.returns
returns c = payload_one_more
