use Rattle.jrn_format.proofs.SizeLaws.{payload_size}
use Rattle.jrn_format.proofs.batch_sizes.size_of_a_payload.Goals as goal

pub returns : goal.returns
returns c = payload_size
