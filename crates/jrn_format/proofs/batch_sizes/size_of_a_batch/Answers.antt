use Rattle.jrn_format.proofs.SizeLaws.{batch_size, plain_size}
use Rattle.jrn_format.proofs.batch_sizes.size_of_a_batch.Goals as goal

pub returns : goal.returns
returns c = record { with_generation = batch_size; plain = plain_size }
