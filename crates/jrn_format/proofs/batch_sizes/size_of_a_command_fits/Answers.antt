use Rattle.jrn_format.proofs.SizeLaws.{most_runs_fit}
use Rattle.jrn_format.proofs.batch_sizes.size_of_a_command_fits.Goals as goal

pub returns : goal.returns
returns c = most_runs_fit
