use Rattle.kept_files.proofs.InJobs.{image_is_cut}
use Rattle.kept_files.proofs.desk.a_cut_of_the_slave_images.Goals as goal

pub returns : goal.returns
returns g c = image_is_cut _
