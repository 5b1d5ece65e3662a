use Rattle.kept_files.proofs.OnFiles.{site_has_files}
use Rattle.kept_files.proofs.laws.a_site_has_files.Goals as goal

pub returns : goal.returns
returns g c = site_has_files _
