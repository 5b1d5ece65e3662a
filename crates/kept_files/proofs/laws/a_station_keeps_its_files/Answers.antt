use Rattle.kept_files.proofs.OnFiles.{site_keeps_serving}
use Rattle.kept_files.proofs.laws.a_station_keeps_its_files.Goals as goal

pub returns : goal.returns
returns g c = site_keeps_serving _
