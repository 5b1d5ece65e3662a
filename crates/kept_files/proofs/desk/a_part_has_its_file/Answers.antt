use Rattle.kept_files.proofs.AtDeskOnFiles.{part_has_its_file}
use Rattle.kept_files.proofs.desk.a_part_has_its_file.Goals as goal

pub returns : goal.returns
returns g c = part_has_its_file _
