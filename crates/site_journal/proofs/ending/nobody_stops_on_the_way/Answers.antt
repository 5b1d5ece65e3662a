use Rattle.site_journal.proofs.DiskLaws.{disk-goes}
use Rattle.site_journal.proofs.EndLaws.{slave-goes}
use Rattle.site_journal.proofs.ending.nobody_stops_on_the_way.Goals as goal

pub returns : goal.returns
returns c = record { disk = disk-goes; slave = slave-goes }
