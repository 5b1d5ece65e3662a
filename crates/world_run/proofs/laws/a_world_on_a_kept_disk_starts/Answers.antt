use Rattle.world_run.proofs.FreshLaws.{kept-starts}
use Rattle.world_run.proofs.laws.a_world_on_a_kept_disk_starts.Goals as goal

pub returns : goal.returns
returns c = kept-starts
