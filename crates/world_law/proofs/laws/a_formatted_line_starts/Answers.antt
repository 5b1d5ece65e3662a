use Rattle.world_law.proofs.FormatLaws.{formatted-starts}
use Rattle.world_law.proofs.laws.a_formatted_line_starts.Goals as goal

pub returns : goal.returns
returns c = formatted-starts
