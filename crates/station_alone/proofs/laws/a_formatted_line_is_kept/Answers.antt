use Rattle.station_alone.proofs.FormattedLaws.{formatted-kept}
use Rattle.station_alone.proofs.laws.a_formatted_line_is_kept.Goals as goal

pub returns : goal.returns
returns c = formatted-kept
