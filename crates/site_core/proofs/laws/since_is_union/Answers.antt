use Rattle.site_core.proofs.Unions.{since_is_union}
use Rattle.site_core.proofs.laws.since_is_union.Goals as goal

pub returns : goal.returns
returns c = since_is_union
