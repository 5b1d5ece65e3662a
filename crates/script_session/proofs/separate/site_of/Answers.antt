use Rattle.std.proofs.Common.{ap}
use Rattle.site_shadow.specs.Site.{SiteValue}
use Rattle.script_session.proofs.PartLaws.{disk-of-parts}
use Rattle.script_session.proofs.separate.site_of.Goals as goal

pub returns-clause-disk : goal.returns-clause-disk
returns-clause-disk g c = disk-of-parts c.of_parts.result c.args.parts c.of_parts.ensures

pub returns-clause-new : goal.returns-clause-new
returns-clause-new g c = ap (λ (s : SiteValue). s.seen.past) c.of_parts.ensures
