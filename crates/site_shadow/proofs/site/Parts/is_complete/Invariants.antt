use Rattle.site_shadow.specs.Site.{SizesFit}
use Rattle.site_shadow.proofs.site.Parts.is_complete.Given as goal

abbrev pub invariant-loop-slave : goal.invariant-loop-slave
invariant-loop-slave l = SizesFit l.self.halves.items l.self.sizes.items l.slave
