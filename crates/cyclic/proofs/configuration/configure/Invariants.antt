use Rattle.std.proofs.Common.{◌≡◌, Ok}
use Rattle.cyclic.specs.Configuration.{configuring}
use Rattle.cyclic.specs.Sending.{SendsInOrder}
use Rattle.cyclic.proofs.configuration.configure.Given as goal

abbrev pub invariant-loop-slave : goal.invariant-loop-slave
invariant-loop-slave g l = record {
  sends : SendsInOrder (configuring l.slave l.plan.image.segments) (g.S.Site.seen l.fn.site) (Ok tt) (g.S.Site.seen l.site);
  line : g.S.Site.line l.site ≡ g.S.Site.line l.fn.site;
}
