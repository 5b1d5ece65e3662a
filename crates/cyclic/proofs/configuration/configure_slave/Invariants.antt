use Rattle.std.proofs.Common.{◌≡◌, take, Ok}
use Rattle.cyclic.specs.Configuration.{slave_orders}
use Rattle.cyclic.specs.Sending.{SendsInOrder}
use Rattle.cyclic.proofs.Listing.{units_of}
use Rattle.cyclic.proofs.configuration.configure_slave.Given as goal

abbrev pub invariant-loop-segment : goal.invariant-loop-segment
invariant-loop-segment g l = record {
  unit : l.unit ≡ units_of l.slave (take l.segment-index l.segments);
  sends : SendsInOrder (slave_orders (take l.segment-index l.segments) l.slave) (g.S.Site.seen l.fn.site) (Ok tt) (g.S.Site.seen l.site);
  line : g.S.Site.line l.site ≡ g.S.Site.line l.fn.site;
}
