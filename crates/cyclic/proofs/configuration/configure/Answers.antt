use Rattle.std.proofs.Common.{◌≡◌, ◌+◌, ◌≤◌, ◌++◌, List, length, refl, sym, ap, ◌∙◌, arith}
use Rattle.ecat_frame.specs.Frame.{Pdu}
use Rattle.cyclic.specs.Configuration.{slave_orders, configuring}
use Rattle.cyclic.proofs.Sending.{handed_on, sends_none, sends_then, sends_cut, sends_same}
use Rattle.cyclic.proofs.Listing.{configuring-more, configuring-rest}
use Rattle.cyclic.proofs.configuration.configure.Goals as goal

pub returns-in_err-configure_slave-clause-sends : goal.returns-in_err-configure_slave-clause-sends
returns-in_err-configure_slave-clause-sends g c =
    let segments = c.args.plan.now.image.segments in
    let n = c.loop-slave.slave in
    let count = length (g.S.Site.line c.args.site.now).sizes in
    let few : n + 1 ≤ count = omega (arith, c.slaves-slave-end.ensures.slaves, c.loop-slave-test.true) in
    let done : List Pdu = configuring n segments in
    let next : List Pdu = slave_orders segments n in
    let rest = configuring-rest segments (n + 1) count few in
    let split : configuring count segments ≡ (done ++ next) ++ rest.0 = rest.1 ∙ ap (λ (p : List Pdu). p ++ rest.0) (configuring-more segments n) in
    sends_cut (done ++ next) rest.0 _ split (g.S.Site.seen c.args.site.now) (g.S.Site.seen c.configure_slave.new.site) c.in_err-configure_slave.field-0.0 c.from_residual.result
    (handed_on c.from_residual.result c.in_err-configure_slave.field-0.0 c.from_residual.ensures.1)
    (sends_then done next (g.S.Site.seen c.args.site.now) (g.S.Site.seen c.loop-slave.site) (g.S.Site.seen c.configure_slave.new.site) _
    c.loop-slave.invariant.sends (rw c.segments.ensures at c.in_err-configure_slave.ensures.sends))

pub loop-slave-preserved : goal.loop-slave-preserved
loop-slave-preserved g c =
    let segments = c.args.plan.now.image.segments in
    let n = c.loop-slave.slave in
    let done : List Pdu = configuring n segments in
    let next : List Pdu = slave_orders segments n in
    record {
      sends = sends_same (done ++ next) (configuring (n + 1) segments) (sym (configuring-more segments n)) (g.S.Site.seen c.args.site.now) (g.S.Site.seen c.configure_slave.new.site) _
          (sends_then done next (g.S.Site.seen c.args.site.now) (g.S.Site.seen c.loop-slave.site) (g.S.Site.seen c.configure_slave.new.site) _
          c.loop-slave.invariant.sends (rw c.segments.ensures at c.in_ok-configure_slave.ensures.sends));
      line = c.in_ok-configure_slave.ensures.line ∙ c.loop-slave.invariant.line;
    }

pub loop-slave-init : goal.loop-slave-init
loop-slave-init g c = record { sends = sends_none (g.S.Site.seen c.args.site.now); line = refl }
