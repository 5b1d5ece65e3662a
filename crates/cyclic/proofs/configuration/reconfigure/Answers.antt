use Rattle.std.proofs.Common.{◌≡◌, ◌+◌, ◌≤◌, ◌++◌, List, true, false, not, length, refl, sym, ap, ◌∙◌, arith}
use Rattle.ecat_frame.specs.Frame.{Pdu}
use Rattle.cyclic.specs.Configuration.{slave_orders, differs, reconfiguring}
use Rattle.cyclic.proofs.Sending.{handed_on, sends_none, sends_then, sends_cut, sends_same}
use Rattle.cyclic.proofs.Listing.{reconfiguring-more, reconfiguring-same, reconfiguring-rest}
use Rattle.cyclic.proofs.configuration.reconfigure.Goals as goal
use Rattle.cyclic.proofs.configuration.reconfigure.Goals.{then-not-has_same_segments+in_ok-configure_slave, else-not-has_same_segments}

pub loop-slave-init : goal.loop-slave-init
loop-slave-init g c = record { sends = sends_none (g.S.Site.seen c.args.site.now); line = refl }

pub returns-in_err-configure_slave-clause-sends : goal.returns-in_err-configure_slave-clause-sends
returns-in_err-configure_slave-clause-sends g c =
    let old = c.args.old.now.image.segments in
    let new = c.args.new.now.image.segments in
    let n = c.loop-slave.slave in
    let count = length (g.S.Site.line c.args.site.now).sizes in
    let few : n + 1 ≤ count = omega (arith, c.slaves-slave-end.ensures.slaves, c.loop-slave-test.true) in
    let same = rw (c.segments.ensures, c.segments-in-loop-slave.ensures) at c.has_same_segments.ensures in
    let is : differs old new n ≡ true = ap not (sym same) ∙ ap not c.if-not-has_same_segments.true in
    let done : List Pdu = reconfiguring n old new in
    let next : List Pdu = slave_orders new n in
    let rest = reconfiguring-rest old new (n + 1) count few in
    let split : reconfiguring count old new ≡ (done ++ next) ++ rest.0 = rest.1 ∙ ap (λ (p : List Pdu). p ++ rest.0) (reconfiguring-more old new n is) in
    sends_cut (done ++ next) rest.0 _ split (g.S.Site.seen c.args.site.now) (g.S.Site.seen c.configure_slave.new.site) c.in_err-configure_slave.field-0.0 c.from_residual.result
    (handed_on c.from_residual.result c.in_err-configure_slave.field-0.0 c.from_residual.ensures.1)
    (sends_then done next (g.S.Site.seen c.args.site.now) (g.S.Site.seen c.loop-slave.site) (g.S.Site.seen c.configure_slave.new.site) _
    c.loop-slave.invariant.sends (rw c.segments-then-not-has_same_segments.ensures at c.in_err-configure_slave.ensures.sends))

pub loop-slave-preserved : goal.loop-slave-preserved
loop-slave-preserved g c =
    let old = c.args.old.now.image.segments in
    let new = c.args.new.now.image.segments in
    let n = c.loop-slave.slave in
    let same = rw (c.segments.ensures, c.segments-in-loop-slave.ensures) at c.has_same_segments.ensures in
    let done : List Pdu = reconfiguring n old new in
    let next : List Pdu = slave_orders new n in
    elim c.if-not-has_same_segments.branch [
      | then-not-has_same_segments+in_ok-configure_slave w ↦
          let is : differs old new n ≡ true = ap not (sym same) ∙ ap not w.if-not-has_same_segments.true in
          record {
            sends = rw w.site-is (sends_same (done ++ next) (reconfiguring (n + 1) old new) (sym (reconfiguring-more old new n is)) (g.S.Site.seen c.args.site.now) (g.S.Site.seen w.configure_slave.new.site) _
                (sends_then done next (g.S.Site.seen c.args.site.now) (g.S.Site.seen c.loop-slave.site) (g.S.Site.seen w.configure_slave.new.site) _
                c.loop-slave.invariant.sends (rw w.segments-then-not-has_same_segments.ensures at w.in_ok-configure_slave.ensures.sends)));
            line = rw w.site-is (w.in_ok-configure_slave.ensures.line ∙ c.loop-slave.invariant.line);
          }
      | else-not-has_same_segments w ↦
          let is : differs old new n ≡ false = ap not (sym same) ∙ ap not w.if-not-has_same_segments.false in
          record {
            sends = rw w.site-is (sends_same done (reconfiguring (n + 1) old new) (sym (reconfiguring-same old new n is)) (g.S.Site.seen c.args.site.now) (g.S.Site.seen c.loop-slave.site) _ c.loop-slave.invariant.sends);
            line = rw w.site-is c.loop-slave.invariant.line;
          }
    ]
