use Rattle.std.proofs.Common.{◌≡◌, ◌+◌, ◌≤◌, ◌++◌, List, [], ◌∷◌, take, get_or, false, refl, sym, ap, ◌∙◌, arith}
use Rattle.ecat_frame.specs.Frame.{Pdu}
use Rattle.sii_image.specs.declared.process_image.Segment.{Segment}
use Rattle.cyclic.specs.Configuration.{segment_orders, slave_orders}
use Rattle.cyclic.proofs.Sending.{handed_on, sends_then, sends_cut, sends_same}
use Rattle.cyclic.proofs.Listing.{found, units_of, goes_on, goes_further, finds_none_of_another, finds_none_when_full, rest_of_slave}
use Rattle.cyclic.proofs.configuration.configure_slave.Goals as goal
use Rattle.cyclic.proofs.configuration.configure_slave.Goals.{then-segment-slave+then-unit-lt-FMMU_COUNT+in_ok-configure_segment, else-segment-slave, else-segment-slave-via-then-segment-slave+else-unit-lt-FMMU_COUNT, else-segment-slave-via-else-segment-slave}

none : Segment
none = record { slave = 0; manager = 0; output = false; offset = 0; size = 0; bits = 0; start = 0; control = 0 }

pub returns-in_err-clear_fmmus-clause-sends : goal.returns-in_err-clear_fmmus-clause-sends
returns-in_err-clear_fmmus-clause-sends g c =
    sends_cut _ _ _ refl (g.S.Site.seen c.args.site.now) (g.S.Site.seen c.clear_fmmus.new.site) c.in_err-clear_fmmus.field-0.0 c.from_residual.result
    (handed_on c.from_residual.result c.in_err-clear_fmmus.field-0.0 c.from_residual.ensures.1) c.in_err-clear_fmmus.ensures.sends

pub loop-segment-init : goal.loop-segment-init
loop-segment-init g c = record { unit = refl; sends = c.in_ok-clear_fmmus.ensures.sends; line = c.in_ok-clear_fmmus.ensures.line }

pub returns-in_err-configure_segment-clause-sends : goal.returns-in_err-configure_segment-clause-sends
unfolding none
returns-in_err-configure_segment-clause-sends g c =
    let slave = c.args.slave in
    let segments = c.args.segments.now in
    let i = c.loop-segment.segment-index in
    let done : List Pdu = slave_orders (take i segments) slave in
    let next : List Pdu = segment_orders slave (c.loop-segment.unit, get_or segments i none) in
    let goes = goes_further slave segments i none c.loop-segment.unit c.loop-segment-test.true c.if-segment-slave.true c.if-unit-lt-FMMU_COUNT.true c.loop-segment.invariant.unit in
    let rest = rest_of_slave slave segments (i + 1) in
    let split : slave_orders segments slave ≡ (done ++ next) ++ rest.0 = rest.1 ∙ ap (λ (p : List Pdu). p ++ rest.0) (sym goes.orders_are) in
    sends_cut (done ++ next) rest.0 _ split (g.S.Site.seen c.args.site.now) (g.S.Site.seen c.configure_segment.new.site)
    c.in_err-configure_segment.field-0.0 c.from_residual-in_err-configure_segment.result
    (handed_on c.from_residual-in_err-configure_segment.result c.in_err-configure_segment.field-0.0 c.from_residual-in_err-configure_segment.ensures.1)
    (sends_then done next (g.S.Site.seen c.args.site.now) (g.S.Site.seen c.loop-segment.site) (g.S.Site.seen c.configure_segment.new.site) _
    c.loop-segment.invariant.sends c.in_err-configure_segment.ensures.sends)

pub loop-segment-preserved : goal.loop-segment-preserved
unfolding none
loop-segment-preserved g c =
    let slave = c.args.slave in
    let segments = c.args.segments.now in
    let i = c.loop-segment.segment-index in
    let done : List Pdu = slave_orders (take i segments) slave in
    let next : List Pdu = segment_orders slave (c.loop-segment.unit, get_or segments i none) in
    elim c.if-segment-slave.branch [
      | then-segment-slave+then-unit-lt-FMMU_COUNT+in_ok-configure_segment w ↦
          let goes = goes_further slave segments i none c.loop-segment.unit c.loop-segment-test.true w.if-segment-slave.true w.if-unit-lt-FMMU_COUNT.true c.loop-segment.invariant.unit in
          record {
            unit = w.unit-is ∙ goes.unit_is;
            sends = rw w.site-is (sends_same (done ++ next) _ goes.orders_are (g.S.Site.seen c.args.site.now) (g.S.Site.seen w.configure_segment.new.site) _
                (sends_then done next (g.S.Site.seen c.args.site.now) (g.S.Site.seen c.loop-segment.site) (g.S.Site.seen w.configure_segment.new.site) _
                c.loop-segment.invariant.sends w.in_ok-configure_segment.ensures.sends));
            line = rw w.site-is (w.in_ok-configure_segment.ensures.line ∙ c.loop-segment.invariant.line);
          }
      | else-segment-slave w ↦
          let none_found : found slave (take i segments) (get_or segments i none ∷ []) ≡ [] =
          elim w.else-segment-slave.branch [
            | else-segment-slave-via-then-segment-slave+else-unit-lt-FMMU_COUNT u ↦
                let full : 8 ≤ units_of slave (take i segments) = omega (arith, u.if-unit-lt-FMMU_COUNT.false) in
                finds_none_when_full slave (take i segments) (get_or segments i none ∷ []) full
            | else-segment-slave-via-else-segment-slave u ↦
                finds_none_of_another slave (take i segments) (get_or segments i none) u.if-segment-slave.false
          ] in
          let goes = goes_on slave segments i none c.loop-segment.unit c.loop-segment-test.true none_found c.loop-segment.invariant.unit in
          record {
            unit = w.unit-is ∙ goes.unit_is;
            sends = rw w.site-is (sends_same done _ goes.orders_are (g.S.Site.seen c.args.site.now) (g.S.Site.seen c.loop-segment.site) _ c.loop-segment.invariant.sends);
            line = rw w.site-is c.loop-segment.invariant.line;
          }
    ]
