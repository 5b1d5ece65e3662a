use Rattle.std.proofs.Common.{ℕ, slice_set, sym, ap, subst, ◌∙◌}
use Rattle.ecat_frame.specs.Frame.{Pdu}
use Rattle.wire_frames.specs.Came.{Reaches}
use Rattle.site_wire.specs.Joining.{takes}
use Rattle.site_wire.specs.declared.joining.Stage.TheVariants as stage
use Rattle.site_wire.proofs.joining.Board.collect_one.Goals as goal

pub returns-then-put_in-clause-took : goal.returns-then-put_in-clause-took
returns-then-put_in-clause-took c =
    let order = c.in-Waits.order in
    let address = c.translated-address.result in
    takes order address (sym c.stage.ensures ∙ c.in-Waits.is)
    (subst (λ (d : Pdu). Reaches c.args.self.now.stations.by_slave d address) c.datagram.ensures.same (record {
      register_is = c.translated-address.ensures.register;
      station_is = c.translated-address.ensures.station;
      other_is = c.translated-address.ensures.other;
    }))
    (ap (λ (p : ℕ). slice_set c.args.self.now.stages c.args.slave (stage.Sent order address p)) c.count-place.ensures)
    (c.put_in.ensures.put c.if-put_in.true)
