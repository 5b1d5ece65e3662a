use Rattle.std.proofs.Common.{◌≡◌, ◌+◌, ◌*◌, [], ◌∷◌}
use Rattle.cyclic.specs.Registers.{fmmu_bytes}
use Rattle.cyclic.specs.Configuration.{write_to, segment_orders}
use Rattle.cyclic.proofs.Sending.{handed_on, sends_then, sends_cut, sends_same}
use Rattle.cyclic.proofs.configuration.configure_segment.Goals as goal

pub returns-in_err-write-clause-sends : goal.returns-in_err-write-clause-sends
returns-in_err-write-clause-sends g c =
    let manager = write_to c.args.slave (0x0800 + 8 * c.from.result) c.manager_bytes.result in
    let fmmu = write_to c.args.slave (0x0600 + 16 * c.args.unit) (fmmu_bytes c.args.segment.now) in
    let split : segment_orders c.args.slave (c.args.unit, c.args.segment.now) ≡ manager ∷ fmmu ∷ [] = cc (c.from.ensures, c.manager_bytes.ensures) in
    sends_cut (manager ∷ []) (fmmu ∷ []) _ split (g.S.Site.seen c.args.site.now) (g.S.Site.seen c.write.new.site) c.in_err-write.field-0.0 c.from_residual.result
    (handed_on c.from_residual.result c.in_err-write.field-0.0 c.from_residual.ensures.1) c.in_err-write.ensures.sends

pub returns-clause-sends : goal.returns-clause-sends
returns-clause-sends g c =
    let manager = write_to c.args.slave (0x0800 + 8 * c.from.result) c.manager_bytes.result in
    let fmmu = write_to c.args.slave (0x0600 + 16 * c.args.unit) c.fmmu_bytes.result in
    let split : manager ∷ fmmu ∷ [] ≡ segment_orders c.args.slave (c.args.unit, c.args.segment.now) = cc (c.from.ensures, c.manager_bytes.ensures, c.fmmu_bytes.ensures) in
    sends_same (manager ∷ fmmu ∷ []) _ split (g.S.Site.seen c.args.site.now) (g.S.Site.seen c.write-2.new.site) c.write-2.result
    (sends_then (manager ∷ []) (fmmu ∷ []) (g.S.Site.seen c.args.site.now) (g.S.Site.seen c.write.new.site) (g.S.Site.seen c.write-2.new.site) c.write-2.result
    c.in_ok-write.ensures.sends c.write-2.ensures.sends)
