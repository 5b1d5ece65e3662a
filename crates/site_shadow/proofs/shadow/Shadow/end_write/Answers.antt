use Rattle.std.proofs.Common.{◌≡◌, [], ◌∷◌, length, Ok, sym, ap, subst, ◌∙◌}
use Rattle.site_core.specs.declared.fault.DeviceFault.TheVariants as faults
use Rattle.site_core.specs.State.{Seen}
use Rattle.site_core.specs.Calls.{WritesDisk}
use Rattle.site_shadow.specs.Stopping.{noted, begun, with_bytes_over, HasStopped, CountsFault}
use Rattle.site_shadow.proofs.Calling.{WritesDisk-ok, WritesDisk-fails, WritesDisk-torn}
use Rattle.site_shadow.proofs.shadow.Shadow.end_write.Goals as goal

pub returns-in-Fails-clause-writes : goal.returns-in-Fails-clause-writes
returns-in-Fails-clause-writes c = λ old going inside is.
    WritesDisk-fails old c.args.at c.args.bytes.now c.fail.result c.fail.new.self going
    (subst (λ (s : Seen). CountsFault s faults.Disk c.fail.result c.fail.new.self) is c.fail.ensures)

pub returns-in-Stops-clause-writes : goal.returns-in-Stops-clause-writes
returns-in-Stops-clause-writes c = λ old going inside is.
    let mid : Seen = noted old (begun old c.args.at (length c.args.bytes.now) ∷ []) (begun old c.args.at (length c.args.bytes.now)) in
    let l : c.lay.new.self ≡ with_bytes_over mid c.args.at c.args.bytes.now =
    c.lay.ensures ∙ ap (λ (s : Seen). with_bytes_over s c.args.at c.args.bytes.now) is in
    WritesDisk-torn old c.args.at c.args.bytes.now c.stop.new.self going inside
    (subst (λ (s : Seen). HasStopped s c.stop.new.self) l c.stop.ensures)

pub returns-clause-writes : goal.returns-clause-writes
returns-clause-writes c = λ old going inside is.
    let mid : Seen = noted old (begun old c.args.at (length c.args.bytes.now) ∷ []) (begun old c.args.at (length c.args.bytes.now)) in
    let l : c.lay.new.self ≡ with_bytes_over mid c.args.at c.args.bytes.now =
    c.lay.ensures ∙ ap (λ (s : Seen). with_bytes_over s c.args.at c.args.bytes.now) is in
    subst (λ (s : Seen). WritesDisk old c.args.at c.args.bytes.now (Ok tt) s) (sym l) (WritesDisk-ok old c.args.at c.args.bytes.now going)
