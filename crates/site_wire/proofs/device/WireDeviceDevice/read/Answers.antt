use Rattle.std.proofs.Common.{ap, ◌∙◌}
use Rattle.site_file.specs.declared.files.FileDevice.{FileDevice}
use Rattle.site_file.specs.Device.{ReadsJournal}
use Rattle.site_wire.proofs.Journal.{handed_on}
use Rattle.site_wire.proofs.Following.{read_asks}
use Rattle.site_wire.proofs.device.WireDeviceDevice.read.Goals as goal

pub returns-clause-follows : goal.returns-clause-follows
returns-clause-follows g c =
    read_asks c.args.self.now c.end_call.new.self c.end_call.result
    (ap (λ (j : FileDevice _). j.asking.part) c.end_call.ensures.journal ∙ c.read-passing.ensures.part)
    (record { sent = c.end_call.ensures.quiet.sent; over = c.end_call.ensures.quiet.over }) c.end_call.ensures.well
    (handed_on (ReadsJournal c.args.self.now.journal) c.read-passing.result c.end_call.result c.read-passing.new.self c.end_call.new.self.journal
    c.end_call.ensures.same c.end_call.ensures.journal c.read-passing.ensures.asks)
