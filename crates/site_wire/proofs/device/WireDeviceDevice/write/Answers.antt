use Rattle.std.proofs.Common.{ap, ◌∙◌}
use Rattle.site_file.specs.declared.files.FileDevice.{FileDevice}
use Rattle.site_file.specs.declared.asking.Call.TheVariants.{Writes as writes}
use Rattle.site_file.specs.Device.{CallsJournal}
use Rattle.site_wire.proofs.Journal.{handed_on}
use Rattle.site_wire.proofs.Following.{write_keeps}
use Rattle.site_wire.proofs.device.WireDeviceDevice.write.Goals as goal

pub returns-clause-follows : goal.returns-clause-follows
returns-clause-follows g c =
    write_keeps c.args.self.now c.end_call.new.self c.end_call.result
    (ap (λ (j : FileDevice _). j.asking.part) c.end_call.ensures.journal ∙ c.write-passing.ensures.part)
    (record { sent = c.end_call.ensures.quiet.sent; over = c.end_call.ensures.quiet.over }) c.end_call.ensures.well
    c.args.at c.args.bytes.now
    (handed_on (CallsJournal (writes c.args.at c.args.bytes.now) c.args.self.now.journal) c.write-passing.result c.end_call.result c.write-passing.new.self c.end_call.new.self.journal
    c.end_call.ensures.same c.end_call.ensures.journal c.write-passing.ensures.asks)
