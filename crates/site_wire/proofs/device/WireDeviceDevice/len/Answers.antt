use Rattle.std.proofs.Common.{ap, ◌∙◌}
use Rattle.site_file.specs.declared.files.FileDevice.{FileDevice}
use Rattle.site_file.specs.Device.{AsksLength}
use Rattle.site_wire.proofs.Journal.{handed_on}
use Rattle.site_wire.proofs.Following.{length_asks}
use Rattle.site_wire.proofs.device.WireDeviceDevice.len.Goals as goal

pub returns-clause-follows : goal.returns-clause-follows
returns-clause-follows g c =
    length_asks c.args.self.now c.end_call.new.self c.end_call.result
    (ap (λ (j : FileDevice _). j.asking.part) c.end_call.ensures.journal ∙ c.len-passing.ensures.part)
    (record { sent = c.end_call.ensures.quiet.sent; over = c.end_call.ensures.quiet.over }) c.end_call.ensures.well
    (handed_on (AsksLength c.args.self.now.journal) c.len-passing.result c.end_call.result c.len-passing.new.self c.end_call.new.self.journal
    c.end_call.ensures.same c.end_call.ensures.journal c.len-passing.ensures.asks)
