use Rattle.std.proofs.Common.{ap, ◌∙◌}
use Rattle.site_file.specs.declared.files.FileDevice.{FileDevice}
use Rattle.site_file.specs.declared.asking.Call.TheVariants.{Syncs as syncs}
use Rattle.site_file.specs.Device.{CallsJournal}
use Rattle.site_wire.proofs.Journal.{handed_on}
use Rattle.site_wire.proofs.Following.{sync_keeps}
use Rattle.site_wire.proofs.device.WireDeviceDevice.sync.Goals as goal

pub returns-clause-follows : goal.returns-clause-follows
returns-clause-follows g c =
    sync_keeps c.args.self.now c.end_call.new.self c.end_call.result
    (ap (λ (j : FileDevice _). j.asking.part) c.end_call.ensures.journal ∙ c.sync-passing.ensures.part)
    (record { sent = c.end_call.ensures.quiet.sent; over = c.end_call.ensures.quiet.over }) c.end_call.ensures.well
    (handed_on (CallsJournal syncs c.args.self.now.journal) c.sync-passing.result c.end_call.result c.sync-passing.new.self c.end_call.new.self.journal
    c.end_call.ensures.same c.end_call.ensures.journal c.sync-passing.ensures.asks)
