use Rattle.std.proofs.Common.{refl}
use Rattle.station_files.specs.Files.{Known}
use Rattle.station_files.specs.declared.faults.ExitStatus.{ExitStatus}
use Rattle.station_line.specs.Site.{switched_on}
use Rattle.wire_session.specs.Keeping.{OfWire}
use Rattle.wire_session.specs.Running.{SavesFound}
use Rattle.wire_session.proofs.Endings.{ends_as_reported, reported_twice}
use Rattle.wire_session.proofs.RunEnds.{keeps_as_reported}
use Rattle.wire_session.proofs.running.run_found.Goals as goal

pub returns-clause-ends : goal.returns-clause-ends
returns-clause-ends g c =
    let found = c.args.found in
    ends_as_reported
    (λ (files : Known) (status : ExitStatus). SavesFound files found.line found.slaves.items found.journal.items c.args.commands.items c.run_opened-ended.result.reported status)
    c.run_opened-ended.result.ended c.tell_why-explained.result c.report_end.result (g.S.Store.files c.args.store.now)
    (g.S.Store.files c.run_opened-ended.new.store) (g.S.Store.files c.report_end.new.store) found.line
    c.report_end.ensures.same c.tell_why-explained.ensures
    (reported_twice c.tell_why-explained.result c.tell_handed-reported.result c.report_end.result c.tell_handed-reported.ensures.reported c.report_end.ensures.reported)
    (rw c.deref-4.ensures.value at c.run_opened-ended.ensures.ends)

pub returns-clause-keeps : goal.returns-clause-keeps
returns-clause-keeps g c =
    let found = c.args.found in
    keeps_as_reported (OfWire _ (switched_on found.slaves.items found.journal.items).state c.run_opened-ended.result.reported) c.run_opened-ended.result
    c.tell_why-explained.result c.report_end.result (switched_on found.slaves.items found.journal.items) c.args.commands.items refl c.tell_why-explained.ensures
    (reported_twice c.tell_why-explained.result c.tell_handed-reported.result c.report_end.result c.tell_handed-reported.ensures.reported c.report_end.ensures.reported)
    (rw c.deref-4.ensures.value at c.run_opened-ended.ensures.keeps)
