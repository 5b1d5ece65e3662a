use Rattle.std.proofs.Common.{[], refl}
use Rattle.wire_session.specs.Keeping.{OfRecovered}
use Rattle.wire_session.specs.Slaves.{AllHold}
use Rattle.station_files.specs.Files.{Known}
use Rattle.station_line.specs.Site.{switched_on}
use Rattle.script_session.specs.After.{SavesRecovered}
use Rattle.wire_session.proofs.Endings.{ends_as_reported}
use Rattle.wire_session.proofs.RunEnds.{keeps_as_reported}
use Rattle.wire_session.proofs.recovery.recover_found.Goals as goal

pub returns-clause-ends : goal.returns-clause-ends
returns-clause-ends g c =
    ends_as_reported
    (λ (files : Known) (done : Unit {0}). SavesRecovered (AllHold c.args.found.slaves.items c.recover_opened-ended.result.reported) files c.args.found.line (switched_on c.args.found.slaves.items c.args.found.journal.items))
    c.recover_opened-ended.result.ended c.tell_why-explained.result c.report_end.result (g.S.Store.files c.args.store.now)
    (g.S.Store.files c.recover_opened-ended.new.store) (g.S.Store.files c.report_end.new.store) c.args.found.line
    c.report_end.ensures.same c.tell_why-explained.ensures c.report_end.ensures.reported
    (rw c.deref.ensures.value at c.recover_opened-ended.ensures.ends)

pub returns-clause-keeps : goal.returns-clause-keeps
returns-clause-keeps g c =
    let before = switched_on c.args.found.slaves.items c.args.found.journal.items in
    let worked = c.recover_opened-ended.result in
    keeps_as_reported (OfRecovered _ before worked.reported) worked c.tell_why-explained.result c.report_end.result before [] refl c.tell_why-explained.ensures
    c.report_end.ensures.reported (rw c.deref.ensures.value at c.recover_opened-ended.ensures.keeps)
