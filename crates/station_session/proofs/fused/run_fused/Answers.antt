use Rattle.std.proofs.Common.{inr, true}
use Rattle.station_session.proofs.Ending.{ends-station, ends-unopened}
use Rattle.station_session.proofs.Noting.{answers_noted, end_answers, worse_noted}
use Rattle.station_session.proofs.fused.run_fused.Goals as goal

pub returns-in-Ok-clause-ends : goal.returns-in-Ok-clause-ends
returns-in-Ok-clause-ends g c =
    let session = c.args.given.session in
    let ran = c.run_station-answered in
    ends-station (g.S.Store.files c.args.store.now) (g.S.Store.files ran.new.store) session.line session.site session.is_old c.in-Ok.alone c.args.given.commands.items
    ran.result.answered ran.result.served ran.result.saved c.status.result c.note_end.result c.note_end-in-Ok.result c.worse-ended.result c.worse.result
    c.requires.old c.in-Ok.ensures.starts ran.ensures.others ran.ensures.saved c.status.ensures c.note_end.ensures.fault c.note_end-in-Ok.ensures.fault
    c.worse-ended.ensures.faultless c.worse.ensures.done c.worse.ensures.faultless

pub returns-in-Ok-clause-noted : goal.returns-in-Ok-clause-noted
returns-in-Ok-clause-noted g c =
    let ran = c.run_station-answered in
    let first = c.note_end in
    let second = c.note_end-in-Ok in
    worse_noted c.status.result c.worse-ended.result c.worse.result c.args.failures.now c.args.failures.now second.new.self
    (answers_noted ran.result.answered c.status.result c.args.failures.now c.status.ensures)
    (worse_noted first.result second.result c.worse-ended.result c.args.failures.now first.new.self second.new.self
    (end_answers ran.result.served first.result c.args.failures.now first.new.self first.ensures.done first.ensures.fault first.ensures.noted first.ensures.same)
    (end_answers ran.result.saved second.result first.new.self second.new.self second.ensures.done second.ensures.fault second.ensures.noted second.ensures.same)
    c.worse-ended.ensures.one c.worse-ended.ensures.faultless)
    c.worse.ensures.one c.worse.ensures.faultless

pub returns-clause-ends : goal.returns-clause-ends
returns-clause-ends g c =
    let session = c.args.given.session in
    ends-unopened true (g.S.Store.files c.args.store.now) (g.S.Store.files c.give_up.new.store) session.line session.site c.args.given.commands.items c.give_up.result c.give_up.ensures.others c.give_up.ensures.status

pub returns-clause-noted : goal.returns-clause-noted
returns-clause-noted g c = inr (c.give_up.ensures.status, c.give_up.ensures.noted)
