use Rattle.std.proofs.Common.{◌∙◌, false, ap, sym, subst}
use Rattle.std.specs.Prelude.{◌≡◌, IsErr, IsTrue}
use denote.Param.Send.{sendable}
use Rattle.esc_rom.specs.Owned.{OwnsAll}
use Rattle.site_shadow.specs.Site.{SiteValue}
use Rattle.site_file.proofs.Sent.{device-send}
use Rattle.line_watch.proofs.Sent.{watched-send}
use Rattle.station_files.specs.Faults.{IsFaultless}
use Rattle.station_line.specs.Answers.{IsOfAnswers}
use Rattle.station_line.specs.Opened.{is_old}
use Rattle.station_session.specs.RunFiles.{RunKeepsFiles}
use Rattle.station_session.specs.Session.{EndsRun}
use Rattle.station_session.proofs.Ending.{ends_run, has_ended, told}
use Rattle.station_session.proofs.Noting.{answers_noted, end_answers, stays, stays_good, then_noted, worse_noted}
use Rattle.station_session.proofs.RunFiles.{run_on_files}
use Rattle.station_session.proofs.run.run_opened.Goals as goal

pub run_line-answers-requires-send-D : goal.run_line-answers-requires-send-D
run_line-answers-requires-send-D g c κs lives = search (watched-send, device-send, sendable) depth 40

pub run_line-answers-requires-clause-disk : goal.run_line-answers-requires-clause-disk
run_line-answers-requires-clause-disk g c κs lives = subst (λ (s : SiteValue). IsTrue s.line.has_disk) (sym c.with_device.ensures) c.requires.fresh.has_disk

pub run_line-answers-requires-clause-owned : goal.run_line-answers-requires-clause-owned
run_line-answers-requires-clause-owned g c κs lives = subst (λ (s : SiteValue). OwnsAll s.line) (sym c.with_device.ensures) c.requires.fresh.owned

pub run_line-answers-requires-clause-old : goal.run_line-answers-requires-clause-old
run_line-answers-requires-clause-old g c κs lives =
    subst (λ (s : SiteValue). c.args.given.session.is_old ≡ is_old s.seen.state.disk.bytes) (sym c.with_device.ensures) c.requires.old

pub returns-clause-ends : goal.returns-clause-ends
returns-clause-ends g c =
    let given = c.args.given in
    let files = g.S.Store.files in
    let ran = c.run_line-answers in
    let final = c.with_all_reported-status in
    subst (λ (s : SiteValue). EndsRun false (files c.args.store.now) (files ran.new.store) given.session.line s given.commands.items final.result) c.with_device.ensures
    (ends_run _ ran.result (files c.args.store.now) (files ran.new.store) given.session.line c.with_device.result given.commands.items c.worse.result final.result
    ran.ensures.others ran.ensures.saved
    (has_ended ran.result c.status.result c.note_end.result c.note_answered.result c.worse-noted.result c.worse.result c.status.ensures c.note_end.ensures.fault
    c.note_answered.ensures.fault c.note_answered.ensures.answered c.worse-noted.ensures.done c.worse-noted.ensures.faultless c.worse.ensures.done c.worse.ensures.faultless)
    (stays c.worse.result final.result c.note_answered.new.failures final.new.failures final.ensures.noted))

pub returns-clause-kept : goal.returns-clause-kept
returns-clause-kept g c =
    let given = c.args.given in
    let ran = c.run_line-answers in
    let final = c.with_all_reported-status in
    subst (λ (s : SiteValue). RunKeepsFiles _ s.seen given.commands.items final.result ran.result.reported) c.with_device.ensures
    (run_on_files _ (λ device. device.device) ran.result.reported
    (IsErr ran.result.ended) (¬ IsFaultless final.result)
    (told ran.result.ended c.note_answered.result final.result c.note_answered.ensures.fault (λ well. (c.worse-noted.ensures.faultless (c.worse.ensures.faultless
    (stays_good c.worse.result final.result (stays c.worse.result final.result c.note_answered.new.failures final.new.failures final.ensures.noted) well)).1).1))
    c.with_device.result.seen (ap (λ (s : SiteValue). s.seen.past) c.with_device.ensures ∙ c.requires.fresh.new) given.commands.items ran.ensures.goes)

pub returns-clause-noted : goal.returns-clause-noted
returns-clause-noted g c =
    let ran = c.run_line-answers.result in
    let old = c.args.failures.now in
    let closed = c.note_end in
    let ended = c.note_answered in
    let final = c.with_all_reported-status in
    then_noted IsOfAnswers c.worse.result final.result old ended.new.failures final.new.failures
    (worse_noted c.status.result c.worse-noted.result c.worse.result old old ended.new.failures (answers_noted ran.answers c.status.result old c.status.ensures)
    (worse_noted closed.result ended.result c.worse-noted.result old closed.new.self ended.new.failures
    (end_answers ran.closed closed.result old closed.new.self closed.ensures.done closed.ensures.fault closed.ensures.noted closed.ensures.same)
    ended.ensures.noted c.worse-noted.ensures.one c.worse-noted.ensures.faultless)
    c.worse.ensures.one c.worse.ensures.faultless)
    final.ensures.noted
