use Rattle.std.proofs.Common.{[], ap, arith, false, length, refl, subst}
use Rattle.book_model.specs.Book.{Book}
use Rattle.script_session.specs.AtDesk.{IsUnservedReported}
use Rattle.script_session.specs.Running.{OfDevices, OfRecovery}
use Rattle.script_session.proofs.RecoveryLaws.{redone_goes, saves_redone, unredone_goes}
use Rattle.script_session.proofs.RunLaws.{desk_tells, not_served, served_line, unserved_line}
use Rattle.script_session.proofs.SavingLaws.{line-of}
use Rattle.script_session.proofs.recovering.redo_opened.Goals as goal

pub serve_task-requires-clause-none : goal.serve_task-requires-clause-none
serve_task-requires-clause-none g c κs lives = ap (λ (b : Book). b.accepted) c.requires.opened.book

pub end_left-run-requires-clause-line : goal.end_left-run-requires-clause-line
end_left-run-requires-clause-line g c κs lives =
    line-of c.in-Ok.left.site.line c.len.result (length c.args.line.now.images.items)
    (omega (arith, c.len.ensures, c.args.line.now.images.ok.0)) c.in-Ok.ensures.line

pub end_left-run-requires-clause-reported : goal.end_left-run-requires-clause-reported
end_left-run-requires-clause-reported g c κs lives = c.in-Ok.ensures.parts.parts.desk.ended.reported

pub returns-in-Ok-reported-clause-followed : goal.returns-in-Ok-reported-clause-followed
returns-in-Ok-reported-clause-followed g c =
    served_line g.D.Device.follows g.D.Device.well g.D.Lends.tells false c.end_left-run.result c.args.alone c.new.result.items c.in-Ok.left
    c.in-Ok.ensures.parts c.end_left-run.ensures.desk

pub returns-in-Ok-reported-clause-closed : goal.returns-in-Ok-reported-clause-closed
returns-in-Ok-reported-clause-closed g c = c.end_left-run.ensures.closed c.in-Ok-reported.is

pub returns-in-Ok-reported-clause-goes : goal.returns-in-Ok-reported-clause-goes
returns-in-Ok-reported-clause-goes g c before begins =
    let follows = g.D.Device.follows in
    let well = g.D.Device.well in
    let tells = g.D.Lends.tells in
    let left = c.in-Ok.left in
    let ran = c.end_left-run in
    redone_goes c.args.alone c.requires.opened c.core.ensures.stands follows well tells c.new.result.items c.new.ensures.items left c.in-Ok.ensures.parts c.in-Ok-reported.is
    before begins (OfDevices follows well tells ran.result.reported) _
    (desk_tells follows well tells false ran.result c.args.alone c.new.result.items left c.in-Ok.ensures.parts ran.ensures.desk) ran.ensures.goes

pub returns-in-Ok-reported-clause-saved : goal.returns-in-Ok-reported-clause-saved
returns-in-Ok-reported-clause-saved g c before begins =
    let ran = c.end_left-run in
    saves_redone c.args.alone c.requires.opened c.core.ensures.stands g.D.Device.follows g.D.Device.well g.D.Lends.tells c.new.result.items c.new.ensures.items c.in-Ok.left
    c.in-Ok.ensures.parts c.in-Ok-reported.is (length c.args.line.now.images.items) (g.S.Store.files ran.new.store)
    c.args.line.now ran.result c.args.found c.count_all-run.result c.count_all-run.ensures ran.ensures.sound ran.ensures.desk ran.ensures.followed before begins

pub returns-in-Err-reported-clause-goes : goal.returns-in-Err-reported-clause-goes
returns-in-Err-reported-clause-goes g c before begins =
    let serves = c.in-Ok.ensures.parts in
    unredone_goes c.args.alone c.requires.opened c.core.ensures.stands g.D.Device.follows g.D.Device.well g.D.Lends.tells c.new.result.items c.new.ensures.items c.in-Ok.left
    serves before begins (OfDevices g.D.Device.follows g.D.Device.well g.D.Lends.tells c.of_desk.result) _ (rw c.of_desk.ensures.desk serves.reported) refl

pub returns-in-Err-clause-followed : goal.returns-in-Err-clause-followed
returns-in-Err-clause-followed g c =
    unserved_line g.D.Device.follows g.D.Device.well g.D.Lends.tells c.of_unserved.result c.args.alone c.new.result.items c.in-Err.why.reported
    c.of_unserved.ensures.desk c.of_unserved.ensures.opening c.in-Err.ensures.failed

pub returns-in-Err-clause-goes : goal.returns-in-Err-clause-goes
returns-in-Err-clause-goes g c before begins =
    let follows = g.D.Device.follows in
    let well = g.D.Device.well in
    let tells = g.D.Lends.tells in
    let reported = c.of_unserved.result in
    not_served follows well tells reported.desk (OfRecovery before (OfDevices follows well tells reported)) c.args.alone [] c.in-Err.why.reported
    _ refl c.of_unserved.ensures.desk (λ none. none)
    (λ ends tellings. (record { here = c.requires.opened; stands = c.core.ensures.stands; begins = begins }, tellings))
    (subst (λ l. IsUnservedReported follows well tells c.args.alone l c.in-Err.why.reported) c.new.ensures.items c.in-Err.ensures.failed)
