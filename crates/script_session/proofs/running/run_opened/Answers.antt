use Rattle.std.proofs.Common.{arith, length, refl}
use Rattle.script_session.specs.Running.{OfDevices}
use Rattle.script_session.proofs.RunLaws.{desk_tells, not_served, saves_desk, served_goes, served_line, unserved_line}
use Rattle.script_session.proofs.SavingLaws.{line-of}
use Rattle.script_session.proofs.running.run_opened.Goals as goal

pub end_left-requires-clause-line : goal.end_left-requires-clause-line
end_left-requires-clause-line g c κs lives =
    line-of c.in-Ok.left.site.line c.len.result (length c.args.line.now.images.items)
    (omega (arith, c.len.ensures, c.args.line.now.images.ok.0)) c.in-Ok.ensures.line

pub end_left-requires-clause-reported : goal.end_left-requires-clause-reported
end_left-requires-clause-reported g c κs lives = c.in-Ok.ensures.parts.parts.desk.ended.reported

pub returns-in-Ok-clause-followed : goal.returns-in-Ok-clause-followed
returns-in-Ok-clause-followed g c =
    served_line g.D.Device.follows g.D.Device.well g.D.Lends.tells c.args.task.turns c.end_left.result c.args.alone c.args.task.work.commands.items c.in-Ok.left
    c.in-Ok.ensures.parts c.end_left.ensures.desk

pub returns-in-Ok-clause-goes : goal.returns-in-Ok-clause-goes
returns-in-Ok-clause-goes g c =
    let follows = g.D.Device.follows in
    let well = g.D.Device.well in
    let tells = g.D.Lends.tells in
    let turns = c.args.task.turns in
    let commands = c.args.task.work.commands.items in
    let run = c.end_left.result in
    let parts = c.in-Ok.ensures.parts in
    served_goes follows well tells turns run c.args.alone commands c.in-Ok.left parts c.end_left.ensures.desk (OfDevices follows well tells run.reported)
    (desk_tells follows well tells turns run c.args.alone commands c.in-Ok.left parts c.end_left.ensures.desk) c.in-Ok.ensures.unserved c.end_left.ensures.goes

pub returns-in-Ok-clause-saved : goal.returns-in-Ok-clause-saved
returns-in-Ok-clause-saved g c answered has =
    let ran = c.end_left in
    saves_desk g.D.Device.follows g.D.Device.well g.D.Lends.tells c.args.task.turns (length c.args.line.now.images.items) (g.S.Store.files ran.new.store)
    c.args.line.now ran.result c.args.alone c.args.task.work.commands.items c.in-Ok.left answered c.in-Ok.ensures.unserved
    c.in-Ok.ensures.parts ran.ensures.sound ran.ensures.desk ran.ensures.followed has (ran.ensures.saved answered has)

pub returns-in-Err-clause-followed : goal.returns-in-Err-clause-followed
returns-in-Err-clause-followed g c =
    unserved_line g.D.Device.follows g.D.Device.well g.D.Lends.tells c.of_unserved.result c.args.alone c.args.task.work.commands.items c.in-Err.why.reported
    c.of_unserved.ensures.desk c.of_unserved.ensures.opening c.in-Err.ensures.failed

pub returns-in-Err-clause-goes : goal.returns-in-Err-clause-goes
returns-in-Err-clause-goes g c =
    let reported = c.of_unserved.result in
    not_served g.D.Device.follows g.D.Device.well g.D.Lends.tells reported.desk (OfDevices g.D.Device.follows g.D.Device.well g.D.Lends.tells reported) c.args.alone
    c.args.task.work.commands.items c.in-Err.why.reported _ refl c.of_unserved.ensures.desk (λ none. none) (λ ends tellings. tellings) c.in-Err.ensures.failed

pub returns-in-Err-clause-saved : goal.returns-in-Err-clause-saved
returns-in-Err-clause-saved g c answered has = absurd has.ended
