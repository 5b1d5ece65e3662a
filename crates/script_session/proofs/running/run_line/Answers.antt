use Rattle.std.proofs.Common.{length, refl, subst, sym}
use Rattle.station_line.specs.Site.{IsFollowed}
use Rattle.station_line.proofs.Opened.{starts-none, starts-synced}
use Rattle.script_session.specs.Running.{TellsOf, opened, unopened, whole_of}
use Rattle.script_session.proofs.RunLaws.{reported-opening, saves_site}
use Rattle.script_session.proofs.running.run_line.Goals as goal

pub run_opened-requires-clause-none : goal.run_opened-requires-clause-none
run_opened-requires-clause-none g c κs lives = starts-none c.args.start.is_old c.args.start.site c.in-Ok.alone c.in-Ok.ensures.starts

pub returns-in-Ok-clause-goes : goal.returns-in-Ok-clause-goes
returns-in-Ok-clause-goes g c =
    opened c.in-Ok.alone (record { goes = c.in-Ok.ensures.goes; followed = c.run_opened.ensures.followed })
    (starts-synced c.args.start.is_old c.args.start.site c.in-Ok.alone c.in-Ok.ensures.starts) c.run_opened.ensures.goes

pub returns-in-Ok-clause-saved : goal.returns-in-Ok-clause-saved
returns-in-Ok-clause-saved g c answered has =
    let ran = c.run_opened in
    saves_site g.D.Device.follows g.D.Device.well g.D.Lends.tells c.args.task.turns (length c.args.line.now.images.items) (g.S.Store.files ran.new.store)
    c.args.line.now (whole_of ran.result.reported.desk ran.result.reported.after) c.args.start.site c.args.start.is_old c.in-Ok.alone
    c.args.task.work.commands.items answered c.requires.old c.in-Ok.ensures.starts c.in-Ok.ensures.line c.in-Ok.ensures.goes.goes_on
    (ran.ensures.saved answered has)

pub returns-in-Err-clause-goes : goal.returns-in-Err-clause-goes
returns-in-Err-clause-goes g c =
    let reported = c.of_opening.result in
    unopened c.in-Err.left.seen (record {
      goes = c.in-Err.ensures.goes;
      followed = subst (λ t. IsFollowed (TellsOf g.D.Device.follows g.D.Lends.tells t) c.in-Err.left.seen)
          (sym (reported-opening reported.desk reported.opening c.reported_of.result c.of_opening.ensures.desk c.of_opening.ensures.opening))
          c.reported_of.ensures;
    }) c.of_opening.ensures.desk refl

pub returns-in-Err-clause-saved : goal.returns-in-Err-clause-saved
returns-in-Err-clause-saved g c answered has = absurd has.ended
