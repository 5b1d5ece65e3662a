use Rattle.std.proofs.Common.{inl, length, refl, subst, sym}
use Rattle.station_line.specs.Site.{IsFollowed}
use Rattle.station_line.proofs.Going.{failure_goes}
use Rattle.script_session.specs.Running.{TellsOf, opened, unopened, whole_of}
use Rattle.script_session.proofs.RecoveryLaws.{opened-here, opened-synced, saves_recovered}
use Rattle.script_session.proofs.RunLaws.{reported-opening}
use Rattle.script_session.proofs.recovering.recover_by_threads.Goals as goal

pub redo_opened-requires-clause-opened : goal.redo_opened-requires-clause-opened
redo_opened-requires-clause-opened g c κs lives = opened-here c.args.site.line c.args.site.seen c.in-Ok.alone c.in-Ok.found c.in-Ok.ensures.opens

pub returns-in-Ok-clause-goes : goal.returns-in-Ok-clause-goes
returns-in-Ok-clause-goes g c =
    let o = c.in-Ok in
    opened o.alone (record {
      goes = record { goes_on = o.ensures.opens.1.quiet.follows; keeps = o.ensures.keeps };
      followed = c.redo_opened.ensures.followed;
    })
    (opened-synced c.args.site.line c.args.site.seen o.alone o.found o.ensures.opens) (c.redo_opened.ensures.goes c.args.site.seen o.ensures.begins)

pub returns-in-Ok-clause-saved : goal.returns-in-Ok-clause-saved
returns-in-Ok-clause-saved g c =
    let ran = c.redo_opened in
    let run = ran.result in
    saves_recovered g.D.Device.follows g.D.Device.well g.D.Lends.tells (length c.args.line.now.images.items) (g.S.Store.files ran.new.store) c.args.line.now
    c.args.site c.in-Ok.alone c.in-Ok.found c.in-Ok.ensures.opens run.ended run.recovered
    (whole_of run.reported.desk run.reported.after) (ran.ensures.saved c.args.site.seen c.in-Ok.ensures.begins)

pub returns-in-Err-clause-goes : goal.returns-in-Err-clause-goes
returns-in-Err-clause-goes g c =
    let reported = c.of_opening.result in
    let e = c.in-Err in
    unopened e.left.seen (record {
      goes = failure_goes c.args.site.line c.args.site.seen e.fault e.left.line e.left.seen (inl e.ensures.fails) e.ensures.keeps_back;
      followed = subst (λ t. IsFollowed (TellsOf g.D.Device.follows g.D.Lends.tells t) e.left.seen)
          (sym (reported-opening reported.desk reported.opening c.reported_of.result c.of_opening.ensures.desk c.of_opening.ensures.opening))
          c.reported_of.ensures;
    }) c.of_opening.ensures.desk refl
