use Rattle.std.specs.Prelude.{is_some}
use Rattle.station_session.proofs.Ending.{runs}
use Rattle.station_session.proofs.RunFiles.{runs_kept}
use Rattle.station_session.proofs.run.run_script.Goals as goal

pub returns-in-Ok-clause-ran : goal.returns-in-Ok-clause-ran
returns-in-Ok-clause-ran g c =
    runs g.S.Store.leads (is_some c.args.fuse) (g.S.Store.files c.args.store.now) (g.S.Store.files c.load.new.store) (g.S.Store.files c.run_given.new.store) c.args.names.line.now c.args.names.script.now c.in-Ok.given.session.line c.in-Ok.given.session.site c.in-Ok.given.commands.items c.run_given.result.status
    c.in-Ok.ensures.loaded c.in-Ok.ensures.separate c.in-Ok.ensures.journal c.in-Ok.ensures.spelt c.load.ensures.same c.run_given.ensures.ends

pub returns-in-Ok-clause-kept : goal.returns-in-Ok-clause-kept
returns-in-Ok-clause-kept g c none begun =
    let given = c.in-Ok.given in
    runs_kept _ (g.S.Store.files c.args.store.now) c.args.names.line.now c.args.names.script.now given.session.line given.session.site given.commands.items c.run_given.result.status c.run_given.result.reported c.in-Ok.ensures.loaded c.in-Ok.ensures.spelt (c.run_given.ensures.kept none begun)
