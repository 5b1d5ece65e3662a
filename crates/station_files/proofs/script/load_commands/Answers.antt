use Rattle.std.proofs.Common.{◌∙◌, refl, inl}
use Rattle.station_files.specs.ScriptFiles.{LoadsCommand, RefusesCommand, RefusesCommands}
use Rattle.station_files.proofs.Loaded.{handed_on, loads_one_more}
use Rattle.station_files.proofs.ScriptFaults.{one_refused}
use Rattle.station_files.specs.declared.faults.Fault.TheVariants.{Memory}
use Rattle.station_files.proofs.script.load_commands.Goals as goal

pub loop-command-preserved : goal.loop-command-preserved
loop-command-preserved g c = record {
  loaded =
      rw c.in_ok-push.ensures.items
      (loads_one_more LoadsCommand (g.S.Store.files c.args.store.now) (g.S.Store.files c.loop-command.store) c.args.script.now c.loop-command.command-index c.command-item.result c.loop-command.commands.items c.in_ok-load_command.field-0
      c.loop-command-test.true c.command-item.is c.loop-command.invariant.same c.loop-command.invariant.loaded c.in_ok-load_command.ensures.command);
  same = c.load_command.ensures.same ∙ c.loop-command.invariant.same;
}

pub returns-in_err-load_command-clause-refused : goal.returns-in_err-load_command-clause-refused
returns-in_err-load_command-clause-refused g c =
    let fault = c.in_err-load_command.field-0.0 in
    handed_on (RefusesCommands (g.S.Store.files c.args.store.now) c.args.script.now) c.from_residual.result fault c.from_residual.ensures.1
    (one_refused RefusesCommand (g.S.Store.files c.args.store.now) (g.S.Store.files c.loop-command.store) c.args.script.now c.loop-command.command-index c.command-item.result fault
    c.loop-command-test.true c.command-item.is c.loop-command.invariant.same c.in_err-load_command.ensures.refused)

pub returns-in_err-push-clause-refused : goal.returns-in_err-push-clause-refused
returns-in_err-push-clause-refused g c =
    handed_on (RefusesCommands (g.S.Store.files c.args.store.now) c.args.script.now) c.from_residual-in_err-push.result Memory c.from_residual-in_err-push.ensures.1 (inl refl)
