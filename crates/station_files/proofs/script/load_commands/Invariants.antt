use Rattle.std.proofs.Common.{◌≡◌, take}
use Rattle.std.specs.List.{AllZip}
use Rattle.station_files.specs.ScriptFiles.{LoadsCommand}
use Rattle.station_files.proofs.script.load_commands.Given as goal

abbrev pub invariant-loop-command : goal.invariant-loop-command
invariant-loop-command g l = record {
  loaded : AllZip (LoadsCommand (g.S.Store.files l.initial.store)) (take l.command-index l.script) l.commands.items;
  same : g.S.Store.files l.store ≡ g.S.Store.files l.initial.store;
}
