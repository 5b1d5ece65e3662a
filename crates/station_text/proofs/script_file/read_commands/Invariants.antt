use Rattle.std.proofs.Common.{map, take}
use Rattle.std.specs.List.{AllZip}
use Rattle.toml.specs.View.{view}
use Rattle.station_text.specs.ScriptText.{SpellsCommand}
use Rattle.station_text.proofs.script_file.read_commands.Given as goal

abbrev pub invariant-loop-value : goal.invariant-loop-value
invariant-loop-value l = AllZip SpellsCommand (map view (take l.value-index l.values)) l.commands.items
