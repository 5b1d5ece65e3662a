use Rattle.std.proofs.Common.{map, take}
use Rattle.std.specs.List.{AllZip}
use Rattle.toml.specs.View.{view}
use Rattle.station_text.specs.ScriptText.{SpellsGroupEdit}
use Rattle.station_text.proofs.script_command.read_group_edits.Given as goal

abbrev pub invariant-loop-value : goal.invariant-loop-value
invariant-loop-value l = AllZip SpellsGroupEdit (map view (take l.value-index l.values)) l.edits.items
