use Rattle.std.specs.List.{AllZip}
use Rattle.std.proofs.Common.{map}
use Rattle.toml.specs.View.{view}
use Rattle.station_text.specs.ScriptText.{SpellsCommand}
use Rattle.sii_words.proofs.ListedMembers.{AllZip-take-item}
use Rattle.station_text.proofs.Readings.{none_for_item, passed_on}
use Rattle.station_text.proofs.script_file.read_commands.Goals as goal

pub loop-value-preserved : goal.loop-value-preserved
loop-value-preserved c =
    let spelt = AllZip-take-item SpellsCommand view c.args.values.now c.loop-value.value-index c.value-item.result c.loop-value.commands.items c.in_ok-command_at.field-0 c.loop-value-test.true c.value-item.is c.loop-value.invariant c.in_ok-command_at.ensures in
    rw c.in_ok-push.ensures.items spelt

pub returns-in_err-command_at : goal.returns-in_err-command_at
returns-in_err-command_at c =
    passed_on _ _ (SpellsCommand (view c.value-item.result)) (AllZip SpellsCommand (map view c.args.values.now)) c.from_residual-in_err-command_at.result c.in_err-command_at.field-0.0 c.in_err-command_at.ensures c.from_residual-in_err-command_at.ensures.1
    (none_for_item SpellsCommand view c.args.values.now c.loop-value.value-index c.value-item.result c.loop-value-test.true c.value-item.is)
