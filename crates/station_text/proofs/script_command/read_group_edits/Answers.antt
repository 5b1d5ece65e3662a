use Rattle.std.specs.List.{AllZip}
use Rattle.std.proofs.Common.{map}
use Rattle.toml.specs.View.{view}
use Rattle.station_text.specs.ScriptText.{SpellsGroupEdit}
use Rattle.sii_words.proofs.ListedMembers.{AllZip-take-item}
use Rattle.station_text.proofs.Readings.{none_for_item, passed_on}
use Rattle.station_text.proofs.script_command.read_group_edits.Goals as goal

pub loop-value-preserved : goal.loop-value-preserved
loop-value-preserved c =
    let spelt = AllZip-take-item SpellsGroupEdit view c.args.values.now c.loop-value.value-index c.value-item.result c.loop-value.edits.items c.in_ok-read_group_edit.field-0 c.loop-value-test.true c.value-item.is c.loop-value.invariant c.in_ok-read_group_edit.ensures in
    rw c.in_ok-push.ensures.items spelt

pub returns-in_err-read_group_edit : goal.returns-in_err-read_group_edit
returns-in_err-read_group_edit c =
    passed_on _ _ (SpellsGroupEdit (view c.value-item.result)) (AllZip SpellsGroupEdit (map view c.args.values.now)) c.from_residual-in_err-read_group_edit.result c.in_err-read_group_edit.field-0.0 c.in_err-read_group_edit.ensures c.from_residual-in_err-read_group_edit.ensures.1
    (none_for_item SpellsGroupEdit view c.args.values.now c.loop-value.value-index c.value-item.result c.loop-value-test.true c.value-item.is)
