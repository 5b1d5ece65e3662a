use Rattle.std.proofs.Common.{codes}
use Rattle.toml.specs.Data.{get_member}
use Rattle.toml.specs.View.{table_view}
use Rattle.station_text.specs.ScriptText.{SpellsEdit, SpellsGuarded, SpellsGuards, own_guard}
use Rattle.station_text.proofs.Readings.{passed_on}
use Rattle.station_text.proofs.script_command.read_guarded_edit.Goals as goal

pub returns-in_err-edit : goal.returns-in_err-edit
returns-in_err-edit c =
    let table = table_view c.args.table.now in
    passed_on _ _ (SpellsEdit table) (SpellsGuarded table) c.from_residual-in_err-edit.result c.in_err-edit.field-0.0 c.in_err-edit.ensures c.from_residual-in_err-edit.ensures.1 (λ none one spelt. none one.edit spelt.0)

pub returns-in_err-expect : goal.returns-in_err-expect
returns-in_err-expect c =
    let table = table_view c.args.table.now in
    passed_on _ _ (SpellsGuards (get_member (codes "expect") table) (own_guard table)) (SpellsGuarded table) c.from_residual.result c.in_err-expect.field-0.0 c.in_err-expect.ensures c.from_residual.ensures.1 (λ none one spelt. none one.expect spelt.1)
