use Rattle.std.proofs.Common.{inr, sym, ◌∙◌}
use Rattle.toml.specs.View.{table_view}
use Rattle.station_text.specs.ScriptText.{SpellsGroup, SpellsGuarded, SpellsTableCommand}
use Rattle.station_text.proofs.Readings.{passed_on}
use Rattle.station_text.proofs.ScriptRefusals.{edit_alone, group_alone, swap_alone}
use Rattle.station_text.proofs.script_command.read_table_command.Goals as goal

pub returns-in-None : goal.returns-in-None
returns-in-None c = inr (swap_alone (table_view c.args.table.now) (sym c.has_only.ensures ∙ c.if-has_only.true) c.in-None.ensures)

pub returns-in_err-read_group : goal.returns-in_err-read_group
returns-in_err-read_group c =
    let table = table_view c.args.table.now in
    passed_on _ _ (SpellsGroup table) (SpellsTableCommand table) c.from_residual.result c.in_err-read_group.field-0.0 c.in_err-read_group.ensures c.from_residual.ensures.1
    (group_alone table (sym c.has_only-2.ensures ∙ c.if-has_only-2.true))

pub returns-in_err-expect : goal.returns-in_err-expect
returns-in_err-expect c =
    let table = table_view c.args.table.now in
    passed_on _ _ (SpellsGuarded table) (SpellsTableCommand table) c.from_residual-in_err-expect.result c.in_err-expect.field-0.0 c.in_err-expect.ensures c.from_residual-in_err-expect.ensures.1
    (λ none. edit_alone table (sym c.has_only.ensures ∙ c.if-has_only.false) (sym c.has_only-2.ensures ∙ c.if-has_only-2.false) (λ one spelt. none one spelt.0))
