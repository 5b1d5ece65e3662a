use Rattle.std.proofs.Common.{arith}
use Rattle.toml.specs.View.{table_view}
use Rattle.station_text.proofs.ScriptRefusals.{no_pair}
use Rattle.station_text.proofs.script_command.read_swap.Goals as goal

pub returns-in_default : goal.returns-in_default
returns-in_default c =
    no_pair (table_view c.args.table.now) c.in_ok-find_values.field-0.now c.in_ok-find_values.ensures (λ two. omega (arith, two, c.in_default.len_below))

pub returns-in_default-2 : goal.returns-in_default-2
returns-in_default-2 c =
    no_pair (table_view c.args.table.now) c.in_ok-find_values.field-0.now c.in_ok-find_values.ensures (λ two. omega (arith, two, c.in_default.len_at_least))
