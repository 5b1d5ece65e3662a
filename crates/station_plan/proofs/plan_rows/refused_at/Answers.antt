use Rattle.std.proofs.Common.{◌∙◌, Some, ap, sym}
use Rattle.station_plan.proofs.plan_rows.refused_at.Goals as goal

pub returns-in-Some : goal.returns-in-Some
returns-in-Some c =
    ap (λ at. record { command = c.args.place; code = c.args.refused.code; at = at }) (ap Some c.from.ensures ∙ sym c.in-Some.is)

pub returns-in-None : goal.returns-in-None
returns-in-None c = ap (λ at. record { command = c.args.place; code = c.args.refused.code; at = at }) (sym c.in-None.is)
