use Rattle.std.proofs.Common.{◌∙◌, subst, sym}
use Rattle.esc_rom.specs.Owned.{OwnsAll}
use Rattle.site_core.specs.Line.{Line}
use Rattle.station_plan.proofs.plan.serve_station.Goals as goal

pub returns-in-Ok-clause-served : goal.returns-in-Ok-clause-served
returns-in-Ok-clause-served g c =
    record { s = c.serve_resizes.new.alone; serves = c.in-Ok.ensures; line_is = c.into_parts-core.ensures.line; seen_is = c.into_parts-core.ensures.seen }

pub returns-in-Ok-clause-owned : goal.returns-in-Ok-clause-owned
returns-in-Ok-clause-owned g c = subst (λ (line : Line). OwnsAll line) (sym (c.into_parts-core.ensures.line ∙ c.in-Ok.ensures.submits.goes.on.line)) c.requires
