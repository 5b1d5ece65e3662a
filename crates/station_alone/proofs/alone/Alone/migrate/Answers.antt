use Rattle.std.proofs.Common.{refl, subst}
use Rattle.station_alone.specs.declared.choice.Choice.TheVariants.{Migrate}
use Rattle.station_alone.specs.Station.{Station, station}
use Rattle.station_alone.specs.Keeping.{Went}
use Rattle.station_alone.proofs.StepLaws.{step-goes, step-went}
use Rattle.station_alone.proofs.alone.Alone.migrate.Goals as goal

pub invariant_of-self : goal.invariant_of-self
invariant_of-self g c =
    let line = g.S.Site.line c.self.inside.site in
    let seen = g.S.Site.seen c.self.inside.site in
    (step-goes Migrate (station c.self.inside.core line seen) c.ask_migration.result (station c.ask_migration.new.core line seen) c.self.invariant refl tt (c.ask_migration.ensures line seen)).stands

pub returns : goal.returns
returns g c =
    let line = g.S.Site.line c.self.inside.site in
    let seen = g.S.Site.seen c.self.inside.site in
    let new = station c.ask_migration.new.core line seen in
    subst (λ (s : Station). Went Migrate s c.ask_migration.result new) c.self.view_is
    (step-went Migrate (station c.self.inside.core line seen) c.ask_migration.result new c.self.invariant refl tt (c.ask_migration.ensures line seen))
