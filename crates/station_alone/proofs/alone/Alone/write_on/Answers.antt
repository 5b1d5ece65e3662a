use Rattle.std.proofs.Common.{subst}
use Rattle.station_alone.specs.declared.choice.Choice.TheVariants.{Disk}
use Rattle.station_alone.specs.Station.{Station, station}
use Rattle.station_alone.specs.Keeping.{Went}
use Rattle.station_alone.proofs.StepLaws.{step-goes, step-went}
use Rattle.station_alone.proofs.alone.Alone.write_on.Goals as goal

pub invariant_of-self : goal.invariant_of-self
invariant_of-self g c =
    let old = station c.self.inside.core (g.S.Site.line c.self.inside.site) (g.S.Site.seen c.self.inside.site) in
    let new = station c.do_disk.new.core (g.S.Site.line c.do_disk.new.site) (g.S.Site.seen c.do_disk.new.site) in
    (step-goes Disk old c.do_disk.result new c.self.invariant c.do_disk.ensures.line tt c.do_disk.ensures.steps).stands

pub returns : goal.returns
returns g c =
    let old = station c.self.inside.core (g.S.Site.line c.self.inside.site) (g.S.Site.seen c.self.inside.site) in
    let new = station c.do_disk.new.core (g.S.Site.line c.do_disk.new.site) (g.S.Site.seen c.do_disk.new.site) in
    subst (λ (s : Station). Went Disk s c.do_disk.result new) c.self.view_is (step-went Disk old c.do_disk.result new c.self.invariant c.do_disk.ensures.line tt c.do_disk.ensures.steps)
