use Rattle.std.proofs.Common.{refl, subst}
use Rattle.station_alone.specs.declared.choice.Choice.TheVariants.{Submit}
use Rattle.station_alone.specs.Station.{Station, station}
use Rattle.station_alone.specs.Keeping.{Went}
use Rattle.station_alone.proofs.StepLaws.{step-goes, step-went}
use Rattle.station_alone.proofs.alone.Alone.submit.Goals as goal

pub invariant_of-self : goal.invariant_of-self
invariant_of-self g c =
    let line = g.S.Site.line c.self.inside.site in
    let seen = g.S.Site.seen c.self.inside.site in
    (step-goes (Submit c.args.command.now) (station c.self.inside.core line seen) c.do_submit.result (station c.do_submit.new.core line seen) c.self.invariant refl c.do_submit.ensures.fits
    (c.do_submit.ensures.submits line seen)).stands

pub returns : goal.returns
returns g c =
    let line = g.S.Site.line c.self.inside.site in
    let seen = g.S.Site.seen c.self.inside.site in
    let new = station c.do_submit.new.core line seen in
    subst (λ (s : Station). Went (Submit c.args.command.now) s c.do_submit.result new) c.self.view_is
    (step-went (Submit c.args.command.now) (station c.self.inside.core line seen) c.do_submit.result new c.self.invariant refl c.do_submit.ensures.fits (c.do_submit.ensures.submits line seen))
