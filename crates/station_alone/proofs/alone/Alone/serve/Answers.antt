use Rattle.std.proofs.Common.{[], subst}
use Rattle.station_alone.specs.Station.{Station, station}
use Rattle.station_alone.specs.Keeping.{GoesOn, Keeps}
use Rattle.station_alone.proofs.StepLaws.{serve-goes}
use Rattle.station_alone.proofs.alone.Alone.serve.Goals as goal

pub invariant_of-self : goal.invariant_of-self
invariant_of-self g c =
    let old = station c.self.inside.core (g.S.Site.line c.self.inside.site) (g.S.Site.seen c.self.inside.site) in
    let new = station c.do_rom.new.core (g.S.Site.line c.do_rom.new.site) (g.S.Site.seen c.do_rom.new.site) in
    (serve-goes c.args.slave old c.do_rom.result.1 new c.self.invariant c.do_rom.ensures.line c.do_rom.ensures.serves).stands

pub returns-clause-goes_on : goal.returns-clause-goes_on
returns-clause-goes_on g c =
    let old = station c.self.inside.core (g.S.Site.line c.self.inside.site) (g.S.Site.seen c.self.inside.site) in
    let new = station c.do_rom.new.core (g.S.Site.line c.do_rom.new.site) (g.S.Site.seen c.do_rom.new.site) in
    subst (λ (s : Station). GoesOn [] 10001 s new) c.self.view_is (serve-goes c.args.slave old c.do_rom.result.1 new c.self.invariant c.do_rom.ensures.line c.do_rom.ensures.serves).goes_on

pub returns-clause-keeps : goal.returns-clause-keeps
returns-clause-keeps g c =
    let old = station c.self.inside.core (g.S.Site.line c.self.inside.site) (g.S.Site.seen c.self.inside.site) in
    let new = station c.do_rom.new.core (g.S.Site.line c.do_rom.new.site) (g.S.Site.seen c.do_rom.new.site) in
    subst (λ (s : Station). Keeps [] s new) c.self.view_is (serve-goes c.args.slave old c.do_rom.result.1 new c.self.invariant c.do_rom.ensures.line c.do_rom.ensures.serves).keeps
