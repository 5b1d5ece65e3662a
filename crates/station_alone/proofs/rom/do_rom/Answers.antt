use Rattle.std.proofs.Common.{sym, subst}
use Rattle.book_model.proofs.SlaveEventLaws.{IsNothing}
use Rattle.station_alone.specs.Station.{station}
use Rattle.station_alone.proofs.HandedLaws.{rom-open}
use Rattle.station_alone.proofs.StandLaws.{slave-owned}
use Rattle.station_alone.proofs.rom.do_rom.Goals as goal

pub issue-issued-requires : goal.issue-issued-requires
issue-issued-requires g c =
    let o = rom-open c.args.core.now c.args.slave (λ none. subst IsNothing (sym c.in-Issue.ensures.answer) none) in
    slave-owned (station c.args.core.now (g.S.Site.line c.args.site.now) (g.S.Site.seen c.args.site.now)) c.args.slave c.requires o.0 o.1

pub settle-settled-requires : goal.settle-settled-requires
settle-settled-requires g c =
    let o = rom-open c.args.core.now c.args.slave (λ none. subst IsNothing (sym c.in-Settle.ensures.answer) none) in
    slave-owned (station c.args.core.now (g.S.Site.line c.args.site.now) (g.S.Site.seen c.args.site.now)) c.args.slave c.requires o.0 o.1
