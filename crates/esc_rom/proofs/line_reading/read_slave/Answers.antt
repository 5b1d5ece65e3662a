use Rattle.std.proofs.Common.{slice_index, sym, subst}
use Rattle.site_core.specs.Line.{Line, Owns}
use Rattle.esc_rom.specs.Access.{ReadsWords}
use Rattle.esc_rom.proofs.SlaveLaws.{read_after}
use Rattle.esc_rom.specs.Courses.{Takes}
use Rattle.esc_rom.specs.Sent.{ReadsAllBy}
use Rattle.esc_rom.proofs.SlaveLaws.{handed_on}
use Rattle.esc_rom.proofs.SentLaws.{reads-opened, reads-unopened, parts-opened, parts-unopened}
use Rattle.esc_rom.proofs.line_reading.read_slave.Goals as goal

pub returns-clause-reads : goal.returns-clause-reads
returns-clause-reads g c =
    let opened = g.S.Site.seen c.open_slave.new.site in
    let new = g.S.Site.seen c.read_all.new.site in
    read_after c.args.slave (slice_index (g.S.Site.line c.args.site.now).sizes c.args.slave) (g.S.Site.seen c.args.site.now) opened new c.read_all.result c.in_ok-open_slave.ensures.opens
    (subst (λ (line : Line). ReadsWords opened c.args.slave (slice_index line.sizes c.args.slave) c.read_all.result new) c.in_ok-open_slave.ensures.line c.read_all.ensures.reads)

pub returns-in_err-open_slave-clause-parts : goal.returns-in_err-open_slave-clause-parts
returns-in_err-open_slave-clause-parts g c =
    let fault = c.in_err-open_slave.field-0.0 in
    parts-unopened c.args.slave (slice_index (g.S.Site.line c.args.site.now).sizes c.args.slave) c.from_residual.result fault (handed_on c.from_residual.result fault c.from_residual.ensures.1) c.in_err-open_slave.ensures.opens

pub returns-in_err-open_slave-clause-frames : goal.returns-in_err-open_slave-clause-frames
returns-in_err-open_slave-clause-frames g c =
    let fault = c.in_err-open_slave.field-0.0 in
    reads-unopened c.args.slave (slice_index (g.S.Site.line c.args.site.now).sizes c.args.slave) c.from_residual.result fault (handed_on c.from_residual.result fault c.from_residual.ensures.1) c.in_err-open_slave.ensures.frames

pub returns-clause-parts : goal.returns-clause-parts
returns-clause-parts g c =
    let opened = g.S.Site.seen c.open_slave.new.site in
    let new = g.S.Site.seen c.read_all.new.site in
    parts-opened c.args.slave (slice_index (g.S.Site.line c.args.site.now).sizes c.args.slave) c.read_all.result c.in_ok-open_slave.ensures.opens
    (subst (λ (line : Line). ReadsWords opened c.args.slave (slice_index line.sizes c.args.slave) c.read_all.result new) c.in_ok-open_slave.ensures.line c.read_all.ensures.reads)

pub returns-clause-frames : goal.returns-clause-frames
returns-clause-frames g c =
    let opened = g.S.Site.seen c.open_slave.new.site in
    let new = g.S.Site.seen c.read_all.new.site in
    reads-opened c.args.slave (slice_index (g.S.Site.line c.args.site.now).sizes c.args.slave) c.read_all.result c.in_ok-open_slave.ensures.frames
    (subst (λ (line : Line). Takes (ReadsAllBy c.args.slave (slice_index line.sizes c.args.slave)) opened c.read_all.result new) c.in_ok-open_slave.ensures.line c.read_all.ensures.frames)

pub read_all-requires : goal.read_all-requires
read_all-requires g c = subst (λ (line : Line). Owns line c.args.slave) (sym c.in_ok-open_slave.ensures.line) (c.requires.slaves c.args.slave c.requires.inside)
