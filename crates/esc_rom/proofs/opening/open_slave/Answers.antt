use Rattle.std.proofs.Common.{sym, ◌∙◌, arith}
use Rattle.rom_steps.specs.Accesses.{OpensBy}
use Rattle.rom_steps.specs.Remaining.{opening_end}
use Rattle.esc_rom.specs.Driving.{is_open}
use Rattle.esc_rom.proofs.Stops.{rom_stopped}
use Rattle.esc_rom.proofs.OpenSlaves.{opens_ok, opens_dead, opens_cut}
use Rattle.esc_rom.proofs.Courses.{takes-value, driven, driven-cut, told}
use Rattle.esc_rom.proofs.Driven.{open-is}
use Rattle.esc_rom.proofs.Going.{opens-runs}
use Rattle.esc_rom.proofs.SentLaws.{opened-by, unopened-by, open-cut-by}
use Rattle.esc_rom.proofs.opening.open_slave.Goals as goal

pub drive-requires-clause-short : goal.drive-requires-clause-short
drive-requires-clause-short g c = let bound = c.begin_opening.ensures.bounded in omega arith

pub returns-in_err-end-clause-opens : goal.returns-in_err-end-clause-opens
returns-in_err-end-clause-opens g c =
    opens_cut (g.S.Site.seen c.args.site.now) c.args.slave c.from_residual.result (g.S.Site.seen c.drive.new.site)
    (rom_stopped c.from_residual.result c.from_residual.ensures.1)
    (opens-runs c.args.slave c.requires.1 (driven-cut opening_end (OpensBy c.args.slave) c.args.slave c.begin_opening.result (c.begin_opening.ensures.course c.args.slave) c.in_err-end.ensures.drives))

pub returns-then-is_open-clause-opens : goal.returns-then-is_open-clause-opens
returns-then-is_open-clause-opens g c =
    opens_ok (g.S.Site.seen c.args.site.now) c.args.slave (g.S.Site.seen c.drive.new.site)
    (opens-runs c.args.slave c.requires.1
    (takes-value (OpensBy c.args.slave) (sym c.is_open.ensures ∙ c.if-is_open.true)
    (told is_open open-is (driven opening_end (OpensBy c.args.slave) c.args.slave c.begin_opening.result (c.begin_opening.ensures.course c.args.slave) c.in_ok-end.ensures.drives))))

pub returns-clause-opens : goal.returns-clause-opens
returns-clause-opens g c =
    opens_dead (g.S.Site.seen c.args.site.now) c.args.slave (g.S.Site.seen c.drive.new.site)
    (opens-runs c.args.slave c.requires.1
    (takes-value (OpensBy c.args.slave) (sym c.is_open.ensures ∙ c.if-is_open.false)
    (told is_open open-is (driven opening_end (OpensBy c.args.slave) c.args.slave c.begin_opening.result (c.begin_opening.ensures.course c.args.slave) c.in_ok-end.ensures.drives))))

pub returns-in_err-end-clause-frames : goal.returns-in_err-end-clause-frames
returns-in_err-end-clause-frames g c =
    open-cut-by c.args.slave c.from_residual.result (rom_stopped c.from_residual.result c.from_residual.ensures.1)
    (driven-cut opening_end (OpensBy c.args.slave) c.args.slave c.begin_opening.result (c.begin_opening.ensures.course c.args.slave) c.in_err-end.ensures.drives)

pub returns-then-is_open-clause-frames : goal.returns-then-is_open-clause-frames
returns-then-is_open-clause-frames g c =
    opened-by c.args.slave
    (takes-value (OpensBy c.args.slave) (sym c.is_open.ensures ∙ c.if-is_open.true)
    (told is_open open-is (driven opening_end (OpensBy c.args.slave) c.args.slave c.begin_opening.result (c.begin_opening.ensures.course c.args.slave) c.in_ok-end.ensures.drives)))

pub returns-clause-frames : goal.returns-clause-frames
returns-clause-frames g c =
    unopened-by c.args.slave
    (takes-value (OpensBy c.args.slave) (sym c.is_open.ensures ∙ c.if-is_open.false)
    (told is_open open-is (driven opening_end (OpensBy c.args.slave) c.args.slave c.begin_opening.result (c.begin_opening.ensures.course c.args.slave) c.in_ok-end.ensures.drives)))
