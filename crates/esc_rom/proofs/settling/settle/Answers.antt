use Rattle.std.proofs.Common.{arith}
use Rattle.rom_steps.specs.declared.step.End.TheVariants as ends
use Rattle.rom_steps.specs.Accesses.{SettlesBy}
use Rattle.esc_rom.proofs.Stops.{device_stopped}
use Rattle.esc_rom.proofs.SettledWords.{settles_ok, settles_cut}
use Rattle.esc_rom.proofs.Courses.{as-value, as-cut, driven, driven-cut, took}
use Rattle.esc_rom.proofs.Going.{settles-runs}
use Rattle.esc_rom.proofs.settling.settle.Goals as goal

pub drive-requires-clause-short : goal.drive-requires-clause-short
drive-requires-clause-short g c = let bound = c.begin_settling.ensures.bounded in omega arith

pub settled_at-requires : goal.settled_at-requires
settled_at-requires g c =
    let end = driven ends.Settled (SettlesBy c.args.slave c.args.taken) c.args.slave c.begin_settling.result (c.begin_settling.ensures.course c.args.slave) c.in_ok-end.ensures.drives in
    (end.value, end.is)

pub returns-in_err-end-clause-settles : goal.returns-in_err-end-clause-settles
returns-in_err-end-clause-settles g c =
    settles_cut (g.S.Site.seen c.args.site.now) c.args.slave c.args.taken c.from_residual.result (g.S.Site.seen c.drive.new.site)
    (device_stopped c.from_residual.result c.from_residual.ensures.1)
    (settles-runs c.args.slave c.requires.1 c.args.taken
    (driven-cut ends.Settled (SettlesBy c.args.slave c.args.taken) c.args.slave c.begin_settling.result (c.begin_settling.ensures.course c.args.slave) c.in_err-end.ensures.drives))

pub returns-clause-settles : goal.returns-clause-settles
returns-clause-settles g c =
    settles_ok (g.S.Site.seen c.args.site.now) c.args.slave c.args.taken c.settled_at.result (g.S.Site.seen c.drive.new.site)
    (settles-runs c.args.slave c.requires.1 c.args.taken
    (took c.settled_at.result (λ other same. cc)
    (driven ends.Settled (SettlesBy c.args.slave c.args.taken) c.args.slave c.begin_settling.result (c.begin_settling.ensures.course c.args.slave) c.in_ok-end.ensures.drives)
    c.settled_at.ensures))

pub returns-in_err-end-clause-frames : goal.returns-in_err-end-clause-frames
returns-in_err-end-clause-frames g c =
    as-cut (SettlesBy c.args.slave c.args.taken) c.from_residual.result c.from_residual.ensures.0
    (driven-cut ends.Settled (SettlesBy c.args.slave c.args.taken) c.args.slave c.begin_settling.result (c.begin_settling.ensures.course c.args.slave) c.in_err-end.ensures.drives)

pub returns-clause-frames : goal.returns-clause-frames
returns-clause-frames g c =
    as-value (SettlesBy c.args.slave c.args.taken)
    (took c.settled_at.result (λ other same. cc)
    (driven ends.Settled (SettlesBy c.args.slave c.args.taken) c.args.slave c.begin_settling.result (c.begin_settling.ensures.course c.args.slave) c.in_ok-end.ensures.drives)
    c.settled_at.ensures)
