use Rattle.std.proofs.Common.{Option, Result, sym, subst, arith}
use Rattle.rom_steps.specs.Accesses.{WaitsBy}
use Rattle.rom_steps.specs.Remaining.{waiting_end}
use Rattle.rom_steps.specs.declared.back.Rested.{Rested}
use Rattle.rom_steps.specs.declared.step.Stop.{Stop}
use Rattle.esc_rom.specs.Courses.{Takes}
use Rattle.esc_rom.specs.Driving.{rest_at}
use Rattle.esc_rom.proofs.Courses.{same-stop, takes-value, driven, driven-cut, told}
use Rattle.esc_rom.proofs.Driven.{rest-is}
use Rattle.esc_rom.proofs.Going.{waits-runs}
use Rattle.esc_rom.proofs.reading.wait_idle.Goals as goal

pub drive-requires-clause-short : goal.drive-requires-clause-short
drive-requires-clause-short g c = let bound = c.begin_waiting.ensures.bounded in omega arith

pub returns-in_err-end-clause-frames : goal.returns-in_err-end-clause-frames
returns-in_err-end-clause-frames g c =
    subst (λ (r : Result (Option Rested) Stop). Takes (WaitsBy c.args.slave) (g.S.Site.seen c.args.site.now) r (g.S.Site.seen c.drive.new.site))
    (sym (same-stop c.from_residual.result c.in_err-end.field-0.0 c.from_residual.ensures.1))
    (driven-cut waiting_end (WaitsBy c.args.slave) c.args.slave c.begin_waiting.result (c.begin_waiting.ensures.course c.args.slave) c.in_err-end.ensures.drives)

pub returns-in_err-end-clause-runs : goal.returns-in_err-end-clause-runs
returns-in_err-end-clause-runs g c = waits-runs c.args.slave c.requires.1 (returns-in_err-end-clause-frames g c)

pub returns-clause-frames : goal.returns-clause-frames
returns-clause-frames g c =
    takes-value (WaitsBy c.args.slave) (sym c.rest_at.ensures)
    (told rest_at rest-is (driven waiting_end (WaitsBy c.args.slave) c.args.slave c.begin_waiting.result (c.begin_waiting.ensures.course c.args.slave) c.in_ok-end.ensures.drives))

pub returns-clause-runs : goal.returns-clause-runs
returns-clause-runs g c = waits-runs c.args.slave c.requires.1 (returns-clause-frames g c)
