use Rattle.std.proofs.Common.{◌<◌, ◌^◌, Option, Result, sym, subst, arith}
use Rattle.rom_steps.specs.Accesses.{ReadsPairBy}
use Rattle.rom_steps.specs.Remaining.{reading_end}
use Rattle.rom_steps.specs.declared.back.WordPair.{WordPair}
use Rattle.rom_steps.specs.declared.step.Stop.{Stop}
use Rattle.esc_rom.specs.Courses.{Takes}
use Rattle.esc_rom.specs.Driving.{words_at}
use Rattle.esc_rom.proofs.Courses.{same-stop, takes-value, driven, driven-cut, told}
use Rattle.esc_rom.proofs.Driven.{words-are}
use Rattle.esc_rom.proofs.Going.{reads-runs}
use Rattle.esc_rom.proofs.reading.read_pair.Goals as goal

pub drive-requires-clause-short : goal.drive-requires-clause-short
drive-requires-clause-short g c = let bound = c.begin_reading.ensures.bounded in omega arith

pub returns-in_err-end-clause-frames : goal.returns-in_err-end-clause-frames
returns-in_err-end-clause-frames g c =
    subst (λ (r : Result (Option WordPair) Stop). Takes (ReadsPairBy c.args.slave c.args.word) (g.S.Site.seen c.args.site.now) r (g.S.Site.seen c.drive.new.site))
    (sym (same-stop c.from_residual.result c.in_err-end.field-0.0 c.from_residual.ensures.1))
    (driven-cut reading_end (ReadsPairBy c.args.slave c.args.word) c.args.slave c.begin_reading.result (c.begin_reading.ensures.course c.args.slave) c.in_err-end.ensures.drives)

pub returns-in_err-end-clause-runs : goal.returns-in_err-end-clause-runs
returns-in_err-end-clause-runs g c =
    let fits : c.args.word < 2 ^ 16 = omega arith in
    reads-runs c.args.slave c.args.word c.requires.1 fits (returns-in_err-end-clause-frames g c)

pub returns-clause-frames : goal.returns-clause-frames
returns-clause-frames g c =
    takes-value (ReadsPairBy c.args.slave c.args.word) (sym c.words_at.ensures)
    (told words_at words-are
    (driven reading_end (ReadsPairBy c.args.slave c.args.word) c.args.slave c.begin_reading.result (c.begin_reading.ensures.course c.args.slave) c.in_ok-end.ensures.drives))

pub returns-clause-runs : goal.returns-clause-runs
returns-clause-runs g c =
    let fits : c.args.word < 2 ^ 16 = omega arith in
    reads-runs c.args.slave c.args.word c.requires.1 fits (returns-clause-frames g c)
