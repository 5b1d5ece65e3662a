use Rattle.std.proofs.Common.{◌<◌, ◌^◌, arith}
use Rattle.rom_steps.specs.declared.step.End.TheVariants as ends
use Rattle.rom_steps.specs.Accesses.{IssuesBy}
use Rattle.esc_rom.proofs.Stops.{device_stopped}
use Rattle.esc_rom.proofs.Courses.{as-value, as-cut, driven, driven-cut, took}
use Rattle.esc_rom.proofs.Going.{issues-ok, issues-cut}
use Rattle.esc_rom.proofs.issuing.issue.Goals as goal

pub drive-requires-clause-short : goal.drive-requires-clause-short
drive-requires-clause-short g c = let bound = c.begin_issue.ensures.bounded in omega arith

pub issued_at-requires : goal.issued_at-requires
issued_at-requires g c =
    let end = driven ends.Issued (IssuesBy c.args.slave c.args.word c.args.value) c.args.slave c.begin_issue.result (c.begin_issue.ensures.course c.args.slave) c.in_ok-end.ensures.drives in
    (end.value, end.is)

pub returns-in_err-end-clause-issues : goal.returns-in_err-end-clause-issues
returns-in_err-end-clause-issues g c =
    let word_fits : c.args.word < 2 ^ 16 = omega arith in
    let value_fits : c.args.value < 2 ^ 16 = omega arith in
    issues-cut c.args.slave c.args.word c.args.value c.requires.1 word_fits value_fits (g.S.Site.seen c.args.site.now)
    (g.S.Site.seen c.drive.new.site) c.from_residual.result (device_stopped c.from_residual.result c.from_residual.ensures.1)
    (driven-cut ends.Issued (IssuesBy c.args.slave c.args.word c.args.value) c.args.slave c.begin_issue.result (c.begin_issue.ensures.course c.args.slave) c.in_err-end.ensures.drives)

pub returns-clause-issues : goal.returns-clause-issues
returns-clause-issues g c =
    let word_fits : c.args.word < 2 ^ 16 = omega arith in
    let value_fits : c.args.value < 2 ^ 16 = omega arith in
    issues-ok c.args.slave c.args.word c.args.value c.requires.1 word_fits value_fits (g.S.Site.seen c.args.site.now)
    (g.S.Site.seen c.drive.new.site)
    (took c.issued_at.result (λ other same. cc)
    (driven ends.Issued (IssuesBy c.args.slave c.args.word c.args.value) c.args.slave c.begin_issue.result (c.begin_issue.ensures.course c.args.slave) c.in_ok-end.ensures.drives)
    c.issued_at.ensures)

pub returns-in_err-end-clause-frames : goal.returns-in_err-end-clause-frames
returns-in_err-end-clause-frames g c =
    as-cut (IssuesBy c.args.slave c.args.word c.args.value) c.from_residual.result c.from_residual.ensures.0
    (driven-cut ends.Issued (IssuesBy c.args.slave c.args.word c.args.value) c.args.slave c.begin_issue.result (c.begin_issue.ensures.course c.args.slave) c.in_err-end.ensures.drives)

pub returns-clause-frames : goal.returns-clause-frames
returns-clause-frames g c =
    as-value (IssuesBy c.args.slave c.args.word c.args.value)
    (took c.issued_at.result (λ other same. cc)
    (driven ends.Issued (IssuesBy c.args.slave c.args.word c.args.value) c.args.slave c.begin_issue.result (c.begin_issue.ensures.course c.args.slave) c.in_ok-end.ensures.drives)
    c.issued_at.ensures)
