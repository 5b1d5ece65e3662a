use Rattle.std.proofs.Common.{◌≡◌, ◌∙◌, sym, None, Some}
use Rattle.station_alone.specs.Steps.{reported_at_once}
use Rattle.station_alone.proofs.DiskLaws.{is-none, steps-at-once, steps-done}
use Rattle.station_alone.proofs.disk.do_disk.Goals as goal

pub returns-in-Some-clause-steps : goal.returns-in-Some-clause-steps
returns-in-Some-clause-steps g c =
    let line = g.S.Site.line c.args.site.now in
    let seen = g.S.Site.seen c.args.site.now in
    let some : reported_at_once c.in-Ok.action ≡ Some c.in-Some.reported = sym c.reported_at_once.ensures ∙ c.in-Some.is in
    steps-at-once c.args.core.now line seen c.disk_next.new.self c.in-Ok.ensures.book c.in-Ok.action c.in-Some.reported c.in-Ok.ensures.answer some

pub returns-clause-steps : goal.returns-clause-steps
returns-clause-steps g c =
    let line = g.S.Site.line c.args.site.now in
    let seen = g.S.Site.seen c.args.site.now in
    let later = g.S.Site.line c.do_action-result.new.site in
    let now = g.S.Site.seen c.do_action-result.new.site in
    let none : reported_at_once c.in-Ok.action ≡ None = sym c.reported_at_once.ensures ∙ is-none c.reported_at_once.result c.in_default.not-Some in
    steps-done c.args.core.now line seen c.disk_next.new.self c.in-Ok.ensures.book c.requires later now c.do_action-result.result c.disk_done.new.self c.disk_done.ensures c.in-Ok.action c.outcome.result c.in-Ok.ensures.answer
    none c.do_action-result.ensures.does c.outcome.ensures
