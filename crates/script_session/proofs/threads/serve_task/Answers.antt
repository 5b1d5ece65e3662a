use Rattle.std.proofs.Common.{◌∙◌, ◌≤◌, ap, arith, length, refl, subst, sym}
use Rattle.std.specs.Prelude.{vec_capacity}
use Rattle.site_core.specs.Line.{Line}
use Rattle.book_model.specs.Book.{Book}
use Rattle.script_session.specs.Parts.{IsSeparate, Sites}
use Rattle.script_session.proofs.SeparateLaws.{separate_reported}
use Rattle.script_session.proofs.DeskLaws.{as-many-ends, ends-separate, line-reported, serves-parts}
use Rattle.script_session.proofs.threads.serve_task.Goals as goal

pub serve_at_desk-requires-clause-opening : goal.serve_at_desk-requires-clause-opening
serve_at_desk-requires-clause-opening g c κs lives = record {
  core = refl;
  none = ap (λ (b : Book). b.accepted) (c.of-opening.ensures.core ∙ c.into_parts-core.ensures.book) ∙ c.requires.none;
  tickets = (refl, refl);
  refusals = (refl, refl);
  parts = (omega (arith, c.of-opening.ensures.parts.0), omega (arith, c.of-opening.ensures.parts.1));
}

pub returns-in-Ok-serve_at_desk-clause-parts : goal.returns-in-Ok-serve_at_desk-clause-parts
returns-in-Ok-serve_at_desk-clause-parts g c =
    let parts = c.into_parts-core in
    let desk = c.in-Ok-serve_at_desk in
    let prepared = c.in-Ok in
    let back = c.put_back in
    serves-parts c.args.alone c.args.task.work.commands.items c.of-opening.result.core parts.result.1.seen prepared.prepared.sites desk.at
    (c.of-opening.ensures.core ∙ parts.ensures.book) parts.ensures.seen prepared.ensures.sites.separate desk.ensures.served.of_sites desk.ensures.served.ending
    g.D.Device.follows g.D.Device.well g.D.Lends.tells c.args.task.turns prepared.prepared.entire.reported back.result prepared.ensures.turning back.ensures.left back.ensures.reported back.ensures.sound back.ensures.words
    prepared.ensures.reported (ap (λ (l : Line). length l.sizes) (sym parts.ensures.line) ∙ c.prepare.ensures.count)

pub returns-in-Ok-serve_at_desk-clause-failed : goal.returns-in-Ok-serve_at_desk-clause-failed
returns-in-Ok-serve_at_desk-clause-failed g c =
    let parts = c.into_parts-core in
    let desk = c.in-Ok-serve_at_desk in
    ends-separate c.args.alone c.args.task.work.commands.items c.of-opening.result.core parts.result.1.seen c.in-Ok.prepared.sites desk.at
    (c.of-opening.ensures.core ∙ parts.ensures.book) parts.ensures.seen c.in-Ok.ensures.sites.separate desk.ensures.served.of_sites desk.ensures.served.ending
    g.D.Device.follows g.D.Device.well g.D.Lends.tells c.in-Ok.prepared.entire.reported c.put_back.result c.in-Ok.ensures.reported c.put_back.ensures.failed

pub put_back-requires-clause-reserved : goal.put_back-requires-clause-reserved
put_back-requires-clause-reserved g c =
    as-many-ends c.in-Ok.prepared.sites c.in-Ok-serve_at_desk.at.ends _ c.in-Ok-serve_at_desk.ensures.served.of_sites c.in-Ok.ensures.reserved

pub returns-in-Err-clause-failed : goal.returns-in-Err-clause-failed
returns-in-Err-clause-failed g c =
    line-reported g.D.Device.follows g.D.Device.well g.D.Lends.tells c.args.alone c.args.task.work.commands.items c.into_parts-core.result.1.seen c.in-Err.why.reported
    c.into_parts-core.ensures.seen c.in-Err.ensures.failed

pub returns-in-Err-serve_at_desk-clause-failed : goal.returns-in-Err-serve_at_desk-clause-failed
returns-in-Err-serve_at_desk-clause-failed g c =
    let parts = c.into_parts-core in
    let reported = c.reported_unserved in
    separate_reported g.D.Device.follows g.D.Device.well g.D.Lends.tells c.args.alone c.args.task.work.commands.items parts.result.1.seen c.in-Err-serve_at_desk.sites reported.result
    c.in-Ok.prepared.entire.reported parts.ensures.seen
    (subst (λ (sites : Sites). IsSeparate parts.result.1.seen.state sites) (sym c.in-Err-serve_at_desk.ensures.handed_back) c.in-Ok.ensures.sites.separate)
    c.in-Ok.ensures.reported reported.ensures.line reported.ensures.disk reported.ensures.slaves

pub reported_unserved-requires-clause-reserved : goal.reported_unserved-requires-clause-reserved
reported_unserved-requires-clause-reserved g c =
    subst (λ (sites : Sites). length sites.slaves.items ≤ vec_capacity c.in-Ok.prepared.entire.room.reported) (sym c.in-Err-serve_at_desk.ensures.handed_back) c.in-Ok.ensures.reserved
