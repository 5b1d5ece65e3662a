use Rattle.std.proofs.Common.{◌≡◌, ◌<◌, ◌∙◌, ap, length}
use Rattle.std.proofs.lemmas.List.{get_or_read}
use Rattle.book_model.specs.Pending.{first}
use Rattle.book_parts.specs.Line.{LineState, to_do, with_issue}
use Rattle.book_parts.specs.Works.{work_at, no_work}
use Rattle.book_parts.proofs.LineLaws.{has-work, issues-word}
use Rattle.book_parts.proofs.line.LineWork.issue.Goals as goal

pub returns-clause-issued : goal.returns-clause-issued
returns-clause-issued c =
    let items = c.self.inside.works.items in
    let older = c.self.inside.older in
    let newer = c.self.inside.newer in
    let k = c.args.slave in
    let inside : k < length items = has-work items older newer c.args.self.now k c.self.view_is c.requires.slave in
    let read : c.index_mut.result.now ≡ work_at items k = get_or_read items k c.index_mut.result.now inside c.index_mut.ensures.value no_work in
    issues-word items older newer k c.index_mut.result.now c.issue.new.work c.self.invariant.each inside read c.issue.ensures.issued
    ∙ ap (λ (l : LineState). with_issue l k (first (to_do l k))) c.self.view_is
