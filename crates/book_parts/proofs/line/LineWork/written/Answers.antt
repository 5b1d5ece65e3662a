use Rattle.std.proofs.Common.{◌≡◌, ◌<◌, ◌∙◌, ap, length}
use Rattle.std.proofs.lemmas.List.{get_or_read}
use Rattle.book_parts.specs.Line.{LineState, with_written}
use Rattle.book_parts.specs.Works.{work_at, no_work}
use Rattle.book_parts.proofs.LineLaws.{has-work, writes-word}
use Rattle.book_parts.proofs.line.LineWork.written.Goals as goal

pub returns : goal.returns
returns c =
    let items = c.self.inside.works.items in
    let older = c.self.inside.older in
    let newer = c.self.inside.newer in
    let k = c.args.slave in
    let inside : k < length items = has-work items older newer c.args.self.now k c.self.view_is c.requires.slave in
    let read : c.index_mut.result.now ≡ work_at items k = get_or_read items k c.index_mut.result.now inside c.index_mut.ensures.value no_work in
    writes-word items older newer k c.args.word c.args.value c.index_mut.result.now c.word_is_written.new.work inside read c.word_is_written.ensures
    ∙ ap (λ (l : LineState). with_written l k c.args.word c.args.value) c.self.view_is
