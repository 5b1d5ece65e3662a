use Rattle.std.proofs.Common.{◌≡◌, ◌<◌, ◌∙◌, ap, length}
use Rattle.std.proofs.lemmas.List.{get_or_read}
use Rattle.book_parts.specs.Line.{LineState, slave_at, with_slave}
use Rattle.book_parts.specs.Works.{work_at, no_work, operation_of}
use Rattle.book_parts.proofs.LineLaws.{has-work, sets-operation}
use Rattle.book_parts.proofs.line.LineWork.set_operation.Goals as goal

pub returns : goal.returns
returns c =
    let items = c.self.inside.works.items in
    let older = c.self.inside.older in
    let newer = c.self.inside.newer in
    let k = c.args.slave in
    let inside : k < length items = has-work items older newer c.args.self.now k c.self.view_is c.requires in
    let read : c.index_mut.result.now ≡ work_at items k = get_or_read items k c.index_mut.result.now inside c.index_mut.ensures.value no_work in
    sets-operation items older newer k c.args.operation c.index_mut.result.now inside read
    ∙ ap (λ (l : LineState). with_slave l k (record (slave_at l k) { operation = operation_of c.args.operation })) c.self.view_is
