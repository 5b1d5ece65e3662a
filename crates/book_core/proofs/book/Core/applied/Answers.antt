use Rattle.std.proofs.Common.{◌∙◌, ap, arith, Some, None}
use Rattle.book_model.specs.Reading.{applied}
use Rattle.book_core.proofs.AppliedLaws.{applied-book}
use Rattle.book_core.proofs.book.Core.applied.Goals as goal

pub returns-in-Some : goal.returns-in-Some
returns-in-Some c =
    let core = c.self.inside in
    applied-book core.words.value core.found core.ledger core.work c.self.invariant.base c.self.invariant.latest c.unsettled.ensures.owed (omega (arith, c.self.invariant.durable)) (Some c.in-Some.number) c.in-Some.ensures.number
    ∙ ap applied c.self.view_is

pub returns-in-None : goal.returns-in-None
returns-in-None c =
    let core = c.self.inside in
    c.durable.ensures.durable
    ∙ applied-book core.words.value core.found core.ledger core.work c.self.invariant.base c.self.invariant.latest c.unsettled.ensures.owed (omega (arith, c.self.invariant.durable)) None c.in-None.ensures.number
    ∙ ap applied c.self.view_is
