use Rattle.std.proofs.Common.{◌∙◌, ap}
use Rattle.book_core.specs.Settled.{is_settled}
use Rattle.book_core.proofs.SettledLaws.{settled-book, none-from-some}
use Rattle.book_core.proofs.book.Core.is_settled.Goals as goal

pub returns : goal.returns
returns c =
    let core = c.self.inside in
    none-from-some c.unsettled.result c.is_none.result c.is_none.ensures
    ∙ settled-book core.words.value core.found core.ledger core.work c.self.invariant.base c.self.invariant.latest c.unsettled.ensures.owed c.unsettled.result c.unsettled.ensures.number
    ∙ ap is_settled c.self.view_is
