use Rattle.std.proofs.Common.{subst}
use Rattle.book_model.specs.Book.{Book}
use Rattle.book_core.specs.Appending.{AppendsNext}
use Rattle.book_core.proofs.LedgerLaws.{appends-next}
use Rattle.book_core.proofs.book.Core.accepted.Goals as goal

pub returns-clause-appending : goal.returns-clause-appending
returns-clause-appending c = subst (λ (b : Book). AppendsNext b) c.self.view_is (appends-next c.self.inside c.self.invariant)
