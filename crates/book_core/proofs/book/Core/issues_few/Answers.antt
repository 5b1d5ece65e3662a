use Rattle.std.proofs.Common.{subst}
use Rattle.book_core.specs.Wear.{IssuesFew}
use Rattle.book_core.proofs.WearLaws.{few-issued}
use Rattle.book_core.proofs.book.Core.issues_few.Goals as goal

pub returns : goal.returns
returns c = subst IssuesFew c.self.view_is (few-issued c.self.inside c.self.invariant)
