use Rattle.std.proofs.Common.{◌∙◌, sym, ap}
use Rattle.book_model.specs.DiskSteps.{can_retire}
use Rattle.book_core.proofs.BegunLaws.{retire-is}
use Rattle.book_core.proofs.book.Core.can_retire.Goals as goal

pub returns-then-is_any : goal.returns-then-is_any
returns-then-is_any c =
    c.is_settled.ensures ∙ retire-is c.self.inside c.self.invariant (sym c.if-is_any.ensures) ∙ ap can_retire c.self.view_is
