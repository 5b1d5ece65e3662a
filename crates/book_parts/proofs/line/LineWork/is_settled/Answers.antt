use Rattle.std.proofs.Common.{◌∙◌, ap}
use Rattle.book_parts.specs.Line.{is_settled}
use Rattle.book_parts.specs.Works.{all_older_settled}
use Rattle.book_parts.proofs.SettledLaws.{settled-is}
use Rattle.book_parts.proofs.line.LineWork.is_settled.Goals as goal

pub returns : goal.returns
returns c =
    c.all_settled.ensures ∙ ap all_older_settled c.deref.ensures.value
    ∙ settled-is c.self.inside.works.items c.self.inside.older c.self.inside.newer c.self.invariant.each
    ∙ ap is_settled c.self.view_is
