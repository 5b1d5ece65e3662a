use Rattle.std.proofs.Common.{◌∙◌, List, ◌++◌, length, map, ap, subst}
use Rattle.book_model.specs.Book.{all_cells}
use Rattle.book_parts.specs.declared.work.SlaveWork.{SlaveWork}
use Rattle.book_parts.specs.Line.{LineState, first_unsettled, OweNoMore}
use Rattle.book_parts.specs.Works.{unsettled_of, least, OweLive}
use Rattle.book_parts.proofs.UnsettledLaws.{unsettled-is, owe-no-more}
use Rattle.book_parts.proofs.line.LineWork.unsettled.Goals as goal

pub returns-clause-owed : goal.returns-clause-owed
returns-clause-owed c =
    let items = c.self.inside.works.items in
    let owe : OweLive items (length items) = subst (λ (l : List SlaveWork). OweLive l (length l)) c.deref.ensures.value c.least_unsettled.ensures.owed in
    subst (λ (l : LineState). OweNoMore l.slaves (l.older ++ l.newer)) c.self.view_is (owe-no-more items c.self.inside.older c.self.inside.newer c.self.invariant owe)

pub returns-clause-number : goal.returns-clause-number
returns-clause-number c =
    c.least_unsettled.ensures.number ∙ ap (λ (l : List SlaveWork). least (map unsettled_of l)) c.deref.ensures.value
    ∙ unsettled-is c.self.inside.works.items c.self.inside.older c.self.inside.newer c.self.invariant
    ∙ ap (λ (l : LineState). first_unsettled (all_cells l.slaves) (l.older ++ l.newer)) c.self.view_is
