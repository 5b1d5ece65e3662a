use Rattle.std.proofs.Common.{ap}
use Rattle.desk_book.specs.Serving.{Serving}
use Rattle.desk_book.proofs.CountLaws.{too-many-tickets, too-many-refusals}
use Rattle.desk_book.proofs.served.Served.shares_match.Goals as goal

pub returns-in_default : goal.returns-in_default
returns-in_default g c =
    let s = c.self.inside in
    let i = c.self.invariant in
    ((λ no. absurd cc), too-many-tickets g.T.Tickets.opened s.core s.history c.args.self.now.calls c.args.shares.now s.tickets.total s.refusals.total (ap (λ (v : Serving). v.calls) c.self.view_is) i.0 i.1 c.in_default.ensures.none)

pub returns-in_default-all_refusals : goal.returns-in_default-all_refusals
returns-in_default-all_refusals g c =
    let s = c.self.inside in
    let i = c.self.invariant in
    ((λ no. absurd cc), too-many-refusals g.T.Tickets.opened s.core s.history c.args.self.now.calls c.args.shares.now s.tickets.total s.refusals.total (ap (λ (v : Serving). v.calls) c.self.view_is) i.1 c.in_default-all_refusals.ensures.none)
