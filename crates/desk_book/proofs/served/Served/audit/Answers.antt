use Rattle.std.proofs.Common.{◌∙◌, sym, ap}
use Rattle.desk_book.specs.Serving.{Serving}
use Rattle.desk_book.proofs.CountLaws.{all-counted}
use Rattle.desk_book.proofs.served.Served.audit.Goals as goal

pub invariant_of-self : goal.invariant_of-self
invariant_of-self g c = rw (c.audit.ensures.ticket_total, c.audit.ensures.refusal_total) c.self.invariant

pub returns-clause-counted : goal.returns-clause-counted
returns-clause-counted g c =
    let s = c.self.inside in
    let i = c.self.invariant in
    λ all.
    let given = all ∙ sym (ap (λ (v : Serving). v.pool.given) c.self.view_is) in
    all-counted g.T.Tickets.opened s.core s.history c.args.self.now.calls c.args.shares.now s.tickets.total s.refusals.total (ap (λ (v : Serving). v.calls) c.self.view_is) i.0 i.1 (c.audit.ensures.tickets given) (c.audit.ensures.refusals given)
