use Rattle.std.proofs.Common.{◌∙◌, ap}
use Rattle.book_parts.specs.Ledger.{Ledger}
use Rattle.book_parts.specs.Stands.{ledger_of}
use Rattle.book_parts.proofs.StandLaws.{stands-begun}
use Rattle.book_parts.proofs.ledger.Ledger.begin.Goals as goal

pub invariant_of-self : goal.invariant_of-self
invariant_of-self c =
    let l = c.self.inside in
    let ledger = ledger_of l.base.value l.accepted.items l.durable l.begun.items in
    rw (c.replace.ensures.value, c.replace.ensures.after, c.new.ensures.items, c.replace-self-inside.ensures.value, c.replace-self-inside.ensures.after)
    (stands-begun ledger l.contents l.layout l.begun.items l.queue.items l.begun_bytes l.queue_bytes c.self.invariant (ap (λ (x : Ledger). x.begun) c.self.view_is ∙ c.requires))
