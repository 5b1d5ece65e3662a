use Rattle.std.proofs.Common.{refl, ap}
use Rattle.book_model.specs.Book.{Book}
use Rattle.desk_book.specs.declared.call.Call.TheVariants.{Finished}
use Rattle.desk_book.proofs.CallLaws.{is-replayed-more, are-counted-same, are-logs-same}
use Rattle.desk_book.proofs.served.Served.finish.Goals as goal

pub invariant_of-self : goal.invariant_of-self
invariant_of-self g c =
    let s = c.self.inside in
    let i = c.self.invariant in
    rw c.note.ensures (
      is-replayed-more g.T.Tickets.opened s.core c.finish.new.self s.history Finished i.0 tt c.finish.ensures,
      are-counted-same s.core c.finish.new.self s.history Finished s.tickets.total s.refusals.total i.1 (ap (λ (b : Book). b.accepted) c.finish.ensures) refl,
      i.2,
      are-logs-same s.history Finished s.disk.entries s.slaves.items s.cycle.entries i.3 refl (λ n log. refl) refl,
      i.4,
    )
