use Rattle.std.proofs.Common.{◌<◌, Some, length, sym, subst}
use Rattle.book_model.specs.Book.{Book, NoOperation, slave_at}
use Rattle.book_core.specs.Parts.{book_of}
use Rattle.book_core.specs.Stands.{live_for, named_since}
use Rattle.book_core.proofs.SlaveLaws.{operation-given_up}
use Rattle.book_core.proofs.WorkLaws.{operation-stands}
use Rattle.book_core.proofs.book.Core.give_up.Goals as goal

pub invariant_of-self : goal.invariant_of-self
invariant_of-self c =
    let core = c.self.inside in
    let i = c.args.slave in
    let within : i < length core.work.slaves = subst (λ (b : Book). i < length b.slaves) (sym c.self.view_is) c.requires in
    rw (c.set_operation.ensures, c.from.ensures)
    (operation-stands core.words.value core.found core.area core.step core.ledger core.work core.shown core.fault (Some c.unwrap_or.result) i NoOperation (λ none. absurd (cc none)) within
    (operation-given_up (named_since core.found core.ledger i) (live_for core.work i) core.fault c.unwrap_or.result (slave_at (book_of core) i) (c.self.invariant.operations i within)) c.self.invariant)
