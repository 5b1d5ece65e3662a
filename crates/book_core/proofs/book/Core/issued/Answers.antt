use Rattle.std.proofs.Common.{◌≡◌, ◌<◌, length, sym, ◌∙◌, ap, subst}
use Rattle.book_model.specs.Book.{Book, Operation, Issuing, Unsettled, slave_at, IsAbout}
use Rattle.book_core.specs.Parts.{book_of}
use Rattle.book_core.specs.Stands.{IsOwed, live_for, named_since}
use Rattle.book_core.proofs.SlaveLaws.{operation-same}
use Rattle.book_core.proofs.WorkLaws.{operation-stands}
use Rattle.book_core.proofs.book.Core.issued.Goals as goal

pub invariant_of-self : goal.invariant_of-self
invariant_of-self c =
    let core = c.self.inside in
    let i = c.args.slave in
    let within : i < length core.work.slaves = subst (λ (b : Book). i < length b.slaves) (sym c.self.view_is) c.requires.slave in
    let is : (slave_at (book_of core) i).operation ≡ Issuing c.args.word c.args.value = ap (λ (b : Book). (slave_at b i).operation) c.self.view_is ∙ c.requires.issuing in
    rw (c.set_operation.ensures, c.from.ensures)
    (operation-stands core.words.value core.found core.area core.step core.ledger core.work core.shown core.fault core.fault i (Unsettled c.args.word c.args.value c.eq-taken.result) (λ none. none) within
    (operation-same (named_since core.found core.ledger i) (live_for core.work i) core.fault (slave_at (book_of core) i) (Unsettled c.args.word c.args.value c.eq-taken.result)
    (λ at about. subst (λ (e : Operation). IsAbout e at) is about) (λ at about. subst (λ (e : Operation). IsAbout e at) (sym is) about)
    (λ owed. subst (λ (e : Operation). IsOwed e (slave_at (book_of core) i).cells) is owed) (c.self.invariant.operations i within))
    c.self.invariant)
