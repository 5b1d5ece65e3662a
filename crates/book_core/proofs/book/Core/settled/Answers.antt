use Rattle.std.proofs.Common.{◌≡◌, ◌<◌, length, refl, sym, ◌∙◌, ap, subst}
use Rattle.book_model.specs.Book.{Book, Operation, Settling, slave_at, IsAbout}
use Rattle.book_core.specs.Parts.{book_of}
use Rattle.book_core.proofs.WorkLaws.{write-stands}
use Rattle.book_core.proofs.book.Core.settled.Goals as goal

pub written-requires-clause-word : goal.written-requires-clause-word
written-requires-clause-word c =
    let core = c.self.inside in
    let i = c.args.slave in
    let within : i < length core.work.slaves = subst (λ (b : Book). i < length b.slaves) (sym c.self.view_is) c.requires.slave in
    let is : (slave_at (book_of core) i).operation ≡ Settling c.args.word c.args.value c.requires.settling.0 = ap (λ (b : Book). (slave_at b i).operation) c.self.view_is ∙ c.requires.settling.1 in
    rw c.from.ensures ((c.self.invariant.operations i within).word c.args.word (subst (λ (e : Operation). IsAbout e c.args.word) (sym is) refl))

pub invariant_of-self : goal.invariant_of-self
invariant_of-self c =
    let core = c.self.inside in
    let i = c.args.slave in
    let within : i < length core.work.slaves = subst (λ (b : Book). i < length b.slaves) (sym c.self.view_is) c.requires.slave in
    let is : (slave_at (book_of core) i).operation ≡ Settling c.args.word c.args.value c.requires.settling.0 = ap (λ (b : Book). (slave_at b i).operation) c.self.view_is ∙ c.requires.settling.1 in
    rw (c.written.ensures, c.from.ensures)
    (write-stands core.words.value core.found core.area core.step core.ledger core.work core.shown core.fault i c.args.word c.args.value c.requires.settling.0 within is c.self.invariant)
