use Rattle.std.proofs.Common.{◌≡◌, ◌<◌, ◌≤◌, ℕ, length, sym, ◌∙◌, ap, subst, arith}
use Rattle.book_model.specs.Cells.{since, cell_of}
use Rattle.book_model.specs.Book.{Book, NoOperation, slave_at, IsAbout}
use Rattle.book_core.specs.Parts.{book_of}
use Rattle.book_core.specs.Stands.{live_for, named_since}
use Rattle.book_core.proofs.SlaveLaws.{operation-again}
use Rattle.book_core.proofs.WorkLaws.{operation-stands}
use Rattle.book_core.proofs.book.Core.again.Goals as goal

pub invariant_of-self : goal.invariant_of-self
invariant_of-self c =
    let core = c.self.inside in
    let i = c.args.slave in
    let s = slave_at (book_of core) i in
    let within : i < length core.work.slaves = subst (λ (b : Book). i < length b.slaves) (sym c.self.view_is) c.requires.slave in
    let about : IsAbout s.operation c.args.word = subst (λ (b : Book). IsAbout (slave_at b i).operation c.args.word) (sym c.self.view_is) c.requires.about in
    let read : c.issues.result ≡ since (cell_of s.cells c.args.word).known = c.issues.ensures ∙ ap (λ (n : ℕ). since (cell_of (slave_at (book_of core) n).cells c.args.word).known) c.from.ensures in
    let few : since (cell_of s.cells c.args.word).known ≤ 2 = omega (arith, read) in
    rw (c.set_operation.ensures, c.from-else-issues-ge-MOST_ISSUES.ensures)
    (operation-stands core.words.value core.found core.area core.step core.ledger core.work core.shown core.fault core.fault i NoOperation (λ none. none) within
    (operation-again (named_since core.found core.ledger i) (live_for core.work i) core.fault s c.args.word about few (c.self.invariant.operations i within)) c.self.invariant)
