use Rattle.std.proofs.Common.{◌≤◌, ap, subst, arith, length}
use Rattle.book_model.specs.Book.{Book}
use Rattle.book_model.specs.Reading.{applied}
use Rattle.book_core.proofs.ShownLaws.{applied-accepted}
use Rattle.book_core.proofs.book.Core.plan.Goals as goal

pub bring_up-requires-clause-most : goal.bring_up-requires-clause-most
bring_up-requires-clause-most c =
    let accepted = c.self.inside.ledger.accepted in
    let few : applied c.args.self.now ≤ length accepted = subst (λ (b : Book). applied b ≤ length accepted) c.self.view_is (applied-accepted c.self.inside c.self.invariant) in
    omega (arith, c.applied-prefix.ensures, ap length c.accepted.ensures.commands, few)
