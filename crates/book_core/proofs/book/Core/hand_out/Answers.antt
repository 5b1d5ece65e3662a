use Rattle.std.proofs.Common.{◌≡◌, sym, subst}
use Rattle.book_model.specs.Book.{Book}
use Rattle.book_model.specs.DiskSteps.{doing_next}
use Rattle.book_core.specs.Parts.{doing_of, next_entries}
use Rattle.book_core.proofs.BegunLaws.{step-stands}
use Rattle.book_core.proofs.book.Core.hand_out.Goals as goal

pub invariant_of-self : goal.invariant_of-self
invariant_of-self c =
    step-stands c.self.inside c.args.step c.requires.other
    (subst (λ (b : Book). doing_of (next_entries b) c.args.step ≡ doing_next b b.doing) (sym c.self.view_is) c.requires.next.doing) c.self.invariant
