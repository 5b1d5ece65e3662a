use Rattle.std.proofs.Common.{◌≡◌, ◌∙◌, ℕ, List, ap}
use Rattle.sii_edit.specs.Fold.{contents}
use Rattle.book_model.specs.Book.{contents_of}
use Rattle.desk_book.specs.Calls.{replayed}
use Rattle.desk_book.specs.Serving.{Serving}
use Rattle.desk_book.proofs.BaseLaws.{base-replayed}
use Rattle.desk_book.proofs.served.Served.contents.Goals as goal

pub returns : goal.returns
returns g c =
    let opened = g.T.Tickets.opened in
    let calls = c.args.self.now.calls in
    let is : c.self.inside.core ≡ replayed opened calls = c.self.invariant.0.same ∙ ap (λ (s : Serving). replayed opened s.calls) c.self.view_is in
    c.contents.ensures ∙ ap contents_of is ∙ ap (λ (b : List (List ℕ)). contents b (replayed opened calls).accepted) (base-replayed opened calls)
