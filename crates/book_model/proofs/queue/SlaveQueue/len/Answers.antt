use Rattle.std.proofs.Common.{◌∙◌, ap, sym, length}
use Rattle.std.proofs.lemmas.List.{length-map}
use Rattle.book_model.specs.Pending.{Pending}
use Rattle.book_model.specs.Queue.{pair_of}
use Rattle.book_model.proofs.queue.SlaveQueue.len.Goals as goal

pub returns : goal.returns
returns c =
    c.len.ensures ∙ c.self.inside.namings.ok.0 ∙ sym (length-map c.self.inside.namings.items pair_of) ∙ ap (λ (p : Pending). length p.live) c.self.view_is
