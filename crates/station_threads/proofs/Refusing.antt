-- What a share counts of a refusal.
use Rattle.std.proofs.Common.{◌≡◌, ◌⊎◌, inl, inr, true}
use Rattle.sii_edit.specs.declared.command.Command.{Command}
use Rattle.book_model.specs.declared.refusal.SubmitRefusal.{SubmitRefusal}
use Rattle.book_model.specs.Book.{Book}
use Rattle.desk_book.specs.Serving.{Serving, ShareCounts}
use Rattle.desk_book.specs.Submitting.{CountsRefusal, IsCounted, IsUncounted}

pub counts-refusal : (book : Book) (command : Command) (refusal : SubmitRefusal) (old : Serving) (had : ShareCounts) (new : Serving) (has : ShareCounts)
    → IsCounted book command refusal old had new has ⊎ IsUncounted refusal old had new has → CountsRefusal refusal had has
counts-refusal book command refusal old had new has (inl is) = inl (is.not_memory, is.counts)
counts-refusal book command refusal old had new has (inr is) = elim is.why [
  | inl memory ↦ inr (inl memory, is.counts)
  | inr full ↦ inr (inr full.0, is.counts)
]
