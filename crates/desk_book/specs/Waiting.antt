-- What a submitter waits for.
use Rattle.std.specs.Prelude.{ℕ, Bool, not, ◌&&◌, nat_le, nat_lt, length, is_some}
use Rattle.book_model.specs.Book.{Book}

-- The command of this number was accepted and isn't durable yet, and the book has no fault.
abbrev pub is_pending : Book → ℕ → Bool
is_pending book number = not (is_some book.fault) && nat_le book.durable number && nat_lt number (length book.accepted)
