-- Whether everything that has been live is settled.
use Rattle.std.specs.Prelude.{◌==◌, Bool, length}
use Rattle.book_model.specs.Book.{Book, all_cells}
use Rattle.book_model.specs.Reading.{settled_prefix, all_entries}

-- All entries are settled: those found at the open, and those that have become durable since.
abbrev pub is_settled : Book → Bool
is_settled book = settled_prefix (all_cells book.slaves) (all_entries book) == length (all_entries book)
