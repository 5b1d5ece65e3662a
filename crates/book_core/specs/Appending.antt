-- What is appended next.
use Rattle.std.specs.Prelude.{◌≡◌, List, length, take, drop, Some}
use Rattle.jrn_format.specs.declared.journal.Entry.{Entry}
use Rattle.jrn_format.specs.Halves.{Place}
use Rattle.book_model.specs.Book.{Book, own, appended}

-- If entries are being appended, they are those of the accepted commands right after the durable ones.
abbrev pub AppendsNext : Book → Type 0
AppendsNext book = (place : Place) (entries : List Entry) → appended book.doing ≡ Some (place, entries)
    → take (length entries) (drop book.durable (own book)) ≡ entries
