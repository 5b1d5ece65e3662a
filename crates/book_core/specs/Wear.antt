-- How often words are issued to the slaves.
use Rattle.std.specs.Prelude.{ℕ, ◌*◌, ◌<◌, ◌≤◌, ◌++◌, length}
use Rattle.book_model.specs.Book.{Book, own, slave_at}
use Rattle.book_model.specs.Worn.{named_for}

-- Since the open each slave was issued at most three words for each word that the entries found then and the accepted commands name
-- for it.
abbrev pub IssuesFew : Book → Type 0
IssuesFew book = (i : ℕ) → i < length book.slaves → (slave_at book i).issues ≤ 3 * named_for (book.found ++ own book) i
