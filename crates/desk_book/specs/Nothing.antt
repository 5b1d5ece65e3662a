-- A book of a line without slaves, for a type parameter that stands for no desk.
use Rattle.std.specs.Prelude.{[]}
use Rattle.jrn_format.specs.declared.journal.Form.TheVariants.{Two}
use Rattle.book_model.specs.Book.{Book}
use Rattle.book_model.specs.Open.{open_book}

-- no slaves, and nothing live in the journal
abbrev pub no_book : Book
no_book = open_book [] 0 (record { form = Two; batches = [] })
