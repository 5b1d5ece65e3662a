-- How a book is opened on the words that were read and the journal that was scanned; also finish and migrate.
use Rattle.std.specs.Prelude.{ℕ, zero, suc, Bool, true, false, ◌||◌, List, [], ◌∷◌, map, None, if◌then◌else◌}
use Rattle.sii_words.specs.declared.run.Run.{Run}
use Rattle.jrn_format.specs.declared.journal.Journal.{Journal}
use Rattle.book_model.specs.Cells.{Cell, owing, opened}
use Rattle.book_model.specs.Entries.{entries_of, live_runs, values}
use Rattle.jrn_format.specs.Live.{halves_in}
use Rattle.book_model.specs.Book.{Slave, Book, Resting, NoOperation, is_closed, is_version_2}

-- The cells of a slave after a batch with these runs has become live, from word `at` on.
abbrev pub owing_words : List Run → ℕ → ℕ → List Cell → List Cell
owing_words runs slave at [] = []
owing_words runs slave at (cell ∷ cells) = owing cell (values runs slave at) ∷ owing_words runs slave (suc at) cells

-- The slaves after a batch with these runs has become live, from number `slave` on.
abbrev pub owing_slaves : List Run → ℕ → List Slave → List Slave
owing_slaves runs slave [] = []
owing_slaves runs slave (s ∷ slaves) = record s { cells = owing_words runs slave 0 s.cells } ∷ owing_slaves runs (suc slave) slaves

-- A slave whose words were just read, before any batch is live.
abbrev pub opened_slave : List ℕ → Slave
opened_slave words = record { cells = map opened words; operation = NoOperation; issues = 0 }

-- The book opened on these words and on a journal whose area has `capacity` bytes.
abbrev pub open_book : List (List ℕ) → ℕ → Journal → Book
open_book words capacity journal =
    record {
      words = words;
      found = entries_of journal.batches;
      capacity = capacity;
      form = journal.form;
      halves = halves_in journal.batches;
      doing = Resting;
      is_handed_out = false;
      accepted = [];
      durable = 0;
      slaves = owing_slaves (live_runs journal.batches) 0 (map opened_slave words);
      is_finished = false;
      is_migrating = false;
      fault = None;
    }

-- A finish: the book accepts no more commands.
abbrev pub finish : Book → Book
finish book = record book { is_finished = true }

-- Asks for a migration, which begins once nothing is live. It answers false, and changes nothing, if the book is closed or its journal
-- is of version 2.
abbrev pub migrate : Book → Bool × Book
migrate book = if is_closed book || is_version_2 book.form then (false, book) else (true, record book { is_migrating = true })
