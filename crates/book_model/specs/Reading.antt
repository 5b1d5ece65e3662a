-- What a book reports: its settled commands, the bytes that are live, and its status.
use Rattle.std.specs.Prelude.{ℕ, suc, ◌+◌, ◌-◌, Bool, true, false, ◌&&◌, List, [], ◌∷◌, ◌++◌, length, take, if◌then◌else◌}
use Rattle.sii_words.specs.declared.run.Run.{Run}
use Rattle.sii_edit.specs.Fold.{contents_after}
use Rattle.jrn_format.specs.declared.journal.Entry.{Entry}
use Rattle.jrn_format.specs.declared.journal.Form.{Form}
use Rattle.jrn_format.specs.declared.journal.Form.TheVariants.{One, Two, Moving}
use Rattle.jrn_format.specs.declared.journal.Spelling.{Spelling}
use Rattle.jrn_format.specs.declared.journal.Spelling.TheVariants.{Plain, WithGeneration}
use Rattle.jrn_format.specs.Area.{spelt_batches}
use Rattle.book_model.specs.declared.status.Status.{Status}
use Rattle.book_model.specs.Cells.{Cell}
use Rattle.book_model.specs.Pending.{namings_settled}
use Rattle.jrn_format.specs.Halves.{live}
use Rattle.book_model.specs.Entries.{runs_of, namings}
use Rattle.book_model.specs.Book.{Book, base_of, own, all_cells}

-- The runs are settled for the slaves from number `slave` on.
abbrev pub settled_from : ℕ → List (List Cell) → (after runs : List Run) → Bool
settled_from slave [] after runs = true
settled_from slave (cells ∷ others) after runs =
    namings_settled cells (namings after slave) (namings runs slave) && settled_from (suc slave) others after runs

-- The runs are settled: each of their words is owed no more values than the later runs `after` give it.
abbrev pub runs_settled : List (List Cell) → (after runs : List Run) → Bool
runs_settled cells after runs = settled_from 0 cells after runs

-- The length of the longest settled prefix of entries.
abbrev pub settled_prefix : List (List Cell) → List Entry → ℕ
settled_prefix cells [] = 0
settled_prefix cells (e ∷ es) = if runs_settled cells (runs_of es) e.runs then suc (settled_prefix cells es) else 0

-- All entries that were live at the open or have become live since.
abbrev pub all_entries : Book → List Entry
all_entries book = book.found ++ take book.durable (own book)

-- The length of the longest settled prefix of the accepted commands; 0 until all entries found at the open are settled.
abbrev pub applied : Book → ℕ
applied book = settled_prefix (all_cells book.slaves) (all_entries book) - length book.found

-- The contents after that prefix. The plan is their process image.
abbrev pub planned : Book → List (List ℕ)
planned book = contents_after (base_of book) book.accepted (applied book)

-- The encoding of the batches of a journal of this form.
abbrev pub spelling_of : Form → Spelling
spelling_of One = Plain
spelling_of Two = WithGeneration
spelling_of Moving = WithGeneration

-- The length of the live batches, in bytes.
abbrev pub live_bytes : Book → ℕ
live_bytes book = length (spelt_batches (spelling_of book.form) (live book.halves))

-- The status that a book reports.
abbrev pub status : Book → Status
status book = record { accepted = length book.accepted; durable = book.durable; settled = applied book; live_bytes = live_bytes book }
