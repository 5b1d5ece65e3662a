-- A station on one thread, as contracts see it: its book, and the site on which the book's actions are carried out.
use Rattle.std.specs.Prelude.{◌≡◌, length, IsTrue}
use Rattle.sii_edit.specs.Fitting.{PlantFits}
use Rattle.site_core.specs.Line.{Line}
use Rattle.site_core.specs.State.{Seen}
use Rattle.esc_rom.specs.Owned.{OwnsAll}
use Rattle.book_model.specs.Book.{Book, contents_of}
use Rattle.site_journal.specs.Ready.{IsReady}

-- The book, what the site is made of, and the site's state and past.
pub record Station : Type 0 where
  pub book : Book
  pub line : Line
  pub seen : Seen

-- The station of these three.
abbrev pub station : Book → Line → Seen → Station
station book line seen = record { book = book; line = line; seen = seen }

-- The invariant of a station: the site has a disk and all slaves, the book has as many slaves as the line, its contents are words of
-- 16 bits, and the book's next actions can be carried out on the site.
pub record Stands (s : Station) : Type 0 where
  pub disk : IsTrue s.line.has_disk
  pub owned : OwnsAll s.line
  pub slaves : length s.book.words ≡ length s.line.sizes
  pub words : PlantFits (contents_of s.book)
  pub ready : IsReady s.book s.seen
