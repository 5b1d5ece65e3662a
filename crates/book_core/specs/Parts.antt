-- The book that the parts of the running code stand for.
use Rattle.std.specs.Prelude.{List, Option, Some, None, if◌then◌else◌}
use Rattle.jrn_format.specs.declared.journal.Entry.{Entry}
use Rattle.book_model.specs.Book as book
use Rattle.book_model.specs.Book.{Book, Doing}
use Rattle.book_model.specs.Cells.{is_any}
use Rattle.jrn_format.specs.Halves.{Place, place_of}
use Rattle.book_parts.specs.Spot.{as_place}
use Rattle.book_parts.specs.Ledger.{appended}
use Rattle.book_core.specs.declared.step.Step.{Step}
use Rattle.book_core.specs.declared.step.Step.TheVariants.{Resting, Payload, PayloadSync, OpenGate, OpenSync, CloseGate, CloseSync, FarGate, Mark, MarkSync, Version, VersionSync}
use Rattle.book_core.specs.declared.book.Core.TheInside.{Inside}

-- What the book is doing with the disk at this step, with these entries being appended.
abbrev pub doing_of : List Entry → Step → Doing
doing_of entries Resting = book.Resting
doing_of entries (Payload spot) = book.Payload (as_place spot) entries
doing_of entries (PayloadSync spot) = book.PayloadSync (as_place spot) entries
doing_of entries (OpenGate spot) = book.OpenGate (as_place spot) entries
doing_of entries (OpenSync spot) = book.OpenSync (as_place spot) entries
doing_of entries CloseGate = book.CloseGate
doing_of entries CloseSync = book.CloseSync
doing_of entries FarGate = book.FarGate
doing_of entries Mark = book.Mark
doing_of entries MarkSync = book.MarkSync
doing_of entries Version = book.Version
doing_of entries VersionSync = book.VersionSync

-- The book that the parts stand for.
abbrev pub book_of : Inside → Book
book_of core = record {
  words = core.words.value;
  found = core.found;
  capacity = core.area.capacity;
  form = core.area.form;
  halves = core.area.halves;
  doing = doing_of (appended core.ledger) core.step;
  is_handed_out = core.is_handed_out;
  accepted = core.ledger.accepted;
  durable = core.ledger.durable;
  slaves = core.work.slaves;
  is_finished = core.is_finished;
  is_migrating = core.is_migrating;
  fault = core.fault;
}

-- The entries of the batch that is written next: those that are being appended, else the queue.
abbrev pub next_entries : Book → List Entry
next_entries core = entries (book.appended core.doing)
  where
    entries : Option (Place × List Entry) → List Entry
    entries (Some a) = a.1
    entries None = book.queued core

-- Where the queue goes as one batch; None if it is empty, or no half has room.
abbrev pub next_place : Book → Option Place
next_place core = if is_any (book.queued core) then place_of (book.room core) core.halves (book.queued core) else None
