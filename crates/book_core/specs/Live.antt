-- A batch goes live.
use Rattle.std.specs.Prelude.{List}
use Rattle.jrn_format.specs.declared.journal.Entry.{Entry}
use Rattle.jrn_format.specs.Halves.{Place, InOlder, InNewer, with_batch, batch_in}
use Rattle.book_parts.specs.Line.{LineState, with_older, with_newer}
use Rattle.book_parts.specs.Room.{Room}

-- The line once a batch with these entries is live at that place: its words are to be written.
abbrev pub joined : Place → LineState → List Entry → LineState
joined InOlder line entries = with_older line entries
joined InNewer line entries = with_newer line entries

-- The journal's halves once a batch with these entries is live at that place.
abbrev pub with_live : Place → Room → List Entry → Room
with_live place area entries = record area { halves = with_batch area.halves place (batch_in area.halves place entries) }
