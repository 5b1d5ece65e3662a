-- A station with everything settled that was found at the open or accepted since.
use Rattle.std.specs.Prelude.{◌≡◌, true, [], length}
use Rattle.site_core.specs.State.{Pair}
use Rattle.site_core.specs.Passes.{LeavesOnly}
use Rattle.jrn_format.specs.Halves.{live}
use Rattle.book_model.specs.Entries.{live_runs}
use Rattle.book_model.specs.Reading.{runs_settled}
use Rattle.book_model.specs.Book.{Book, all_cells, contents_of}
use Rattle.book_model.specs.Opening.{words_in}
use Rattle.station_alone.specs.Station.{Station}

-- All accepted commands are durable, and every word that a live batch names is in place. What is retired was settled before.
pub record HasSettled (book : Book) : Type 0 where
  pub durable : book.durable ≡ length book.accepted
  pub live : runs_settled (all_cells book.slaves) [] (live_runs (live book.halves)) ≡ true

-- A stop leaves the slaves with the contents after all accepted commands, and with no others.
abbrev pub HoldsContents : Station → Type 0
HoldsContents s = LeavesOnly (λ (pair : Pair). pair.words ≡ contents_of s.book) s.seen.state

-- Each slave reads as the contents after all accepted commands: its EEPROM holds these words.
abbrev pub ReadAsContents : Station → Type 0
ReadAsContents s = words_in s.seen.state.halves ≡ contents_of s.book
