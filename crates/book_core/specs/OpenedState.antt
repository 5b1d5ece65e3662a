-- The open takes in the live batches of the journal.
use Rattle.std.specs.Prelude.{◌≡◌, ℕ, List, [], ◌++◌, map}
use Rattle.std.specs.List.{All}
use Rattle.jrn_format.specs.declared.journal.Entry.{Entry}
use Rattle.jrn_format.specs.declared.journal.Batch.{Batch}
use Rattle.jrn_format.specs.Live.{halves_in}
use Rattle.book_model.specs.Entries.{runs_of, entries_of, live_runs}
use Rattle.book_model.specs.Open.{opened_slave, owing_slaves}
use Rattle.book_parts.specs.Line.{LineState}
use Rattle.book_parts.specs.declared.spot.Spot.{Spot}
use Rattle.book_parts.specs.declared.spot.Spot.TheVariants.{InOlder, InNewer}
use Rattle.book_core.specs.Stands.{as_found}

-- Each live entry has the number 0: the entries of the line were all found at the open.
pub record AreFound (line : LineState) : Type 0 where
  pub older : All (λ (e : Entry). e.number ≡ 0) line.older
  pub newer : All (λ (e : Entry). e.number ≡ 0) line.newer

-- Of entries that go live at one place, those that go into the older half.
abbrev pub older_part : Spot → List Entry → List Entry
older_part InOlder entries = entries
older_part InNewer entries = []

-- Of entries that go live at one place, those that go into the newer half.
abbrev pub newer_part : Spot → List Entry → List Entry
newer_part InOlder entries = []
newer_part InNewer entries = entries

-- The entries have gone live at that place. The reserved memory may differ.
pub record Joined (spot : Spot) (entries : List Entry) (old new : LineState) : Type 0 where
  pub slaves : new.slaves ≡ owing_slaves (runs_of entries) 0 old.slaves
  pub older : new.older ≡ old.older ++ older_part spot entries
  pub newer : new.newer ≡ old.newer ++ newer_part spot entries

-- The batches have gone live, each in its half.
pub record TakenUp (batches : List Batch) (old new : LineState) : Type 0 where
  pub slaves : new.slaves ≡ owing_slaves (live_runs batches) 0 old.slaves
  pub older : new.older ≡ old.older ++ map as_found (entries_of (halves_in batches).older)
  pub newer : new.newer ≡ old.newer ++ map as_found (entries_of (halves_in batches).newer)

-- The line with its words as read, once the live batches have gone live in it.
pub record IsTaken (words : List (List ℕ)) (batches : List Batch) (work : LineState) : Type 0 where
  pub slaves : work.slaves ≡ owing_slaves (live_runs batches) 0 (map opened_slave words)
  pub older : work.older ≡ map as_found (entries_of (halves_in batches).older)
  pub newer : work.newer ≡ map as_found (entries_of (halves_in batches).newer)
