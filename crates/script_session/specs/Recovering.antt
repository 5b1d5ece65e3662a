-- A recovery by threads: what the open found, what was redone at a desk to which no command is submitted, and what a recovery after it did.
use Rattle.std.specs.Prelude.{◌≡◌, ◌+◌, ℕ, [], true, Ok}
use Rattle.jrn_format.specs.declared.journal.Journal.{Journal}
use Rattle.site_core.specs.State.{Seen, State}
use Rattle.site_core.specs.Passes.{LeavesOnly}
use Rattle.site_shadow.specs.Site.{SiteValue}
use Rattle.book_model.specs.Machine.{Machine}
use Rattle.book_model.specs.Keeping.{IsOfBook}
use Rattle.book_model.specs.Opening.{IsFound, book_on}
use Rattle.site_journal.specs.Left.{words_issued}
use Rattle.station_alone.specs.Station.{Station, Stands}
use Rattle.station_alone.specs.Keeping.{KeptFor}
use Rattle.station_alone.specs.Opening.{BeginsSession, OpensCounted}
use Rattle.station_alone.specs.Recovery.{CountsRecovered}
use Rattle.station_alone.specs.declared.opening.Found.{Found}
use Rattle.station_alone.specs.declared.recovery.Recovered.{Recovered}
use Rattle.desk_book.specs.Calls.{replayed}
use Rattle.station_line.specs.declared.answered.Answered.TheVariants.{AllAccepted}
use Rattle.script_session.specs.AtDesk.{IsServedAtDesk}
use Rattle.script_session.specs.Parts.{IsCount}

-- The station was just opened on what its site holds: the disk is synced and holds this journal, and no slave is busy.
pub record IsOpenedHere (opened : Station) : Type 0 where
  pub journal : Journal
  pub found : IsFound journal opened.seen.state
  pub book : opened.book ≡ book_on opened.seen.state journal

-- For each machine that the book is to its callers: if a power cut could leave only what is kept for it, so it can now.
abbrev pub KeepsLine : Station → State → Type 0
KeepsLine opened state = (machine : Machine) → IsOfBook opened.book machine → LeavesOnly (KeptFor machine) opened.seen.state
    → LeavesOnly (KeptFor machine) state

-- The station stands as it was opened, and for each machine that was kept before, a session of it has begun.
pub record BeginsSessions (before : Seen) (opened : Station) : Type 0 where
  pub here : IsOpenedHere opened
  pub stands : Stands opened
  pub begins : BeginsSession before opened

-- For each machine: if a power cut could leave only what is kept for it, so it can now.
abbrev pub StaysKept : Seen → Seen → Type 0
StaysKept before now = (machine : Machine) → LeavesOnly (KeptFor machine) before.state → LeavesOnly (KeptFor machine) now.state

-- ---- how it ends

-- The line of this station was taken apart, served at a desk to which no command was submitted, and put together again. The desk was
-- closed, so all is settled that was live. `words` is the number of words that the book has issued to its slaves.
pub record IsRedone (opened : Station) (words : ℕ) (site : SiteValue) : Type 0 where
  pub served : IsServedAtDesk opened [] true AllAccepted (Ok tt) site
  pub counts : IsCount (words_issued (replayed opened.book served.closes.calls).slaves) words
  pub keeps : KeepsLine opened site.seen.state

-- ---- the recovery after it

-- Batches and commands are those that the open found. The words are those that were issued at the desk and those of the recovery after it.
pub record CountsAll (found : Found) (sent : ℕ) (after all : Recovered) : Type 0 where
  pub batches : all.batches ≡ found.batches
  pub commands : all.commands ≡ found.commands
  pub words : IsCount (sent + after.words) all.words

-- The line of this station was redone at a desk, and recovered after it.
pub record RedoesOpened (opened : Station) (found : Found) (all : Recovered) (s : Station) : Type 0 where
  pub left : SiteValue
  pub sent : ℕ
  pub redone : IsRedone opened sent left
  pub after : Recovered
  pub counts : CountsRecovered left.line.sizes left.seen after s
  pub counts_all : CountsAll found sent after all

-- A station was opened on this site, and then its line was redone and recovered.
pub record RecoversByThreads (site : SiteValue) (all : Recovered) (s : Station) : Type 0 where
  pub opened : Station
  pub found : Found
  pub opens : OpensCounted site.line site.seen opened found
  pub redoes : RedoesOpened opened found all s
