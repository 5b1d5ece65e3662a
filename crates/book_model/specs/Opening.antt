-- The disk and the slaves as found before a station is opened on them.
use Rattle.std.specs.Prelude.{◌≡◌, ℕ, ◌≤◌, List, [], length, map}
use Rattle.std.specs.Int.{w32}
use Rattle.std.specs.List.{AllByRecursion}
use Rattle.jrn_format.specs.declared.journal.Journal.{Journal}
use Rattle.jrn_format.specs.Header.{field_at}
use Rattle.jrn_format.specs.Journal.{IsJournal}
use Rattle.esc_model.specs.SlaveHalf.{SlaveHalf}
use Rattle.esc_model.specs.WordAccess.{IsIdle}
use Rattle.site_core.specs.Disk.{Disk}
use Rattle.site_core.specs.State.{State}
use Rattle.book_model.specs.Entries.{sizes_of}
use Rattle.book_model.specs.Book.{Book}
use Rattle.book_model.specs.Open.{open_book}

-- The length of the journal's area, in bytes, as its header states it.
abbrev pub capacity_in : List ℕ → ℕ
capacity_in bytes = field_at w32 4 bytes

-- The words of all slaves.
abbrev pub words_in : List SlaveHalf → List (List ℕ)
words_in halves = map (λ (half : SlaveHalf). half.words) halves

-- All of the disk is synced: a power cut leaves just the bytes that a read gives.
pub record IsAllSynced (disk : Disk) : Type 0 where
  pub all : disk.unsynced ≡ []
  pub entire : length disk.bytes ≤ disk.synced_length

-- The disk is synced and holds this journal of the line, and no slave is busy.
pub record IsFound (journal : Journal) (state : State) : Type 0 where
  pub is_journal : IsJournal state.disk.bytes (sizes_of (words_in state.halves)) journal
  pub synced : IsAllSynced state.disk
  pub idle : AllByRecursion IsIdle state.halves

-- The book that is opened on them.
abbrev pub book_on : State → Journal → Book
book_on state journal = open_book (words_in state.halves) (capacity_in state.disk.bytes) journal
