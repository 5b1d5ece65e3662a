-- A power cut while a desk is at work: each device is anywhere in the job that is out for it, or between two jobs.
use Rattle.std.specs.Prelude.{◌≡◌, ◌⊎◌, ℕ, ◌+◌, ◌<◌, ◌≤◌, Bool, false, List, [], ◌∷◌, ◌++◌, length, take, Some}
use Rattle.std.specs.Prelude.{slice_get, IsTrue}
use Rattle.sii_words.specs.Words.{bytes_of}
use Rattle.esc_model.specs.SlaveHalf.{SlaveHalf}
use Rattle.jrn_format.specs.declared.journal.Journal.{Journal}
use Rattle.site_core.specs.Disk.{Disk}
use Rattle.site_core.specs.State.{State, Seen, Pair, clock}
use Rattle.site_core.specs.Times.{Follows}
use Rattle.site_file.specs.declared.asking.LineFile.{LineFile}
use Rattle.site_file.specs.declared.asking.LineFile.TheVariants.{Journal as JournalFile, Image}
use Rattle.site_file.specs.declared.files.FileDevice.{FileDevice}
use Rattle.site_file.specs.declared.asking.Asked.{Asked}
use Rattle.site_file.specs.Files.{File, IsBytes}
use Rattle.site_file.specs.Held.{is_same}
use Rattle.site_file.specs.AllFiles.{AreLeftAfter, FilesFollow, calls_of}
use Rattle.book_model.specs.Book.{Book, base_of}
use Rattle.book_model.specs.Machine.{Machine, reopened, MayKeep}
use Rattle.book_model.specs.Machine as machines
use Rattle.book_model.specs.Opening.{book_on}
use Rattle.world_law.specs.Law.{KeptFor}
use Rattle.station_jobs.specs.declared.log.Assignment.{Assignment}
use Rattle.station_jobs.specs.Jobs.{DoneInTurn, MayEnd}
use Rattle.station_jobs.specs.Left.{LeftInProgress}
use Rattle.station_jobs.specs.Flushing.{DoesAction, LeftInAction}
use Rattle.station_jobs.specs.Working.{CallsSlave, LeftInCall}
use Rattle.desk_book.specs.declared.call.Call.{Call}
use Rattle.desk_book.specs.Calls.{AreAnswered, replayed}
use Rattle.desk_book.specs.Logs.{disk_log, rom_log}
use Rattle.desk_laws.specs.Joined.{IsOpenedOn, MayBeOut, served_by}

-- WHERE A DEVICE IS

-- The jobs of the log led the site on from `start`, one after another. All but the last one have returned and the site has not stopped; the last
-- one may be out.
pub record IsAt {J O : Type 0} (Does : J → O → Seen → Seen → Type 0) (log : List (Assignment J O)) (start : Seen) : Type 0 where
  pub done : List (Assignment J O)
  pub out : List (Assignment J O)
  pub log_is : log ≡ done ++ out
  pub may_be_out : MayBeOut out
  pub mid : Seen
  pub in_turn : DoneInTurn Does done start mid
  -- the site once the job that is out has come to its end, which may lie behind the cut
  pub next : Seen
  pub through : MayEnd Does out mid next

-- WHAT A CUT LEAVES

-- The disk may be left with these bytes: the actions that have returned are done, and the one that is out is in progress.
pub record DiskCut (calls : List Call) (old : Disk) (bytes : List ℕ) : Type 0 where
  pub start : Seen
  pub began : start.state.disk ≡ old
  pub at : IsAt DoesAction (disk_log calls) start
  pub pair : Pair
  pub left : LeftInProgress LeftInAction at.out at.mid.state pair
  pub is : pair.disk ≡ bytes

-- The same of a slave and its words.
pub record SlaveCut (calls : List Call) (slave : ℕ) (old : SlaveHalf) (words : List ℕ) : Type 0 where
  pub start : Seen
  pub began : slice_get start.state.halves slave ≡ Some old
  pub at : IsAt (CallsSlave slave) (rom_log slave calls) start
  pub pair : Pair
  pub left : LeftInProgress (LeftInCall slave) at.out at.mid.state pair
  pub is : slice_get pair.words slave ≡ Some words

-- The pair may be left so of the disk and each slave, at the same moment of the calls.
pub record AllCut (calls : List Call) (old : State) (pair : Pair) : Type 0 where
  pub disk : DiskCut calls old.disk pair.disk
  pub count : length pair.words ≡ length old.halves
  pub slaves : (slave : ℕ) (half : SlaveHalf) (words : List ℕ) → slice_get old.halves slave ≡ Some half
      → slice_get pair.words slave ≡ Some words → SlaveCut calls slave half words

-- The book was opened on the contents after a prefix of the machine's commands, with every acknowledged one in it; a new session began there.
-- The pair is recoverable for this session, with the book's commands and all durable ones acknowledged.
pub record IsKeptPair (machine : Machine) (book : Book) (pair : Pair) : Type 0 where
  pub k : ℕ
  pub may_keep : MayKeep machine k
  pub base : machines.base_of (reopened machine k) ≡ base_of book
  pub kept : KeptFor (served_by (reopened machine k) book) pair

abbrev pub CutIsKept : Type 0
CutIsKept = (machine : Machine) (journal : Journal) (old : State) (calls : List Call) (pair : Pair) → IsOpenedOn machine journal old calls
    → AreAnswered (book_on old journal) calls → AllCut calls old pair → IsKeptPair machine (replayed (book_on old journal) calls) pair

-- FILES

-- A power cut in the log of a device leaves these images: in a piece of it after the time `from`, up to the time `to`; or after the piece of
-- the time `from`, while no call on a file has failed.
pub data CutsLog {F : Type 0} {owned : LineFile → Bool} {begun : LineFile → File} {device : FileDevice F} {seen : Seen}
    (follows : FilesFollow 0 owned begun device seen) (from to : ℕ) (images : LineFile → List ℕ) : Type 0 where
  in_call : (time : ℕ) (piece : List Asked) → from < time → time ≤ to
      → slice_get (follows.pieces ++ follows.last ∷ []) time ≡ Some piece
      → AreLeftAfter (calls_of (take time (follows.pieces ++ follows.last ∷ []))) piece begun images → CutsLog follows from to images
  at_rest : (from < length follows.pieces) ⊎ ((device.has_failed ≡ false) × ¬ IsTrue seen.is_stopped × (from ≡ length follows.pieces))
      → AreLeftAfter (calls_of (take (from + 1) (follows.pieces ++ follows.last ∷ []))) [] begun images → CutsLog follows from to images

-- The disk's thread works on a site that owns the journal, whose file has followed it, and went on after the cut to `end`.
abbrev pub JournalIsCut : Type 0 → Type 0
JournalIsCut F = (calls : List Call) (start end : Seen) (device : FileDevice F) (begun : LineFile → File) (images : LineFile → List ℕ)
    (at : IsAt DoesAction (disk_log calls) start) (follows : FilesFollow 0 (is_same JournalFile) begun device end)
    → Follows at.next end → ((name : LineFile) → IsBytes (images name)) → CutsLog follows (clock at.mid) (clock at.next) images
    → DiskCut calls start.state.disk (images JournalFile)

-- The thread of a slave works on a site that owns the slave's image. The words that the image spells may be left of the slave.
abbrev pub ImageIsCut : Type 0 → Type 0
ImageIsCut F = (calls : List Call) (slave : ℕ) (half : SlaveHalf) (start end : Seen) (device : FileDevice F) (begun : LineFile → File)
    (images : LineFile → List ℕ) (at : IsAt (CallsSlave slave) (rom_log slave calls) start)
    (follows : FilesFollow 0 (is_same (Image slave)) begun device end)
    → Follows at.next end → slice_get start.state.halves slave ≡ Some half → ((name : LineFile) → IsBytes (images name))
    → CutsLog follows (clock at.mid) (clock at.next) images
    → (words : List ℕ) × (images (Image slave) ≡ bytes_of words) × SlaveCut calls slave half words
