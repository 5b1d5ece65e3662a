-- A desk whose parts stand on files: the journal after the disk's thread, and the image of each slave after the thread of that slave.
use Rattle.std.specs.Prelude.{◌≡◌, ℕ, Bool, List, [], Some, slice_get, IsTrue}
use Rattle.jrn_format.specs.declared.journal.Journal.{Journal}
use Rattle.site_core.specs.State.{State, Seen, Pair, clock}
use Rattle.site_core.specs.Times.{Follows}
use Rattle.site_file.specs.declared.asking.LineFile.{LineFile}
use Rattle.site_file.specs.declared.asking.LineFile.TheVariants.{Journal as JournalFile, Image}
use Rattle.site_file.specs.declared.files.FileDevice.{FileDevice}
use Rattle.site_file.specs.Following as files
use Rattle.site_file.specs.Files.{File, IsBytes}
use Rattle.site_file.specs.Held.{is_same}
use Rattle.site_file.specs.AllFiles.{FilesFollow, Holds, Shows}
use Rattle.book_model.specs.Machine.{Machine}
use Rattle.book_model.specs.Opening.{book_on}
use Rattle.station_jobs.specs.declared.log.Assignment.{Assignment}
use Rattle.station_jobs.specs.declared.log.SlaveLog.{SlaveLog}
use Rattle.station_jobs.specs.Ends.{Stay}
use Rattle.station_jobs.specs.Flushing.{DoesAction}
use Rattle.station_jobs.specs.Working.{CallsSlave}
use Rattle.desk_book.specs.declared.call.Call.{Call}
use Rattle.desk_book.specs.Calls.{AreAnswered, replayed}
use Rattle.desk_book.specs.Logs.{DiskEntry, disk_log, rom_log}
use Rattle.desk_laws.specs.Joined.{IsOpenedOn}
use Rattle.desk_laws.specs.Together.{AreTogether, starts}
use Rattle.kept_files.specs.KeptFiles.{has_file}
use Rattle.kept_files.specs.Cuts.{IsAt, CutsLog, IsKeptPair}

-- THE FILE OF A PART

-- A device stands behind a part's site. Files that held the site's part as its log began, when the site was as at `start`, have followed the site.
pub record PartOnFiles (F : Type 0) (owned : LineFile → Bool) (start end : Seen) : Type 0 where
  pub device : FileDevice F
  pub follow : (begun : LineFile → File) → ((name : LineFile) → IsTrue (owned name) → Holds start.state name (begun name))
      → FilesFollow 0 owned begun device end

-- The parts of a desk stand on files: that of the disk on the journal, and that of each slave on its image.
pub record DeskOnFiles (F : Type 0) {S : Type 0} (seen : S → Seen) (flusher : Stay S (List DiskEntry))
    (workers : List (Stay S SlaveLog)) : Type 0 where
  pub journal : PartOnFiles F (is_same JournalFile) (seen flusher.start) (seen flusher.site)
  pub images : (slave : ℕ) (end : Stay S SlaveLog) → slice_get workers slave ≡ Some end
      → PartOnFiles F (is_same (Image slave)) (seen end.start) (seen end.site)

-- WHAT A POWER CUT LEAVES

-- A part's device is anywhere in the job that is out for it by this log, or between two jobs, and a power cut leaves these images by the device's
-- own log.
pub record PartIsCut {J O F : Type 0} (Does : J → O → Seen → Seen → Type 0) (log : List (Assignment J O)) (owned : LineFile → Bool)
    (start end : Seen) (device : FileDevice F) (begun : LineFile → File) (images : LineFile → List ℕ) : Type 0 where
  pub at : IsAt Does log start
  pub on : Follows at.next end
  pub follows : FilesFollow 0 owned begun device end
  pub cut : CutsLog follows (clock at.mid) (clock at.next) images

-- When the book has answered these calls, a power cut leaves these images: that of the journal by the log of the disk's device, and that of each
-- slave by the log of its own.
pub record DeskIsCut {F S : Type 0} {seen : S → Seen} {flusher : Stay S (List DiskEntry)} {workers : List (Stay S SlaveLog)}
    (desk : DeskOnFiles F seen flusher workers) (calls : List Call) (begun : LineFile → File) (images : LineFile → List ℕ) : Type 0 where
  pub journal : PartIsCut DoesAction (disk_log calls) (is_same JournalFile) (seen flusher.start) (seen flusher.site) desk.journal.device begun images
  pub slaves : (slave : ℕ) (end : Stay S SlaveLog) (is : slice_get workers slave ≡ Some end)
      → PartIsCut (CallsSlave slave) (rom_log slave calls) (is_same (Image slave)) (seen end.start) (seen end.site)
      (desk.images slave end is).device begun images

-- THE LAWS

-- A part's site began without a call, and only calls led it on; then its device's file is that of the part.
abbrev pub PartHasItsFile : Type 0 → Type 0
PartHasItsFile F = (owned : LineFile → Bool) (start end : Seen) (device : FileDevice F) → start.past ≡ [] → Follows start end
    → files.Follows device end → PartOnFiles F owned start end

-- The book was opened on the line with which the threads began. When it has answered these calls, a power cut leaves in all files, at once, only a
-- kept pair.
abbrev pub CutLeavesKeptParts : (F S : Type 0) → Type 0
CutLeavesKeptParts F S = (seen : S → Seen) (flusher : Stay S (List DiskEntry)) (workers : List (Stay S SlaveLog))
    (desk : DeskOnFiles F seen flusher workers) (machine : Machine) (journal : Journal) (old : State) (calls : List Call)
    (begun : LineFile → File) (images : LineFile → List ℕ) → IsOpenedOn machine journal old calls → AreAnswered (book_on old journal) calls
    → AreTogether seen flusher.start (starts workers) old → ((name : LineFile) → IsBytes (images name)) → DeskIsCut desk calls begun images
    → (pair : Pair) × IsKeptPair machine (replayed (book_on old journal) calls) pair
    × ((name : LineFile) → IsTrue (has_file old name) → Shows pair name (images name))
