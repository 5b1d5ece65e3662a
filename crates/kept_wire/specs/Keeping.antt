-- What a station keeps of its line on a wire it keeps of the journal's file and of real slaves together, on one thread and at a desk.
use Rattle.std.specs.Prelude.{[], ◌≡◌, ◌⊎◌, ℕ, ◌<◌, ◌≤◌, Bool, false, List, ◌++◌, length, take, Some, slice_get}
use Rattle.sii_edit.specs.declared.command.Command.{Command}
use Rattle.jrn_format.specs.declared.journal.Journal.{Journal}
use Rattle.site_core.specs.State.{State, Seen, Pair, clock}
use Rattle.site_core.specs.Times.{Follows}
use Rattle.site_core.specs.Passes.{LeavesOnly}
use Rattle.site_shadow.specs.Following.{first_of}
use Rattle.site_file.specs.declared.asking.LineFile.{LineFile}
use Rattle.site_file.specs.declared.asking.LineFile.TheVariants.{Journal as JournalFile}
use Rattle.site_file.specs.Asking.{HasLog}
use Rattle.site_file.specs.Files.{File, IsBytes, BecomesBy}
use Rattle.site_file.specs.Held.{is_same, of_file}
use Rattle.site_file.specs.AllFiles.{Holds, HoldsDisk, FilesFollow}
use Rattle.site_wire.specs.RealSlaves.{IsSoFar}
use Rattle.site_wire.specs.Sent.{Exchanged, HasSent}
use Rattle.site_wire.specs.Following.{WireFollows}
use Rattle.site_wire.specs.Moments.{Doing, asked_by, sent_by, SlavesFollow, LeavesSlaves, LeavesBetween, IsLeftOfSlave, IsCutIn, IsBetween}
use Rattle.site_wire.specs.declared.device.WireDevice.{WireDevice}
use Rattle.book_model.specs.Machine.{Machine, MayKeep}
use Rattle.book_model.specs.Opening.{book_on}
use Rattle.world_law.specs.Law.{KeptFor}
use Rattle.station_alone.specs.Keeping.{KeepsThroughout}
use Rattle.station_jobs.specs.declared.log.SlaveLog.{SlaveLog}
use Rattle.station_jobs.specs.Ends.{Stay}
use Rattle.station_jobs.specs.Flushing.{DoesAction}
use Rattle.station_jobs.specs.Working.{CallsSlave}
use Rattle.desk_book.specs.declared.call.Call.{Call}
use Rattle.desk_book.specs.Calls.{AreAnswered, replayed}
use Rattle.desk_book.specs.Logs.{DiskEntry, disk_log, rom_log}
use Rattle.desk_laws.specs.Joined.{IsOpenedOn}
use Rattle.desk_laws.specs.Together.{AreTogether, starts}
use Rattle.kept_files.specs.KeptFiles.{KeptAfter, KeepsServing}
use Rattle.kept_files.specs.Cuts.{IsAt, IsKeptPair}
use Rattle.kept_files.specs.DeskFiles.{PartOnFiles, PartIsCut}

-- ---- ONE THREAD

-- At each moment of what was done, since file and slaves had this state, a power cut leaves only a pair with `Q`.
abbrev pub CutsLeave : (Pair → Type 0) → State → List Doing → Type 0
CutsLeave Q begun all = (place : ℕ) (one : Doing) (pair : Pair) → slice_get all place ≡ Some one → IsCutIn (take place all) one begun pair → Q pair

-- After all that was done, the journal's file holds the disk, and each real slave follows its half.
pub record HoldsAfter (all : List Doing) (begun now : State) : Type 0 where
  pub journal : (file mid : File) → HoldsDisk begun.disk file → BecomesBy (of_file JournalFile (asked_by all)) file mid → HoldsDisk now.disk mid
  pub slaves : SlavesFollow (sent_by all) begun.halves now.halves

-- A device has done this, and is over or not, while calls led its site from there to where it is now. What a power cut leaves of file and slaves at one
-- moment stays kept; and as long as neither device nor site has stopped, they have the site's state.
pub record KeepsOnWire (before now : Seen) : Type 0 where
  pub is_over : Bool
  pub all : List Doing
  pub kept : (machine : Machine) → LeavesOnly (KeptFor machine) before.state → CutsLeave (KeptFor machine) before.state all
  pub hold : is_over ≡ false → now.is_stopped ≡ false → HoldsAfter all before.state now.state

-- What a power cut leaves is kept for the machine; or for its next session, with a prefix of these commands.
pub record LeaveNext (machine : Machine) (commands : List Command) (begun : State) (all : List Doing) : Type 0 where
  pub k : ℕ
  pub may_keep : MayKeep machine k
  pub kept : CutsLeave (KeptAfter machine k commands) begun all

-- The same, while a station was opened and then accepted these commands.
pub record ServesOnWire (commands : List Command) (before now : Seen) : Type 0 where
  pub is_over : Bool
  pub all : List Doing
  pub kept : (machine : Machine) → LeavesOnly (KeptFor machine) before.state → LeaveNext machine commands before.state all
  pub hold : is_over ≡ false → now.is_stopped ≡ false → HoldsAfter all before.state now.state

-- ---- A DESK

-- The device of a slave's part has done this from the beginning of the part's thread on, and is over or not. In each call and between two a power cut
-- leaves of real slaves what it may leave of the part's site; and as long as neither device nor site has stopped, they follow it.
pub record SlaveOnWire (start end : Seen) : Type 0 where
  pub is_over : Bool
  pub all : List Doing
  pub first : first_of end ≡ start.state
  pub leaves : (place : ℕ) (one : Doing) (sent : List Exchanged) → slice_get all place ≡ Some one → IsSoFar one.sent sent
      → LeavesSlaves end one.time (sent_by (take place all) ++ sent)
  pub between : LeavesBetween is_over all end
  pub hold : is_over ≡ false → end.is_stopped ≡ false → SlavesFollow (sent_by all) start.state.halves end.state.halves

-- A power cut leaves these words of the slave: in a call that ended after the time `from`, up to the time `to`; or between two calls, at the time `from`.
pub data CutsSlave {start end : Seen} (part : SlaveOnWire start end) (slave from to : ℕ) (words : List ℕ) : Type 0 where
  in_call : (place : ℕ) (one : Doing) (sent : List Exchanged) → from < one.time → one.time ≤ to → slice_get part.all place ≡ Some one → IsSoFar one.sent sent
      → IsLeftOfSlave (sent_by (take place part.all) ++ sent) start.state.halves slave words → CutsSlave part slave from to words
  at_rest : (place : ℕ) → IsBetween part.all place from → (place < length part.all) ⊎ ((part.is_over ≡ false) × (end.is_stopped ≡ false))
      → IsLeftOfSlave (sent_by (take place part.all)) start.state.halves slave words → CutsSlave part slave from to words

-- The device is anywhere in the job that is out for it by this log, or between two jobs, and a power cut leaves these words of the slave.
pub record SlaveIsCut {start end : Seen} (part : SlaveOnWire start end) (calls : List Call) (slave : ℕ) (words : List ℕ) : Type 0 where
  pub at : IsAt (CallsSlave slave) (rom_log slave calls) start
  pub on : Follows at.next end
  pub cut : CutsSlave part slave (clock at.mid) (clock at.next) words

-- The parts of a desk: that of the disk stands on the journal's file, and that of each slave on its slave.
pub record DeskOnWire (F : Type 0) {S : Type 0} (seen : S → Seen) (flusher : Stay S (List DiskEntry)) (workers : List (Stay S SlaveLog)) : Type 0 where
  pub journal : PartOnFiles F (is_same JournalFile) (seen flusher.start) (seen flusher.site)
  pub slaves : (slave : ℕ) (end : Stay S SlaveLog) → slice_get workers slave ≡ Some end → SlaveOnWire (seen end.start) (seen end.site)

-- When the book has answered these calls, a power cut leaves this pair: of the journal's file by what the disk's device has asked, and of each slave by
-- what its own has sent.
pub record DeskIsCut {F S : Type 0} {seen : S → Seen} {flusher : Stay S (List DiskEntry)} {workers : List (Stay S SlaveLog)}
    (desk : DeskOnWire F seen flusher workers) (calls : List Call) (begun : LineFile → File) (pair : Pair) : Type 0 where
  pub bytes : IsBytes pair.disk
  pub journal : PartIsCut DoesAction (disk_log calls) (is_same JournalFile) (seen flusher.start) (seen flusher.site) desk.journal.device begun
      (λ name. pair.disk)
  pub count : length pair.words ≡ length workers
  pub slaves : (slave : ℕ) (end : Stay S SlaveLog) (is : slice_get workers slave ≡ Some end) (words : List ℕ)
      → slice_get pair.words slave ≡ Some words → SlaveIsCut (desk.slaves slave end is) calls slave words

-- ---- THE LAWS

-- A device behind a site that saw its first call there; and this is all that it has asked and sent.
abbrev pub SiteKeepsOnWire : (L F C : Type 0) → Type 0
SiteKeepsOnWire L F C = (device : WireDevice L F C) (before now : Seen) → WireFollows device now → before.past ≡ [] → first_of now ≡ before.state
    → KeepsThroughout before now
    → (keeps : KeepsOnWire before now) × HasLog device.journal.asking.calls (asked_by keeps.all) × HasSent device.sender.log.all (sent_by keeps.all)

-- The same of a station that was opened there and accepted these commands.
abbrev pub SiteServesOnWire : (L F C : Type 0) → Type 0
SiteServesOnWire L F C = (device : WireDevice L F C) (commands : List Command) (before now : Seen) → WireFollows device now → before.past ≡ []
    → first_of now ≡ before.state → KeepsServing commands before now
    → (keeps : ServesOnWire commands before now) × HasLog device.journal.asking.calls (asked_by keeps.all)
    × HasSent device.sender.log.all (sent_by keeps.all)

-- The device of a slave's part.
abbrev pub PartIsOnWire : (L F C : Type 0) → Type 0
PartIsOnWire L F C = (device : WireDevice L F C) (start end : Seen) → WireFollows device end → first_of end ≡ start.state
    → (part : SlaveOnWire start end) × HasLog device.journal.asking.calls (asked_by part.all) × HasSent device.sender.log.all (sent_by part.all)

-- The device of the disk's part.
abbrev pub DiskIsOnFile : (L F C : Type 0) → Type 0
DiskIsOnFile L F C = (device : WireDevice L F C) (start end : Seen) → WireFollows device end → first_of end ≡ start.state
    → (begun : LineFile → File) → Holds start.state JournalFile (begun JournalFile) → FilesFollow 0 (is_same JournalFile) begun device.journal end

-- The book was opened on the line with which the threads began. When it has answered these calls, a power cut leaves of the journal's file and of real
-- slaves together only a kept pair.
abbrev pub CutLeavesKeptOnWire : (F S : Type 0) → Type 0
CutLeavesKeptOnWire F S = (seen : S → Seen) (flusher : Stay S (List DiskEntry)) (workers : List (Stay S SlaveLog)) (desk : DeskOnWire F seen flusher workers)
    (machine : Machine) (journal : Journal) (old : State) (calls : List Call) (begun : LineFile → File) (pair : Pair) → IsOpenedOn machine journal old calls
    → AreAnswered (book_on old journal) calls → AreTogether seen flusher.start (starts workers) old → DeskIsCut desk calls begun pair
    → IsKeptPair machine (replayed (book_on old journal) calls) pair
