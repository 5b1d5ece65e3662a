-- `run` and `recover` on a wire, however they end: what a power cut leaves of the journal's file and of real slaves together is kept, as the station is
-- opened, while its desk is at work, and in what goes after it.
use Rattle.std.specs.Prelude.{◌≡◌, ◌⊎◌, ℕ, List, [], None, Some, slice_get, IfSome, IsSomeAnd, IsTrue, IsErr, IsErrAnd, OnOk, Result, count_by}
use Rattle.sii_edit.specs.declared.command.Command.{Command}
use Rattle.esc_model.specs.Orders.{station as address}
use Rattle.esc_model.specs.SlaveHalf.{SlaveHalf}
use Rattle.site_core.specs.State.{State, Seen, Pair}
use Rattle.site_shadow.specs.Site.{SiteValue}
use Rattle.site_file.specs.declared.asking.Asked.{Asked}
use Rattle.site_file.specs.declared.asking.LineFile.{LineFile as FileName}
use Rattle.site_file.specs.declared.asking.LineFile.TheVariants.{Journal as JournalFile}
use Rattle.site_file.specs.Asking.{HasLog, TellsLog}
use Rattle.site_file.specs.AllFiles.{HoldsDisk}
use Rattle.site_file.specs.Files.{BecomesBy, File}
use Rattle.site_file.specs.Held.{of_file}
use Rattle.site_wire.specs.After.{IsAfter}
use Rattle.site_wire.specs.RealSlaves.{Lives}
use Rattle.site_wire.specs.Sent.{exchanges}
use Rattle.site_wire.specs.Moments.{Doing, asked_by, sent_by}
use Rattle.site_wire.specs.declared.device.WireLog.{WireLog}
use Rattle.book_model.specs.Machine.{Machine}
use Rattle.desk_book.specs.declared.call.Call.{Call}
use Rattle.desk_book.specs.Calls.{AreAnswered, is_refusal, replayed}
use Rattle.site_core.specs.Passes.{LeavesOnly}
use Rattle.station_alone.specs.Keeping.{KeptFor}
use Rattle.station_alone.specs.Station.{Station}
use Rattle.station_jobs.specs.declared.log.SlaveLog.{SlaveLog}
use Rattle.station_jobs.specs.Ends.{Stay}
use Rattle.station_threads.specs.declared.closing.Ends.{Ends}
use Rattle.kept_files.specs.Cuts.{IsKeptPair}
use Rattle.kept_wire.specs.Keeping.{KeepsOnWire, ServesOnWire, HoldsAfter, DeskOnWire, DeskIsCut}
use Rattle.script_session.specs.AtDesk.{BeginsAs, seen_of}
use Rattle.script_session.specs.declared.logs.DeskLog.{DeskLog}
use Rattle.script_session.specs.declared.logs.PartLog.{PartLog}
use Rattle.script_session.specs.declared.logs.RunLog.{RunLog}
use Rattle.script_session.specs.Recovering.{StaysKept}
use Rattle.script_session.specs.Running.{IsNoneReported, RunGoes, Says, line_reported}
use Rattle.station_files.specs.declared.faults.ExitStatus.{ExitStatus}
use Rattle.station_files.specs.declared.faults.Fault.{Fault}
use Rattle.station_line.specs.Site.{switched_on}
use Rattle.wire_faults.specs.Faults.{IsOfStream}
use Rattle.wire_session.specs.declared.logs.Worked.{Worked}

-- ---- one device

-- This is told of a device that has done this: what its journal was asked, if that is told, and all that it has sent.
pub record TellsDone (all : List Doing) (reported : WireLog) : Type 0 where
  pub asked : IfSome reported.journal.calls (λ calls. calls ≡ asked_by all)
  pub sent : exchanges reported.sent ≡ sent_by all

-- As `KeepsOnWire`, by what is told.
pub record KeepsAsReported (before now : Seen) (reported : WireLog) : Type 0 where
  pub keeps : KeepsOnWire before now
  pub told : TellsDone keeps.all reported

-- As `ServesOnWire`, by what is told.
pub record ServesAsReported (commands : List Command) (before now : Seen) (reported : WireLog) : Type 0 where
  pub keeps : ServesOnWire commands before now
  pub told : TellsDone keeps.all reported

-- ---- a desk

-- The line's device has done this as the station was opened, and so it is told. If it is called sound, the journal's file then holds the station's disk,
-- and real slaves follow its halves, as they did before.
pub record HasOpened (before opened : State) (reported : PartLog WireLog) : Type 0 where
  pub all : List Doing
  pub told : TellsDone all reported.reported
  pub hold : IsTrue reported.is_sound → HoldsAfter all before opened

-- The parts begin with what the station's site has: that of the disk with its disk, and that of each slave with its half.
pub record BeginParts (opened : State) (ends : Ends SiteValue) : Type 0 where
  pub disk : ends.flusher.start.seen.state.disk ≡ opened.disk
  pub slaves : (slave : ℕ) (end : Stay SiteValue SlaveLog) → slice_get ends.workers.items slave ≡ Some end
      → slice_get end.start.seen.state.halves slave ≡ slice_get opened.halves slave

-- This is told of the devices behind the parts of a desk.
pub record TellsDesk {F : Type 0} (ends : Ends SiteValue) (desk : DeskOnWire F seen_of ends.flusher ends.workers.items)
    (reported : DeskLog WireLog) : Type 0 where
  pub journal : TellsLog desk.journal.device.asking.calls reported.disk.reported.journal.calls
  pub slaves : (slave : ℕ) (end : Stay SiteValue SlaveLog) (is : slice_get ends.workers.items slave ≡ Some end)
      → (part : PartLog WireLog) × (slice_get reported.slaves.items slave ≡ Some part) × TellsDone (desk.slaves slave end is).all part.reported

-- Whatever calls the book of a desk has answered by then: a power cut, each device anywhere in its job, leaves of the journal's file and of real slaves
-- together only what is kept for the session of each machine that the station begins as, with all commands that the book has accepted, and each durable
-- one acknowledged. The parts begin with file and slaves as the open has left them. This is told of the devices.
pub record KeepsParts (F : Type 0) (before : State) (station : Station) (ends : Ends SiteValue) (reported : DeskLog WireLog) : Type 0 where
  pub opened : HasOpened before station.seen.state reported.line
  pub begin : BeginParts station.seen.state ends
  pub desk : DeskOnWire F seen_of ends.flusher ends.workers.items
  pub kept : (machine : Machine) (calls : List Call) (begun : FileName → File) (pair : Pair) → BeginsAs machine calls station
      → AreAnswered station.book calls → DeskIsCut desk calls begun pair → IsKeptPair machine (replayed station.book calls) pair
  pub told : TellsDesk ends desk reported

-- By what the device of the disk's part has asked, the journal's file holds the disk of this site, if it held the part's as that began. By what the
-- device of each slave's part has sent, the real slave follows its half there, if it followed the part's, and could have answered so.
pub record HoldTogether {F : Type 0} (ends : Ends SiteValue) (desk : DeskOnWire F seen_of ends.flusher ends.workers.items) (site : SiteValue)
    : Type 0 where
  pub journal : (calls : List Asked) (file later : File) → HasLog desk.journal.device.asking.calls calls
      → HoldsDisk ends.flusher.start.seen.state.disk file → BecomesBy (of_file JournalFile calls) file later → HoldsDisk site.seen.state.disk later
  pub slaves : (slave : ℕ) (end : Stay SiteValue SlaveLog) (is : slice_get ends.workers.items slave ≡ Some end) (first half real later : SlaveHalf)
      → slice_get end.start.seen.state.halves slave ≡ Some first → slice_get site.seen.state.halves slave ≡ Some half
      → first.station ≡ address slave → IsAfter first real → Lives (sent_by (desk.slaves slave end is).all) real later → IsAfter half later

-- The same, and where the parts ended soundly, file and slaves are as the line that was put together of them.
pub record KeepsAtDesk (F : Type 0) (before : State) (station : Station) (sound : Result (Unit {0}) Fault) (ends : Ends SiteValue) (site : SiteValue)
    (reported : DeskLog WireLog) : Type 0 where
  pub parts : KeepsParts F before station ends reported
  pub together : OnOk sound (HoldTogether ends parts.desk site)

-- ---- a run

-- what is kept on a wire by a run of which this is told, from this state on
abbrev pub OfWire : Type 0 → State → RunLog WireLog → Says
OfWire F begun reported = record {
  opening = λ before now. IsSomeAnd (line_reported reported.desk reported.opening) (KeepsAsReported before now);
  after = λ before now. IsSomeAnd reported.after (KeepsAsReported before now);
  serving = λ commands before now. IsSomeAnd reported.after (ServesAsReported commands before now);
  parts = λ station ends. IsSomeAnd reported.desk (KeepsParts F begun station ends);
  desk = λ station sound ends site. IsSomeAnd reported.desk (KeepsAtDesk F begun station sound ends site);
  unbegun = reported.desk ≡ None;
}

-- What a power cut has left of the journal's file and of real slaves together is kept, as far as the run came, however it ended: as the station was
-- opened, at its desk, and in what went after the desk, each since the device of that part began. Each device is told of.
abbrev pub RunKeepsWire : (F : Type 0) → (before : Seen) → List Command → (Failed : Type 0) → RunLog WireLog → Type 0
RunKeepsWire F before commands Failed reported = RunGoes (OfWire F before.state reported) before commands Failed

-- ---- a recovery

-- For each machine that was kept before the station was opened: whatever calls of a desk to which no command was submitted its book has answered by
-- then, a power cut, each device anywhere in its job, leaves of the journal's file and of real slaves together only what is kept for it.
abbrev pub KeepsEach : {F : Type 0} → State → Station → (ends : Ends SiteValue) → DeskOnWire F seen_of ends.flusher ends.workers.items → Type 0
KeepsEach before station ends desk = (machine : Machine) (calls : List Call) (begun : FileName → File) (pair : Pair) → LeavesOnly (KeptFor machine) before
    → AreAnswered station.book calls → (replayed station.book calls).accepted ≡ [] → count_by is_refusal calls ≡ 0 → DeskIsCut desk calls begun pair
    → KeptFor machine pair

-- what is kept on a wire by a recovery of which this is told, of a site that was so before
abbrev pub OfRecovered : Type 0 → Seen → RunLog WireLog → Says
OfRecovered F before reported = record {
  opening = (OfWire F before.state reported).opening;
  after = λ left now. StaysKept before left × IsSomeAnd reported.after (KeepsAsReported left now);
  serving = (OfWire F before.state reported).serving;
  parts = λ station ends.
      IsSomeAnd reported.desk (λ desk. (so : KeepsParts F before.state station ends desk) × KeepsEach before.state station ends so.desk);
  desk = λ station sound ends site.
      IsSomeAnd reported.desk (λ desk. (so : KeepsAtDesk F before.state station sound ends site desk) × KeepsEach before.state station ends so.parts.desk);
  unbegun = reported.desk ≡ None;
}

-- What a power cut has left of the journal's file and of real slaves together is kept for each machine for which it was kept before, as far as the
-- recovery came, however it ended. Each device is told of.
abbrev pub RecoveryKeepsWire : (F : Type 0) → (before : Seen) → (Failed : Type 0) → RunLog WireLog → Type 0
RecoveryKeepsWire F before Failed reported = RunGoes (OfRecovered F before reported) before [] Failed

-- ---- the whole

-- No device has had the line: its files couldn't be opened, or memory was refused before.
pub record IsUnbegun {T : Type 0} (worked : Worked T WireLog) : Type 0 where
  pub failed : IsErrAnd worked.ended IsOfStream
  pub none : IsNoneReported worked.reported

-- It didn't begin; or what a power cut has left is kept so, of a line with these words and a journal with these bytes.
abbrev pub KeepsFound : (F : Type 0) → Worked ExitStatus WireLog → (plant : List (List ℕ)) → (bytes : List ℕ) → List Command → Type 0
KeepsFound F worked plant bytes commands =
    IsUnbegun worked ⊎ RunKeepsWire F (switched_on plant bytes) commands (IsErr worked.ended) worked.reported

-- the same of a recovery
abbrev pub KeepsRecovered : (F : Type 0) → Worked (Unit {0}) WireLog → (plant : List (List ℕ)) → (bytes : List ℕ) → Type 0
KeepsRecovered F worked plant bytes = IsUnbegun worked ⊎ RecoveryKeepsWire F (switched_on plant bytes) (IsErr worked.ended) worked.reported
