-- A run on the files of a line: what a power cut leaves in them as the station is opened, while its desk is at work, and as the line is recovered
-- after it.
use Rattle.std.specs.Prelude.{◌≡◌, ℕ, Bool, List, [], ◌++◌, Result, OnOk, Option, Some, None, count_by, is_some, IfSome}
use Rattle.std.specs.Prelude.{IsSomeAnd}
use Rattle.std.specs.Prelude.{slice_get, IsTrue}
use Rattle.sii_edit.specs.declared.command.Command.{Command}
use Rattle.site_core.specs.State.{Pair, Seen}
use Rattle.site_shadow.specs.Site.{SiteValue}
use Rattle.site_file.specs.declared.asking.LineFile.{LineFile as FileName}
use Rattle.site_file.specs.declared.asking.LineFile.TheVariants.{Journal, Image}
use Rattle.site_file.specs.declared.asking.Asked.{Asked}
use Rattle.site_file.specs.declared.asking.FileLog.{FileLog}
use Rattle.site_file.specs.Parts.{AreOf}
use Rattle.site_shadow.specs.declared.lending.LinePart.{LinePart}
use Rattle.site_shadow.specs.declared.lending.LinePart.TheVariants as parts
use Rattle.site_file.specs.Asking.{TellsLog}
use Rattle.site_file.specs.Files.{BecomesBy, File, IsBytes}
use Rattle.site_file.specs.Held.{of_file}
use Rattle.site_file.specs.AllFiles.{calls_of, Holds, Shows}
use Rattle.book_model.specs.Machine.{Machine}
use Rattle.station_jobs.specs.declared.log.SlaveLog.{SlaveLog}
use Rattle.station_jobs.specs.Ends.{Stay}
use Rattle.desk_book.specs.declared.call.Call.{Call}
use Rattle.desk_book.specs.Calls.{AreAnswered, is_refusal, replayed}
use Rattle.site_core.specs.Passes.{LeavesOnly}
use Rattle.station_alone.specs.Keeping.{KeptFor}
use Rattle.station_alone.specs.Station.{Station}
use Rattle.kept_files.specs.KeptFiles.{KeepsOn, KeepsOnServing, has_file}
use Rattle.kept_files.specs.Cuts.{IsKeptPair}
use Rattle.kept_files.specs.DeskFiles.{DeskOnFiles, DeskIsCut, PartOnFiles}
use Rattle.station_threads.specs.declared.closing.Ends.{Ends}
use Rattle.station_text.specs.declared.line_file.LineFile.{LineFile}
use Rattle.station_files.specs.Faults.{IsFaultless}
use Rattle.station_files.specs.Files.{Known}
use Rattle.station_files.specs.ScriptFiles.{SpellsCommands}
use Rattle.station_files.specs.declared.faults.ExitStatus.{ExitStatus}
use Rattle.station_files.specs.declared.faults.Fault.{Fault}
use Rattle.script_session.specs.AtDesk.{BeginsAs, seen_of}
use Rattle.script_session.specs.declared.logs.DeskLog.{DeskLog}
use Rattle.script_session.specs.declared.logs.PartLog.{PartLog}
use Rattle.script_session.specs.declared.logs.RunLog.{RunLog}
use Rattle.script_session.specs.Recovering.{StaysKept}
use Rattle.script_session.specs.Running.{RunGoes, Says, line_reported}
use Rattle.station_line.specs.Opened.{Loads}

-- ---- on files

-- The file holds the desk's part that works on it, as the part's thread begins.
abbrev pub BeginsPart : Ends SiteValue → FileName → File → Type 0
BeginsPart ends Journal file = Holds ends.flusher.start.seen.state Journal file
BeginsPart ends (Image slave) file =
    (end : Stay SiteValue SlaveLog) → slice_get ends.workers.items slave ≡ Some end → Holds end.start.seen.state (Image slave) file

-- By the log of the part's device, the file is what this made of one that held the part as its thread began.
pub record IsLeftBy {F : Type 0} {owned : FileName → Bool} {start end : Seen} (part : PartOnFiles F owned start end) (name : FileName) (file : File)
    : Type 0 where
  pub begun : FileName → File
  pub held : (other : FileName) → IsTrue (owned other) → Holds start.state other (begun other)
  pub became : BecomesBy (of_file name (calls_of (part.follow begun held).pieces ++ (part.follow begun held).last)) (begun name) file

-- The files that the parts left hold the line that was put together.
pub record HoldTogether {F : Type 0} (ends : Ends SiteValue) (desk : DeskOnFiles F seen_of ends.flusher ends.workers.items) (site : SiteValue)
    : Type 0 where
  pub journal : (file : File) → IsLeftBy desk.journal Journal file → Holds site.seen.state Journal file
  pub images : (slave : ℕ) (end : Stay SiteValue SlaveLog) (is : slice_get ends.workers.items slave ≡ Some end) (file : File)
      → IsLeftBy (desk.images slave end is) (Image slave) file → Holds site.seen.state (Image slave) file

-- Each part of the desk stands on its file, which holds the part as its thread begins if it held the line as the station was opened. Whatever calls
-- its book has answered by then: a power cut, each device anywhere in its job, leaves in the files, all at once, only what is kept for the session
-- of each machine that the station begins as, with all commands that the book has accepted, and each durable one acknowledged.
pub record KeepsParts (F : Type 0) (station : Station) (ends : Ends SiteValue) : Type 0 where
  pub desk : DeskOnFiles F seen_of ends.flusher ends.workers.items
  pub begins : (name : FileName) (file : File) → Holds station.seen.state name file → BeginsPart ends name file
  pub kept : (machine : Machine) (calls : List Call) (begun : FileName → File) (images : FileName → List ℕ) → BeginsAs machine calls station
      → AreAnswered station.book calls → ((name : FileName) → IsBytes (images name)) → DeskIsCut desk calls begun images
      → (pair : Pair) × IsKeptPair machine (replayed station.book calls) pair
      × ((name : FileName) → IsTrue (has_file station.seen.state name) → Shows pair name (images name))

-- The same, and where the parts ended soundly, the files hold the line that was put together of them.
pub record KeepsAtDesk (F : Type 0) (station : Station) (sound : Result (Unit {0}) Fault) (ends : Ends SiteValue) (site : SiteValue) : Type 0 where
  pub parts : KeepsParts F station ends
  pub together : OnOk sound (HoldTogether ends parts.desk site)

-- A device is told of, and this of its calls, if they are told.
abbrev pub IsReported : Option FileLog → (List Asked → Type 0) → Type 0
IsReported reported so = IsSomeAnd reported (λ file. IfSome file.calls so)

-- As `KeepsOn`, by the calls that are told.
pub record KeepsAsReported (F : Type 0) (reported : Option FileLog) (before now : Seen) : Type 0 where
  pub keeps : KeepsOn F before now
  pub asked : IsReported reported (λ calls. calls ≡ keeps.calls)

-- As `KeepsOnServing`, by the calls that are told.
pub record ServesAsReported (F : Type 0) (reported : Option FileLog) (commands : List Command) (before now : Seen) : Type 0 where
  pub keeps : KeepsOnServing F commands before now
  pub asked : IsReported reported (λ calls. calls ≡ keeps.calls)

-- The devices behind the parts of a desk have asked their files what is told of them.
pub record HaveAsked {F : Type 0} (reported : DeskLog FileLog) (ends : Ends SiteValue)
    (desk : DeskOnFiles F seen_of ends.flusher ends.workers.items) : Type 0 where
  pub journal : TellsLog desk.journal.device.asking.calls reported.disk.reported.calls
  pub images : (slave : ℕ) (end : Stay SiteValue SlaveLog) (is : slice_get ends.workers.items slave ≡ Some end)
      → (part : PartLog FileLog) × (slice_get reported.slaves.items slave ≡ Some part)
      × TellsLog (desk.images slave end is).device.asking.calls part.reported.calls

-- As `KeepsParts`, by the calls that are told.
pub record KeepsPartsAsReported (F : Type 0) (reported : Option (DeskLog FileLog)) (station : Station) (ends : Ends SiteValue) : Type 0 where
  pub keeps : KeepsParts F station ends
  pub asked : IsSomeAnd reported (λ desk. HaveAsked desk ends keeps.desk)

-- As `KeepsAtDesk`, by the calls that are told.
pub record KeepsDeskAsReported (F : Type 0) (reported : Option (DeskLog FileLog)) (station : Station) (sound : Result (Unit {0}) Fault)
    (ends : Ends SiteValue) (site : SiteValue) : Type 0 where
  pub keeps : KeepsAtDesk F station sound ends site
  pub asked : IsSomeAnd reported (λ desk. HaveAsked desk ends keeps.parts.desk)

-- what the files of a run keep of which this is told
abbrev pub OfFiles : Type 0 → RunLog FileLog → Says
OfFiles F reported = record {
  opening = KeepsAsReported F (line_reported reported.desk reported.opening);
  after = KeepsAsReported F reported.after;
  serving = ServesAsReported F reported.after;
  parts = KeepsPartsAsReported F reported.desk;
  desk = KeepsDeskAsReported F reported.desk;
  unbegun = reported.desk ≡ None;
}

-- What a power cut has left in the files of a run is kept, as far as the run came, however it ended: as the station was opened, at its desk, and in
-- what went after the desk, each since the log of its device began. Each begins with the files as the one before left them. The logs are those
-- that the run tells.
abbrev pub RunKeepsFiles : (F : Type 0) → (before : Seen) → List Command → ExitStatus → RunLog FileLog → Type 0
RunKeepsFiles F before commands status reported = RunGoes (OfFiles F reported) before commands (¬ IsFaultless status)

-- For each machine that was kept before the station was opened: whatever calls of a desk to which no command was submitted its book has answered by
-- then, a power cut, each device anywhere in its job, leaves in the files, all at once, only what is kept for it.
abbrev pub KeepsEach : {F : Type 0} → (before : Seen) (station : Station) (ends : Ends SiteValue)
    → DeskOnFiles F seen_of ends.flusher ends.workers.items → Type 0
KeepsEach before station ends desk = (machine : Machine) (calls : List Call) (begun : FileName → File) (images : FileName → List ℕ)
    → LeavesOnly (KeptFor machine) before.state → AreAnswered station.book calls → (replayed station.book calls).accepted ≡ []
    → count_by is_refusal calls ≡ 0 → ((name : FileName) → IsBytes (images name)) → DeskIsCut desk calls begun images
    → (pair : Pair) × KeptFor machine pair × ((name : FileName) → IsTrue (has_file station.seen.state name) → Shows pair name (images name))

-- what the files of a recovery keep of which this is told
abbrev pub OfRecovered : (F : Type 0) → (before : Seen) → RunLog FileLog → Says
OfRecovered F before reported = record {
  opening = KeepsAsReported F (line_reported reported.desk reported.opening);
  after = λ left last. StaysKept before left × KeepsAsReported F reported.after left last;
  serving = ServesAsReported F reported.after;
  parts = λ station ends. (so : KeepsPartsAsReported F reported.desk station ends) × KeepsEach before station ends so.keeps.desk;
  desk = λ station sound ends site. (so : KeepsDeskAsReported F reported.desk station sound ends site) × KeepsEach before station ends so.keeps.parts.desk;
  unbegun = reported.desk ≡ None;
}

-- What a power cut has left in the files of a recovery is kept for each machine for which it was kept before, as far as the recovery came.
abbrev pub RecoveryKeepsFiles : (F : Type 0) → (before : Seen) → ExitStatus → RunLog FileLog → Type 0
RecoveryKeepsFiles F before status reported = RunGoes (OfRecovered F before reported) before [] (¬ IsFaultless status)

-- The line and the script were read, and what a power cut has left in the line's files as the commands were run on them is kept so.
pub record KeepsRunFiles (F : Type 0) (old : Known) (name script : List ℕ) (status : ExitStatus) (reported : RunLog FileLog) : Type 0 where
  pub line : LineFile
  pub site : SiteValue
  pub loaded : Loads old name line site
  pub commands : List Command
  pub spelt : SpellsCommands old script commands
  pub kept : RunKeepsFiles F site.seen commands status reported

-- All that a device asked of its files is told, and it was the device of this part: it asked no other file.
pub record IsPartReported (part : LinePart) (reported : FileLog) : Type 0 where
  pub log : IsTrue (is_some reported.calls)
  pub own : IfSome reported.calls (AreOf (Some part))

-- The same of the device behind the worker of each slave, in order.
abbrev pub AreSlavesReported : List (PartLog FileLog) → Type 0
AreSlavesReported reported = (slave : ℕ) (part : PartLog FileLog) → slice_get reported slave ≡ Some part → IsPartReported (parts.Slave slave) part.reported

-- The logs of the line's device before it was taken apart, and of the device of each part are told, each of its own part.
pub record AreLogsReported (reported : DeskLog FileLog) : Type 0 where
  pub line : IsTrue (is_some reported.line.reported.calls)
  pub disk : IsPartReported parts.Disk reported.disk.reported
  pub slaves : AreSlavesReported reported.slaves.items

-- The logs of the line's device as the station was opened, of the devices at the desk, and of the line's after it are told.
pub record IsAllReported (reported : RunLog FileLog) : Type 0 where
  pub desk : IsSomeAnd reported.desk AreLogsReported
  pub after : IsSomeAnd reported.after (λ file. IsTrue (is_some file.calls))
