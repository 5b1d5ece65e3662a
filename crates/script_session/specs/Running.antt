-- A run on a line: how far it comes, what devices that follow it tell, and what the files hold after it.
use Rattle.std.specs.Prelude.{◌≡◌, ℕ, Bool, true, false, List, Result, Ok, Err, OnOk, Option, Some, None, IsOkAnd, IsSomeAnd, IsTrue}
use Rattle.sii_edit.specs.declared.command.Command.{Command}
use Rattle.site_core.specs.State.{Seen}
use Rattle.site_core.specs.Times.{Follows}
use Rattle.site_shadow.specs.Site.{SiteValue}
use Rattle.site_shadow.specs.Unsynced.{of_bytes}
use Rattle.kept_files.specs.KeptFiles.{KeepsServing}
use Rattle.station_alone.specs.Station.{Station}
use Rattle.station_threads.specs.declared.closing.Ends.{Ends}
use Rattle.station_text.specs.declared.line_file.LineFile.{LineFile}
use Rattle.station_files.specs.Files.{Known}
use Rattle.station_line.specs.declared.answered.Answered.{Answered}
use Rattle.station_line.specs.declared.answered.Answered.TheVariants.{AllAccepted}
use Rattle.station_files.specs.declared.faults.Fault.{Fault}
use Rattle.station_line.specs.Rounds.{AreAmong}
use Rattle.station_line.specs.Site.{IsFollowed}
use Rattle.script_session.specs.declared.closing.Ending.{Ending}
use Rattle.script_session.specs.declared.logs.DeskLog.{DeskLog}
use Rattle.script_session.specs.declared.logs.LineLog.{LineLog}
use Rattle.script_session.specs.declared.logs.RunLog.{RunLog}
use Rattle.script_session.specs.declared.logs.UnservedLog.{UnservedLog}
use Rattle.script_session.specs.declared.logs.UnservedLog.TheVariants as unserved
use Rattle.script_session.specs.declared.running.LineRun.{LineRun}
use Rattle.script_session.specs.After.{GoesFollowed, SavesRecovered}
use Rattle.script_session.specs.AtDesk.{DeskServes, IsServedReported, PartsEnd, ServesParts}
use Rattle.script_session.specs.Parts.{AreSound, AreUnserved, IsDeskReported, IsSynced}
use Rattle.script_session.specs.Recovering.{BeginsSessions, StaysKept}
use Rattle.script_session.specs.Saving.{IsReportedLine, SavesRun, Serves}

-- ---- how far a run comes

-- What is said of a run: of a site before the station was opened on it and after that; of a site after a desk, before it was recovered and after
-- that; of one before it was recovered and then accepted these commands on one thread, and after that; of a station and the ends of a desk's
-- threads; of these, of whether the parts ended soundly, and of the site that was put together; and where no part had a device.
pub record Says : Type 1 where
  pub opening : Seen → Seen → Type 0
  pub after : Seen → Seen → Type 0
  pub serving : List Command → Seen → Seen → Type 0
  pub parts : Station → Ends SiteValue → Type 0
  pub desk : Station → Result (Unit {0}) Fault → Ends SiteValue → SiteValue → Type 0
  pub unbegun : Type 0

-- The commands weren't submitted at a desk that was closed. After it the line was recovered, and some of them were accepted on one thread; or the
-- recovery failed, and with it the run.
pub data GoesAlone (says : Says) (commands : List Command) (left : Seen) (Failed : Type 0) : Type 0 where
  unrecovered : (last : Seen) → says.after left last → Failed → GoesAlone says commands left Failed
  recovered : (accepted : List Command) (last : Seen) → AreAmong accepted commands → says.serving accepted left last
      → GoesAlone says commands left Failed

-- A recovery went after a closed desk, and then the commands if they weren't submitted there; or the parts didn't end soundly, and the run failed.
abbrev pub GoesAfter : Says → (is_driven : Bool) → (sound : Result (Unit {0}) Fault) → List Command → (left : Seen) → (Failed : Type 0) → Type 0
GoesAfter says true (Ok done) commands left Failed = (last : Seen) × says.after left last
GoesAfter says false (Ok done) commands left Failed = GoesAlone says commands left Failed
GoesAfter says is_driven (Err fault) commands left Failed = Failed

-- The line of an open station was served so.
pub data DeskGoes (says : Says) (station : Station) (commands : List Command) (Failed : Type 0) : Type 0 where
  -- the line couldn't be taken apart: no part had a device yet
  unbegun : says.unbegun → Failed → DeskGoes says station commands Failed
  -- memory was refused for a desk: none has served the parts, each of which had its device by then
  idle : (parts : PartsEnd station) → AreUnserved parts.ends → says.parts station parts.ends → Failed
      → DeskGoes says station commands Failed
  -- a desk served its parts, and what they left couldn't be put together
  separate : (ending : Ending) (desk : DeskServes station commands ending) → says.parts station desk.ends → Failed
      → DeskGoes says station commands Failed
  -- a desk served its parts; if it was closed, a recovery went after it
  served : (ending : Ending) (site : SiteValue) (sound : Result (Unit {0}) Fault) (parts : ServesParts station commands ending site)
      → says.desk station sound parts.desk.ends site
      → (ending.closed ≡ Ok tt → GoesAfter says ending.is_driven sound commands site.seen Failed) → DeskGoes says station commands Failed

-- The station was opened, perhaps after a recovery, with its disk synced, and its line served so; or it couldn't be opened.
pub data RunGoes (says : Says) (before : Seen) (commands : List Command) (Failed : Type 0) : Type 0 where
  unopened : (last : Seen) → says.opening before last → says.unbegun → Failed → RunGoes says before commands Failed
  opened : (station : Station) → says.opening before station.seen → station.seen.state.disk ≡ of_bytes station.seen.state.disk.bytes
      → DeskGoes says station commands Failed → RunGoes says before commands Failed

-- the same of a recovery: each machine that was kept before has a session at its desk, and is still kept after that
abbrev pub OfRecovery : (before : Seen) → Says → Says
OfRecovery before says = record {
  opening = says.opening;
  after = λ left last. StaysKept before left × says.after left last;
  serving = says.serving;
  parts = λ station ends. BeginsSessions before station × says.parts station ends;
  desk = λ station sound ends site. BeginsSessions before station × says.desk station sound ends site;
  unbegun = says.unbegun;
}

-- ---- by devices

-- The site was recovered, and then a station on it accepted these commands: calls alone led it on, what was kept for a machine stays so at each
-- moment of them, and a device keeps this of the site.
pub record ServesOn {D : Type 0} (follows : D → Seen → Type 0) (commands : List Command) (before now : Seen) : Type 0 where
  pub goes_on : Follows before now
  pub keeps : KeepsServing commands before now
  pub followed : IsFollowed follows now

-- what is told of the line's device as the station was opened: with those of its parts, if it was taken apart
abbrev pub line_reported : {T : Type 0} → Option (DeskLog T) → Option T → Option T
line_reported (Some desk) other = Some desk.line.reported
line_reported None other = other

-- the same, and what is told of devices at a desk, by what is told where a line was not served
abbrev pub opening_of : {T : Type 0} → UnservedLog T → Option T
opening_of (unserved.Line part) = Some part.reported
opening_of (unserved.Separate desk) = None
opening_of (unserved.Desk desk) = None

abbrev pub desk_of : {T : Type 0} → UnservedLog T → Option (DeskLog T)
desk_of (unserved.Line part) = None
desk_of (unserved.Separate desk) = Some desk
desk_of (unserved.Desk desk) = Some desk

-- A device keeps this of a site, and this is told of it.
abbrev pub TellsOf : {D T : Type 0} → (D → Seen → Type 0) → (D → T → Type 0) → Option T → D → Seen → Type 0
TellsOf follows tells reported device seen = follows device seen × IsSomeAnd reported (tells device)

-- This is told of devices that have followed the parts of a line at a desk. Where these ended soundly, so is told of each, and the disk is synced.
abbrev pub DeskTells : {D T : Type 0} → (D → Seen → Type 0) → (D → Type 0) → (D → T → Type 0) → Option (DeskLog T) → Station
    → Result (Unit {0}) Fault → Ends SiteValue → Type 0
DeskTells follows well tells reported station sound ends =
    IsSomeAnd reported (λ desk. IsDeskReported follows well tells station.seen desk ends × OnOk sound (AreSound desk × IsSynced ends))

-- No device is told of: none has had the line.
pub record IsNoneReported {T : Type 0} (reported : RunLog T) : Type 0 where
  pub opening : reported.opening ≡ None
  pub desk : reported.desk ≡ None
  pub after : reported.after ≡ None

-- what devices that keep this say of a run of which this is told
abbrev pub OfDevices : {D T : Type 0} → (D → Seen → Type 0) → (D → Type 0) → (D → T → Type 0) → RunLog T → Says
OfDevices follows well tells reported = record {
  opening = GoesFollowed (TellsOf follows tells (line_reported reported.desk reported.opening));
  after = GoesFollowed (TellsOf follows tells reported.after);
  serving = ServesOn (TellsOf follows tells reported.after);
  parts = λ station ends. IsSomeAnd reported.desk (λ desk. IsDeskReported follows well tells station.seen desk ends);
  desk = λ station sound ends site. DeskTells follows well tells reported.desk station sound ends;
  unbegun = reported.desk ≡ None;
}

-- ---- by what is told of all devices

-- The line of this station was served at a desk, with a part for process data as `turns` says, and calls alone led on after it. This is told of the
-- devices of the station's site before the desk, of each part there, which ended soundly, and of the site after it.
pub record LedAtDesk {D T : Type 0} (follows : D → Seen → Type 0) (well : D → Type 0) (tells : D → T → Type 0) (turns : Bool)
    (slaves : ℕ) (opened : Station) (reported : LineLog T) (last : Seen) : Type 0 where
  pub left : SiteValue
  pub served : IsServedReported follows well tells turns opened reported.desk left
  pub after : Follows left.seen last
  pub ends : IsReportedLine follows well tells reported.after slaves last

-- A station was opened on this site before that, by calls alone.
pub record EndsReported {D T : Type 0} (follows : D → Seen → Type 0) (well : D → Type 0) (tells : D → T → Type 0) (turns : Bool)
    (site : SiteValue) (slaves : ℕ) (reported : LineLog T) (last : Seen) : Type 0 where
  pub opened : Station
  pub line : opened.line ≡ site.line
  pub opens : Follows site.seen opened.seen
  pub desk : LedAtDesk follows well tells turns slaves opened reported last

-- what is told of the devices at a desk and of the line's after it, if both is told
abbrev pub whole_of : {T : Type 0} → Option (DeskLog T) → Option T → Option (LineLog T)
whole_of (Some desk) (Some after) = Some (record { desk = desk; after = after })
whole_of None other = None
whole_of (Some desk) None = None

-- ---- what the files hold after it

-- The run ended without a fault, and its commands were answered so, or better: all were accepted, if so it says.
pub record HasEnded {T : Type 0} (run : LineRun T) (answered : Answered) : Type 0 where
  pub closed : run.closed ≡ Ok tt
  pub ended : IsOkAnd run.ended (λ given. answered ≡ AllAccepted → (run.answers ≡ AllAccepted) × (given ≡ AllAccepted))

-- The commands were served by threads, and the files hold the result. Where the commands were submitted at the desk, the line was recovered after
-- it, with `Way` said of what led there.
pub record SavesDesk (Way : Station → Type 0) (files : Known) (line : LineFile) (opened : Station) (commands : List Command)
    (answered : Answered) : Type 0 where
  pub serves : Serves false files line opened commands answered
  pub followed : IsTrue serves.is_driven → SavesRecovered Way files line serves.site.seen

-- The same of a station that was opened on this site, after a recovery if the journal wasn't of version 2.
pub record SavesSite (Way : Station → Type 0) (files : Known) (line : LineFile) (site : SiteValue) (commands : List Command)
    (answered : Answered) : Type 0 where
  pub saves : SavesRun false files line site commands answered
  pub followed : IsTrue saves.serves.is_driven → SavesRecovered Way files line saves.serves.site.seen
