-- What the files of a line hold once its commands were served.
use Rattle.std.specs.Prelude.{◌≡◌, ◌⊎◌, ℕ, Ok, Bool, true, false, List, length}
use Rattle.sii_edit.specs.declared.command.Command.{Command}
use Rattle.site_core.specs.State.{Seen}
use Rattle.site_shadow.specs.Site.{SiteValue}
use Rattle.station_alone.specs.Station.{Station}
use Rattle.station_alone.specs.Recovery.{HasRecovered, BeginsRecovered}
use Rattle.station_text.specs.declared.line_file.LineFile.{LineFile}
use Rattle.station_files.specs.Files.{Known}
use Rattle.station_files.specs.Faults.{IsOfStream}
use Rattle.station_files.specs.declared.faults.Fault.{Fault}
use Rattle.station_line.specs.declared.answered.Answered.{Answered}
use Rattle.station_line.specs.declared.answered.Answered.TheVariants.{AllAccepted}
use Rattle.station_line.specs.Site.{HoldsSite, IsFollowed}
use Rattle.station_line.specs.Opened.{is_old, StartsFrom}
use Rattle.station_line.specs.Rounds.{AreAmong, Goes, IsServed}
use Rattle.script_session.specs.declared.threads.Left.{Left}
use Rattle.script_session.specs.AtDesk.{IsServedAtDesk}
use Rattle.script_session.specs.Parts.{Soundly}

-- A fault comes with which files are saved: one of a file or of memory; or it came before, and nothing was written.
abbrev pub MayFail : Known → Known → Fault → Type 0
MayFail old new fault = (new ≡ old) ⊎ IsOfStream fault

-- A device has kept of its site what it keeps, nothing has failed that it was asked, the site goes on, and this is told of the device.
abbrev pub KeepsReported : {D T : Type 0} → (D → Seen → Type 0) → (D → Type 0) → (D → T → Type 0) → T → D → Seen → Type 0
KeepsReported follows well tells reported device seen = Soundly follows well device seen × tells device reported

-- This is told of a device that has followed this site at its end, and it has a half for each of so many slaves.
pub record IsReportedLine {D T : Type 0} (follows : D → Seen → Type 0) (well : D → Type 0) (tells : D → T → Type 0) (reported : T) (slaves : ℕ)
    (last : Seen) : Type 0 where
  pub ends : IsFollowed (KeepsReported follows well tells reported) last
  pub count : slaves ≡ length last.state.halves

-- The files hold the state of this station after some of the commands were accepted and served: all of them if that is how they were answered.
pub record SavesServed (files : Known) (line : LineFile) (opened : Station) (commands : List Command) (answered : Answered) : Type 0 where
  pub s : Station
  pub accepted : List Command
  pub goes : Goes accepted opened s
  pub among : AreAmong accepted commands
  pub all : answered ≡ AllAccepted → accepted ≡ commands
  pub served : IsServed s.book
  pub held : HoldsSite files line s.seen.state

-- The files hold the state of this recovered station. If no command had been submitted at the desk, the commands are served on it first.
abbrev pub HoldsAfter : (is_driven : Bool) → Known → LineFile → Station → List Command → Answered → Type 0
HoldsAfter true files line r commands answered = HoldsSite files line r.seen.state
HoldsAfter false files line r commands answered = SavesServed files line r commands answered

-- The site was recovered after the desk was closed, and the files hold its result.
pub record SavesAfter (files : Known) (line : LineFile) (before : Seen) (is_driven : Bool) (commands : List Command)
    (answered : Answered) : Type 0 where
  pub r : Station
  pub recovered : HasRecovered r
  pub begins : BeginsRecovered before r
  pub holds : HoldsAfter is_driven files line r commands answered

-- No fault was told of the work at the desk, which was closed, and the files hold the line after it, with the commands that were not
-- submitted there.
pub record SavesLeft {T : Type 0} (files : Known) (line : LineFile) (left : Left SiteValue T) (answered : Answered) : Type 0 where
  pub worst : answered ≡ AllAccepted → left.ending.answered ≡ AllAccepted
  pub reported : left.ending.reported ≡ Ok tt
  pub after : SavesAfter files line left.site.seen left.ending.is_driven left.unserved.items answered

-- The line of this station was taken apart, served by threads at a desk, put together again and recovered, and the files hold the result.
-- The desk was closed with some of the commands accepted: all of them if that is how they were answered.
pub record SavesAtDesk (files : Known) (line : LineFile) (opened : Station) (commands : List Command) (answered : Answered) : Type 0 where
  pub is_driven : Bool
  pub answers : Answered
  pub worst : answered ≡ AllAccepted → answers ≡ AllAccepted
  pub site : SiteValue
  pub served : IsServedAtDesk opened commands is_driven answers (Ok tt) site
  pub after : SavesAfter files line site.seen is_driven commands answered

-- A run with a planned power cut is served on one thread, any other by threads.
abbrev pub Serves : (is_cut : Bool) → Known → LineFile → Station → List Command → Answered → Type 0
Serves true files line opened commands answered = SavesServed files line opened commands answered
Serves false files line opened commands answered = SavesAtDesk files line opened commands answered

-- The station was opened on this site, after a recovery if the journal wasn't of version 2, and the files hold its state once served.
pub record SavesRun (is_cut : Bool) (files : Known) (line : LineFile) (site : SiteValue) (commands : List Command)
    (answered : Answered) : Type 0 where
  pub opened : Station
  pub starts : StartsFrom (is_old site.seen.state.disk.bytes) site opened
  pub serves : Serves is_cut files line opened commands answered
