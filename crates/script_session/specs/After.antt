-- What went after a desk on its line: a recovery, and the commands on one thread where the desk had none for them.
use Rattle.std.specs.Prelude.{◌≡◌, ◌⊎◌, ℕ, Bool, true, false, List, Option, Result, Err, IsSomeAnd}
use Rattle.sii_edit.specs.declared.command.Command.{Command}
use Rattle.site_core.specs.State.{Seen}
use Rattle.site_core.specs.Times.{Follows}
use Rattle.station_alone.specs.Station.{Station}
use Rattle.site_shadow.specs.Site.{SiteValue}
use Rattle.station_alone.specs.declared.recovery.Recovered.{Recovered}
use Rattle.station_alone.specs.Recovery.{HasRecovered, BeginsRecovered, CountsRecovered}
use Rattle.station_text.specs.declared.line_file.LineFile.{LineFile}
use Rattle.station_files.specs.Files.{Known}
use Rattle.station_files.specs.declared.faults.Fault.{Fault}
use Rattle.station_line.specs.declared.answered.Answered.{Answered}
use Rattle.station_line.specs.Opened.{GoesKept}
use Rattle.station_line.specs.Rounds.{AreAmong, Goes}
use Rattle.station_line.specs.Site.{HoldsSite, IsFollowed}
use Rattle.script_session.specs.Saving.{IsReportedLine}

-- What a device keeps of its site, and that it has told this.
abbrev pub Tells : {D T : Type 0} → (D → Seen → Type 0) → (D → T → Type 0) → T → D → Seen → Type 0
Tells follows tells reported device seen = follows device seen × tells device reported

-- The site went on so, and a device keeps this of it.
pub record GoesFollowed {D : Type 0} (follows : D → Seen → Type 0) (before now : Seen) : Type 0 where
  pub goes : GoesKept before now
  pub followed : IsFollowed follows now

-- A station on one thread accepted some of these commands, and a device keeps this of its site.
pub record ServesSome {D : Type 0} (follows : D → Seen → Type 0) (commands : List Command) (opened : Station) : Type 0 where
  pub accepted : List Command
  pub among : AreAmong accepted commands
  pub last : Station
  pub goes : Goes accepted opened last
  pub followed : IsFollowed follows last.seen

-- The site was recovered, and a station on it accepted some of these commands on one thread.
pub record ServesRecovered {D : Type 0} (follows : D → Seen → Type 0) (commands : List Command) (left : Seen) : Type 0 where
  pub r : Station
  pub goes : GoesKept left r.seen
  pub begins : BeginsRecovered left r
  pub serves : ServesSome follows commands r

-- The site was recovered. If the commands weren't submitted at the desk, some were accepted then, unless the recovery failed.
abbrev pub GoesAfterDesk : {D : Type 0} → (D → Seen → Type 0) → (is_driven : Bool) → List Command → (left : Seen)
    → Result Answered Fault → Type 0
GoesAfterDesk follows true commands left ended = (last : Seen) × GoesFollowed follows left last
GoesAfterDesk follows false commands left ended =
    ((last : Seen) × (fault : Fault) × GoesFollowed follows left last × (ended ≡ Err fault)) ⊎ ServesRecovered follows commands left

-- A site that was so was recovered, the files hold its state then, and `Way` is said of the station after it.
pub record SavesRecovered (Way : Station → Type 0) (files : Known) (line : LineFile) (before : Seen) : Type 0 where
  pub s : Station
  pub recovered : HasRecovered s
  pub begins : BeginsRecovered before s
  pub held : HoldsSite files line s.seen.state
  pub way : Way s

-- From this site on a recovery with these counts led there, by calls alone, and this is told of a device that has followed it.
pub record LedOn {D T : Type 0} (follows : D → Seen → Type 0) (well : D → Type 0) (tells : D → T → Type 0) (reported : T) (slaves : ℕ)
    (counts : Option Recovered) (before : SiteValue) (s : Station) : Type 0 where
  pub leads : Follows before.seen s.seen
  pub counted : IsSomeAnd counts (λ after. CountsRecovered before.line.sizes before.seen after s)
  pub ends : IsReportedLine follows well tells reported slaves s.seen
