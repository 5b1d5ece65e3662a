-- What went after a desk on its line, and what the files hold then.
use Rattle.std.proofs.Common.{◌≡◌, ℕ, Bool, true, false, IsTrue, List, Some, Result, Ok, Err, inl, inr, refl, sym, subst}
use Rattle.std.specs.Prelude.{IfOk, OnOk}
use Rattle.sii_edit.specs.declared.command.Command.{Command}
use Rattle.site_core.specs.State.{Seen}
use Rattle.site_core.specs.Times.{Follows}
use Rattle.station_alone.specs.Station.{Station}
use Rattle.site_shadow.specs.Site.{SiteValue}
use Rattle.station_alone.specs.declared.recovery.Recovered.{Recovered}
use Rattle.station_alone.specs.Recovery.{HasRecovered, BeginsRecovered, CountsRecovered}
use Rattle.station_text.specs.declared.line_file.LineFile.{LineFile}
use Rattle.station_files.specs.Files.{Known}
use Rattle.station_files.specs.declared.faults.Fault.{Fault}
use Rattle.station_line.specs.declared.answered.Answered.{Answered}
use Rattle.station_line.specs.Site.{HoldsSite}
use Rattle.script_session.specs.After.{GoesAfterDesk, GoesFollowed, LedOn, SavesRecovered, ServesRecovered}
use Rattle.script_session.specs.Saving.{HoldsAfter, IsReportedLine, SavesAfter}

-- ---- how the site went on

-- the commands were submitted at the desk
pub goes_driven : {D : Type 0} (follows : D → Seen → Type 0) (is_driven : Bool) (commands : List Command) (left : Seen)
    (ended : Result Answered Fault) (last : Seen) → is_driven ≡ true → GoesFollowed follows left last
    → GoesAfterDesk follows is_driven commands left ended
goes_driven follows is_driven commands left ended last driven goes =
    subst (λ (b : Bool). GoesAfterDesk follows b commands left ended) (sym driven) (last, goes)

-- they were not
pub goes_undriven : {D : Type 0} (follows : D → Seen → Type 0) (is_driven : Bool) (commands : List Command) (left : Seen)
    (ended : Result Answered Fault) → is_driven ≡ false → ServesRecovered follows commands left
    → GoesAfterDesk follows is_driven commands left ended
goes_undriven follows is_driven commands left ended undriven serves =
    subst (λ (b : Bool). GoesAfterDesk follows b commands left ended) (sym undriven) (inr serves)

-- the recovery failed
pub goes_failed : {D : Type 0} (follows : D → Seen → Type 0) (is_driven : Bool) (commands : List Command) (left : Seen) (fault : Fault)
    (last : Seen) → GoesFollowed follows left last → GoesAfterDesk follows is_driven commands left (Err fault)
goes_failed follows true commands left fault last goes = (last, goes)
goes_failed follows false commands left fault last goes = inl (last, fault, goes, refl)

-- ---- what the files hold

-- the recovered line was saved
pub saves_driven : (ended : Result Answered Fault) (files : Known) (line : LineFile) (before : Seen) (r : Station) (is_driven : Bool)
    (commands : List Command) → is_driven ≡ true → HasRecovered r → BeginsRecovered before r → OnOk ended (HoldsSite files line r.seen.state)
    → IfOk ended (SavesAfter files line before is_driven commands)
saves_driven (Ok answered) files line before r is_driven commands driven recovered begins held = record {
  r = r;
  recovered = recovered;
  begins = begins;
  holds = subst (λ (b : Bool). HoldsAfter b files line r commands answered) (sym driven) held;
}
saves_driven (Err fault) files line before r is_driven commands driven recovered begins held = tt

-- and a device has followed it to there
pub saves_led : {D T : Type 0} (follows : D → Seen → Type 0) (well : D → Type 0) (tells : D → T → Type 0) (reported : T)
    (ended : Result Answered Fault) (files : Known) (line : LineFile) (slaves : ℕ) (before : SiteValue) (r : Station) (counts : Recovered)
    (is_driven : Bool) → HasRecovered r → BeginsRecovered before.seen r → CountsRecovered before.line.sizes before.seen counts r
    → Follows before.seen r.seen → OnOk ended (HoldsSite files line r.seen.state) → OnOk ended (IsReportedLine follows well tells reported slaves r.seen)
    → OnOk ended (IsTrue is_driven → SavesRecovered (LedOn follows well tells reported slaves (Some counts) before) files line before.seen)
saves_led follows well tells reported (Ok answered) files line slaves before r counts is_driven recovered begins counted leads held ends =
    λ driven. record { s = r; recovered = recovered; begins = begins; held = held; way = record { leads = leads; counted = counted; ends = ends } }
saves_led follows well tells reported (Err fault) files line slaves before r counts is_driven recovered begins counted leads held ends = tt

-- what is said of the station, and of the site before it
pub saves_weaker : {P Q : Station → Type 0} {files : Known} {line : LineFile} {before first : Seen} → ((s : Station) → HasRecovered s → P s → Q s)
    → ((s : Station) → BeginsRecovered before s → BeginsRecovered first s) → SavesRecovered P files line before → SavesRecovered Q files line first
saves_weaker says begins saves =
    record { s = saves.s; recovered = saves.recovered; begins = begins saves.s saves.begins; held = saves.held; way = says saves.s saves.recovered saves.way }
