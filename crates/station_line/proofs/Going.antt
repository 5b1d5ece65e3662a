-- What was kept for a machine stays so as a station is opened or recovered.
use Rattle.std.proofs.Common.{◌≡◌, Result, Ok, Err, sym, subst}
use Rattle.std.specs.Prelude.{IfOk, IfErr, MatchResult}
use Rattle.site_core.specs.Line.{Line}
use Rattle.site_core.specs.Passes.{LeavesOnly}
use Rattle.site_core.specs.State.{Seen}
use Rattle.site_core.proofs.Runs.{Passes-stays, Passes-then}
use Rattle.site_core.proofs.Times.{Follows-then}
use Rattle.site_shadow.specs.Site.{SiteValue}
use Rattle.station_alone.specs.declared.fault.OpenFault.{OpenFault}
use Rattle.station_alone.specs.Keeping.{KeepsThroughout, KeptFor}
use Rattle.station_alone.specs.Opening.{Opens, FailsToOpen}
use Rattle.station_alone.specs.Recovery.{RecoversBySteps, FailsToRecover}
use Rattle.station_alone.specs.Station.{Station}
use Rattle.station_line.proofs.Extending.{recovers_on, fails_on}
use Rattle.station_line.specs.Opened.{GoesKept}

goes_then : (a b c : Seen) → GoesKept a b → GoesKept b c → GoesKept a c
goes_then a b c one two = record {
  goes_on = Follows-then a b c one.goes_on two.goes_on;
  keeps = λ machine kept.
      let before = one.keeps machine kept in
      let after = two.keeps machine before.passes.now in
      Passes-stays (KeptFor machine) a c (Passes-then (LeavesOnly (KeptFor machine)) a b c before.passes after.passes);
}

-- what an open or a recovery ends with
abbrev pub Went : Type 0
Went = Result Station (SiteValue × OpenFault)

abbrev pub WentSo : Seen → Went → Type 0
WentSo before result = MatchResult result (λ s. GoesKept before s.seen) (λ back. GoesKept before back.0.seen)

pub open_goes : (line : Line) (before : Seen) (result : Went) → IfOk result (λ s. Opens line before s) → IfOk result (λ s. KeepsThroughout before s.seen)
    → IfErr result (λ back. FailsToOpen line before back.1 back.0.line back.0.seen) → IfErr result (λ back. KeepsThroughout before back.0.seen) → WentSo before result
open_goes line before (Ok s) opens keeps fails back = record { goes_on = opens.1.quiet.follows; keeps = keeps }
open_goes line before (Err e) opens keeps fails back = record { goes_on = fails.quiet.follows; keeps = back }

pub recovery_goes : (line : Line) (before : Seen) (r : Station) → RecoversBySteps line before r → KeepsThroughout before r.seen → GoesKept before r.seen
recovery_goes line before r by keeps = record { goes_on = recovers_on line before r by; keeps = keeps }

pub failure_goes : (line : Line) (before : Seen) (fault : OpenFault) (later : Line) (now : Seen) → FailsToRecover line before fault later now → KeepsThroughout before now
    → GoesKept before now
failure_goes line before fault later now fails keeps = record { goes_on = fails_on line before fault later now fails; keeps = keeps }

-- the station was opened on a line that earlier calls had left
pub goes_through : (before left : Seen) (result : Went) → GoesKept before left → WentSo left result → WentSo before result
goes_through before left (Ok s) one two = goes_then before left s.seen one two
goes_through before left (Err e) one two = goes_then before left e.0.seen one two

pub left_goes : (before : Seen) (r : Station) (left : Seen) → left ≡ r.seen → GoesKept before r.seen → GoesKept before left
left_goes before r left is goes = subst (GoesKept before) (sym is) goes
