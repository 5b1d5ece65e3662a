-- A plan of a line.
use Rattle.std.proofs.Common.{◌∙◌, ℕ, List, Result, Ok, Err, ap}
use Rattle.std.specs.Prelude.{IfOk, OnOk}
use Rattle.sii_edit.specs.declared.command.Command.{Command}
use Rattle.site_core.specs.Line.{Line}
use Rattle.site_core.specs.State.{Seen}
use Rattle.book_model.specs.Opening.{words_in}
use Rattle.site_shadow.specs.Site.{SiteValue}
use Rattle.station_alone.specs.Station.{Station}
use Rattle.station_line.specs.declared.answered.Answered.{Answered}
use Rattle.station_line.specs.declared.answered.Answered.TheVariants.{AllAccepted}
use Rattle.station_files.specs.declared.faults.Fault.{Fault}
use Rattle.station_plan.specs.Plan.{IsComparison, IsPlanOf, IsServedStation, PlansSite, ServesPlan}
use Rattle.station_plan.specs.declared.plan.Planned.{Planned}

pub plans : (site : SiteValue) (commands : List Command) (planned : Planned) (answered : Answered) → IsPlanOf site commands AllAccepted answered planned
    → PlansSite site commands answered
plans site commands planned answered is = record { planned = planned; is = is }

-- the plan of a station that was served, from what its slaves hold then
pub serves_plan : {E : Type 0} (result : Result Planned E) (opened : Station) (commands : List Command) (before after : Answered) (words : List (List ℕ)) (line : Line) (seen : Seen)
    → IsServedStation opened commands before after line seen → IfOk result (IsComparison words seen.state.halves) → IfOk result (ServesPlan opened commands before after words)
serves_plan (Ok planned) opened commands before after words line seen served is = record {
  s = served.s;
  serves = served.serves;
  before = is.before;
  after = is.after ∙ ap (λ (at : Seen). words_in at.state.halves) served.seen_is;
  changes = is.changes;
}
serves_plan (Err fault) opened commands before after words line seen served is = tt

-- what holds holds for any result
pub on_ok : (result : Result (Unit {0}) Fault) (P : Type 0) → P → OnOk result P
on_ok (Ok done) P holds = holds
on_ok (Err fault) P holds = tt

-- what follows from what a call leaves at `Ok`
pub on_ok_also : (result : Result (Unit {0}) Fault) (P Q : Type 0) → (P → Q) → OnOk result P → OnOk result Q
on_ok_also (Ok done) P Q so holds = so holds
on_ok_also (Err fault) P Q so holds = tt
