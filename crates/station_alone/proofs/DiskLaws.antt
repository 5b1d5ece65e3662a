-- Carrying out an action for the disk.
use Rattle.std.proofs.Common.{◌≡◌, refl, sym, ◌∙◌, ap, subst, Option, Some, None, Result}
use Rattle.site_core.specs.declared.fault.DeviceFault.{DeviceFault}
use Rattle.site_core.specs.Line.{Line}
use Rattle.site_core.specs.State.{Seen}
use Rattle.site_journal.specs.Action.{DoesAction}
use Rattle.book_model.specs.declared.next.DiskNext.{DiskNext}
use Rattle.book_model.specs.declared.next.DiskNext.TheVariants as disk
use Rattle.book_model.specs.Book.{Book}
use Rattle.book_model.specs.DiskSteps.{disk_next, disk_done}
use Rattle.site_journal.proofs.DiskRuns.{IsAction}
use Rattle.station_alone.specs.declared.choice.Answer.{Answer}
use Rattle.station_alone.specs.declared.choice.Answer.TheVariants.{Idle, Ended}
use Rattle.station_alone.specs.Station.{Station, station, Stands}
use Rattle.station_alone.specs.Steps.{DoesNothing, CarriesOut, StepsDisk, carried_out, done_with, reported_at_once}
use Rattle.station_alone.proofs.HandedLaws.{stays}
use Rattle.station_alone.proofs.StandLaws.{begins-inside, calls-disk}

-- what isn't there is `None`
pub is-none : (reported : Option Answer) → ((answer : Answer) → reported ≡ Some answer → ⊥) → reported ≡ None
is-none None not = refl
is-none (Some answer) not = absurd (not answer refl)

module _ (book : Book) (line : Line) (seen : Seen) (next : Book) (book_then : next ≡ (disk_next book).1) where
  abbrev old : Station
  old = station book line seen

  -- nothing is handed out: the book stays
  rests : (reported answer : Answer) → reported ≡ answer → (IsAction (disk_next book).0 → ⊥) → DoesNothing answer old reported (station next line seen)
  rests reported answer is none = record { answered = is; same = ap (λ (b : Book). station b line seen) (book_then ∙ stays book none) }

  carries-nothing : (action : DiskNext) (reported : Answer) → (disk_next book).0 ≡ action → reported_at_once action ≡ Some reported → CarriesOut action old reported (station next line seen)
  carries-nothing (disk.Write at bytes) reported is at_once = absurd cc
  carries-nothing (disk.Gate at closed) reported is at_once = absurd cc
  carries-nothing disk.Sync reported is at_once = absurd cc
  carries-nothing disk.Idle reported is at_once = let same : reported ≡ Idle = cc in rests reported Idle same (λ some. subst IsAction is some)
  carries-nothing disk.Stop reported is at_once = let same : reported ≡ Ended = cc in rests reported Ended same (λ some. subst IsAction is some)

  pub steps-at-once : (action : DiskNext) (reported : Answer) → action ≡ (disk_next book).0 → reported_at_once action ≡ Some reported → StepsDisk old reported (station next line seen)
  steps-at-once action reported is at_once =
      carried_out (subst (λ (a : DiskNext). CarriesOut a old reported (station next line seen)) is (carries-nothing action reported (sym is) at_once))

  module _ (stands : Stands old) (later : Line) (now : Seen) (result : Result (Unit {0}) DeviceFault) (after : Book) (done : after ≡ disk_done next result) where
    abbrev new : Station
    new = station after later now

    carries-out : (action : DiskNext) → (disk_next book).0 ≡ action → reported_at_once action ≡ None → DoesAction action seen result now → CarriesOut action old (done_with after.fault) new
    carries-out (disk.Write at bytes) is none does = record { result = result; calls = calls-disk (disk.Write at bytes) seen result now tt (begins-inside book seen stands.ready (disk.Write at bytes) is) does; book = done ∙ ap (λ (b : Book). disk_done b result) book_then; answered = refl }
    carries-out (disk.Gate at closed) is none does = record { result = result; calls = calls-disk (disk.Gate at closed) seen result now tt (begins-inside book seen stands.ready (disk.Gate at closed) is) does; book = done ∙ ap (λ (b : Book). disk_done b result) book_then; answered = refl }
    carries-out disk.Sync is none does = record { result = result; calls = does; book = done ∙ ap (λ (b : Book). disk_done b result) book_then; answered = refl }
    carries-out disk.Idle is none does = absurd cc
    carries-out disk.Stop is none does = absurd cc

    pub steps-done : (action : DiskNext) (reported : Answer) → action ≡ (disk_next book).0 → reported_at_once action ≡ None → DoesAction action seen result now → reported ≡ done_with after.fault → StepsDisk old reported new
    steps-done action reported is none does said =
        subst (λ (a : Answer). StepsDisk old a new) (sym said)
        (carried_out (subst (λ (a : DiskNext). CarriesOut a old (done_with after.fault) new) is (carries-out action (sym is) none does)))
