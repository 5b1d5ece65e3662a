-- Which step is to be handed out.
use Rattle.std.proofs.Common.{◌≡◌, ◌∙◌, Bool, true, false, List, [], Option, Some, None, refl, sym, ap, subst}
use Rattle.std.specs.Prelude.{◌&&◌, not, if◌then◌else◌}
use Rattle.sii_words.specs.declared.run.Run.{Run}
use Rattle.jrn_format.specs.declared.journal.Entry.{Entry}
use Rattle.jrn_format.specs.Halves.{Place, live, place_of}
use Rattle.jrn_format.specs.Halves as halves
use Rattle.book_model.specs.Cells.{is_any}
use Rattle.book_model.specs.Entries.{runs_of, entries_of}
use Rattle.book_model.specs.Book.{Book, Doing, all_cells}
use Rattle.book_model.specs.Book as book
use Rattle.book_model.specs.DiskSteps.{begun, can_retire, can_migrate, doing_next}
use Rattle.book_model.specs.Reading.{runs_settled}
use Rattle.book_parts.specs.Line.{is_settled}
use Rattle.book_parts.specs.declared.spot.Spot.{Spot}
use Rattle.book_parts.specs.declared.spot.Spot.TheVariants as spots
use Rattle.book_parts.specs.Spot.{as_place}
use Rattle.book_parts.specs.Ledger.{appended}
use Rattle.book_core.specs.declared.step.Step.{Step}
use Rattle.book_core.specs.declared.step.Step.TheVariants.{Resting, Payload, PayloadSync, OpenGate, OpenSync, CloseGate, CloseSync, FarGate, Mark, MarkSync, Version, VersionSync}
use Rattle.book_core.specs.declared.book.Core.TheInside.{Inside}
use Rattle.book_core.specs.Parts.{book_of, doing_of, next_entries, next_place}
use Rattle.book_core.specs.Handing.{IsOther}
use Rattle.book_core.specs.Stands.{StepStands, PartsStand, Stands}
use Rattle.book_core.proofs.RunLaws.{same-runs}
use Rattle.book_model.proofs.SettledLaws.{and-right}
use Rattle.book_model.proofs.OldBeginLaws.{none-any}

-- ---- a retire

settled-is : (core : Inside) → Stands core → is_settled core.work ≡ runs_settled (all_cells core.work.slaves) (runs_of (entries_of core.area.halves.newer)) (runs_of (entries_of core.area.halves.older))
settled-is core stands =
    ap (λ (l : List Run). runs_settled (all_cells core.work.slaves) l (runs_of core.work.older)) (same-runs core.work.newer (entries_of core.area.halves.newer) stands.live.newer)
    ∙ ap (runs_settled (all_cells core.work.slaves) (runs_of (entries_of core.area.halves.newer))) (same-runs core.work.older (entries_of core.area.halves.older) stands.live.older)

pub retire-is : (core : Inside) → Stands core → is_any (live core.area.halves) ≡ true → is_settled core.work ≡ can_retire (book_of core)
retire-is core stands any = settled-is core stands ∙ ap (λ (b : Bool). b && runs_settled (all_cells core.work.slaves) (runs_of (entries_of core.area.halves.newer)) (runs_of (entries_of core.area.halves.older))) (sym any)

-- ---- what is begun

pub data BegunAs (core : Book) (doing : Doing) : Type 0 where
  appends : (place : Place) → next_place core ≡ Some place → doing ≡ book.Payload place (book.queued core) → BegunAs core doing
  retires : can_retire core ≡ true → doing ≡ book.CloseGate → BegunAs core doing
  migrates : can_migrate core ≡ true → doing ≡ book.FarGate → BegunAs core doing
  rests : doing ≡ book.Resting → BegunAs core doing

without : (core : Book) (r m : Bool) → can_retire core ≡ r → can_migrate core ≡ m → BegunAs core (if can_retire core then book.CloseGate else if can_migrate core then book.FarGate else book.Resting)
without core true m ir im = retires ir (rw ir refl)
without core false true ir im = migrates im (rw (ir, im) refl)
without core false false ir im = rests (rw (ir, im) refl)

begun-with : (core : Book) (p : Option Place) → is_any (book.queued core) ≡ true → place_of (book.room core) core.halves (book.queued core) ≡ p → BegunAs core (begun core)
begun-with core (Some place) some is = appends place (rw (some, is) refl) (rw (some, is) refl)
begun-with core None some is = rw (some, is) (without core (can_retire core) (can_migrate core) refl refl)

begun-if : (core : Book) (c : Bool) → is_any (book.queued core) ≡ c → BegunAs core (begun core)
begun-if core true some = begun-with core (place_of (book.room core) core.halves (book.queued core)) some refl
begun-if core false none = rw none (without core (can_retire core) (can_migrate core) refl refl)

begun-as : (core : Book) → BegunAs core (begun core)
begun-as core = begun-if core (is_any (book.queued core)) refl

-- the queue has a place where an append is begun
append-begun : (core : Book) (doing : Doing) (place : Place) (entries : List Entry) → doing ≡ book.Payload place entries → BegunAs core doing → next_place core ≡ Some place
append-begun core doing place entries is (appends p there made) = there ∙ ap (λ (q : Place). Some q) (same p (sym made ∙ is))
  where
    same : (p : Place) → book.Payload p (book.queued core) ≡ book.Payload place entries → p ≡ place
    same p e = cc e
append-begun core doing place entries is (retires can made) = absurd (cc (is, made))
append-begun core doing place entries is (migrates can made) = absurd (cc (is, made))
append-begun core doing place entries is (rests made) = absurd (cc (is, made))

place-there : (c : Bool) (o : Option Place) (place : Place) → (if c then o else None) ≡ Some place → o ≡ Some place
place-there true o place is = is
place-there false o place is = absurd (cc is)

pub place-begun : (core : Book) (place : Place) (entries : List Entry) → core.doing ≡ book.Resting → book.Payload place entries ≡ doing_next core core.doing → place_of (book.room core) core.halves (book.queued core) ≡ Some place
place-begun core place entries resting is =
    let all : begun core ≡ book.Payload place entries = sym (is ∙ ap (doing_next core) resting) in
    place-there (is_any (book.queued core)) (place_of (book.room core) core.halves (book.queued core)) place (append-begun core (begun core) place entries all (begun-as core))

-- ---- the step of what is being done

abbrev spot_of : Place → Spot
spot_of halves.InOlder = spots.InOlder
spot_of halves.InNewer = spots.InNewer

abbrev step_of : Doing → Step
step_of book.Resting = Resting
step_of (book.Payload place entries) = Payload (spot_of place)
step_of (book.PayloadSync place entries) = PayloadSync (spot_of place)
step_of (book.OpenGate place entries) = OpenGate (spot_of place)
step_of (book.OpenSync place entries) = OpenSync (spot_of place)
step_of book.CloseGate = CloseGate
step_of book.CloseSync = CloseSync
step_of book.FarGate = FarGate
step_of book.Mark = Mark
step_of book.MarkSync = MarkSync
step_of book.Version = Version
step_of book.VersionSync = VersionSync

spot-again : (spot : Spot) → spot_of (as_place spot) ≡ spot
spot-again spots.InOlder = refl
spot-again spots.InNewer = refl

step-again : (entries : List Entry) (step : Step) → step_of (doing_of entries step) ≡ step
step-again entries Resting = refl
step-again entries (Payload spot) = ap (λ (s : Spot). Payload s) (spot-again spot)
step-again entries (PayloadSync spot) = ap (λ (s : Spot). PayloadSync s) (spot-again spot)
step-again entries (OpenGate spot) = ap (λ (s : Spot). OpenGate s) (spot-again spot)
step-again entries (OpenSync spot) = ap (λ (s : Spot). OpenSync s) (spot-again spot)
step-again entries CloseGate = refl
step-again entries CloseSync = refl
step-again entries FarGate = refl
step-again entries Mark = refl
step-again entries MarkSync = refl
step-again entries Version = refl
step-again entries VersionSync = refl

pub same-step : (entries others : List Entry) (step other : Step) → doing_of entries step ≡ doing_of others other → other ≡ step
same-step entries others step other is = sym (step-again others other) ∙ ap step_of (sym is) ∙ step-again entries step

-- ---- a step that is handed out stands

keeps : (core : Inside) (old step : Step) (entries : List Entry) → core.step ≡ old → doing_of entries step ≡ doing_of (appended core.ledger) old → Stands core → StepStands step core.area core.ledger core.work
keeps core old step entries was is stands =
    subst (λ (s : Step). StepStands s core.area core.ledger core.work) (was ∙ same-step entries (appended core.ledger) step old is) stands.doing

begins : (core : Inside) (step : Step) (entries : List Entry) → core.step ≡ Resting → IsOther step → Stands core → BegunAs (book_of core) (doing_of entries step) → StepStands step core.area core.ledger core.work
begins core step entries was other stands (appends place there made) =
    absurd (subst IsOther (sym (same-step entries (book.queued (book_of core)) step (Payload (spot_of place)) (made ∙ ap (λ (p : Place). book.Payload p (book.queued (book_of core))) (place-again place)))) other)
  where
    place-again : (place : Place) → place ≡ as_place (spot_of place)
    place-again halves.InOlder = refl
    place-again halves.InNewer = refl
begins core step entries was other stands (retires can made) =
    subst (λ (s : Step). StepStands s core.area core.ledger core.work) (same-step entries [] step CloseGate made) (record {
      no_append = subst (λ (s : Step). StepStands s core.area core.ledger core.work) was stands.doing;
      settled = settled-is core stands ∙ and-right (is_any (live core.area.halves)) (runs_settled (all_cells core.work.slaves) (runs_of (entries_of core.area.halves.newer)) (runs_of (entries_of core.area.halves.older))) can;
    })
begins core step entries was other stands (migrates can made) =
    subst (λ (s : Step). StepStands s core.area core.ledger core.work) (same-step entries [] step FarGate made) (record {
      no_append = subst (λ (s : Step). StepStands s core.area core.ledger core.work) was stands.doing;
      nothing = none-any (live core.area.halves) (and-right core.is_migrating (not (is_any (live core.area.halves))) can);
    })
begins core step entries was other stands (rests made) = absurd (subst IsOther (sym (same-step entries [] step Resting made)) other)

handed-out : (core : Inside) (old step : Step) (entries : List Entry) → core.step ≡ old → IsOther step → doing_of entries step ≡ doing_next (book_of core) (doing_of (appended core.ledger) old) → Stands core
    → StepStands step core.area core.ledger core.work
handed-out core Resting step entries was other is stands = begins core step entries was other stands (subst (BegunAs (book_of core)) (sym is) (begun-as (book_of core)))
handed-out core (Payload spot) step entries was other is stands = keeps core (Payload spot) step entries was is stands
handed-out core (PayloadSync spot) step entries was other is stands = keeps core (PayloadSync spot) step entries was is stands
handed-out core (OpenGate spot) step entries was other is stands = keeps core (OpenGate spot) step entries was is stands
handed-out core (OpenSync spot) step entries was other is stands = keeps core (OpenSync spot) step entries was is stands
handed-out core CloseGate step entries was other is stands = keeps core CloseGate step entries was is stands
handed-out core CloseSync step entries was other is stands = keeps core CloseSync step entries was is stands
handed-out core FarGate step entries was other is stands = keeps core FarGate step entries was is stands
handed-out core Mark step entries was other is stands = keeps core Mark step entries was is stands
handed-out core MarkSync step entries was other is stands = keeps core MarkSync step entries was is stands
handed-out core Version step entries was other is stands = keeps core Version step entries was is stands
handed-out core VersionSync step entries was other is stands = keeps core VersionSync step entries was is stands

pub step-stands : (core : Inside) (step : Step) → IsOther step → doing_of (next_entries (book_of core)) step ≡ doing_next (book_of core) (book_of core).doing → Stands core
    → PartsStand core.words.value core.found core.area step core.ledger core.work core.shown core.fault
step-stands core step other is stands = record {
  base = stands.base;
  old_journal = stands.old_journal;
  durable = stands.durable;
  cells = stands.cells;
  operations = stands.operations;
  live = stands.live;
  latest = stands.latest;
  doing = handed-out core core.step step (next_entries (book_of core)) refl other is stands;
  is_shown = stands.is_shown;
}
