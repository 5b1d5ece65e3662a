-- The book's invariant holds again once one more command is accepted.
use Rattle.std.proofs.Common.{◌≡◌, ◌∙◌, ℕ, ◌+◌, ◌-◌, ◌≤◌, true, false, List, [], ◌∷◌, ◌++◌, length, take, drop, refl, sym, ap, subst, arith, length-append, length-drop}
use Rattle.std.specs.Prelude.{map}
use Rattle.std.proofs.lemmas.List.{take-append-le, drop-append-le}
use Rattle.sii_edit.specs.declared.command.Command.{Command}
use Rattle.sii_edit.specs.Fold.{contents}
use Rattle.jrn_format.specs.declared.journal.Entry.{Entry}
use Rattle.jrn_format.specs.declared.journal.Form.{Form}
use Rattle.jrn_format.specs.declared.journal.Form.TheVariants.{Two}
use Rattle.jrn_format.specs.Batch.{PayloadFits}
use Rattle.jrn_format.specs.Halves.{Place, fits, batches_in}
use Rattle.book_model.specs.Entries.{runs_of}
use Rattle.book_model.specs.Book.{all_cells, is_version_2}
use Rattle.book_model.specs.Reading.{settled_prefix}
use Rattle.book_model.specs.Submit as submit
use Rattle.book_model.proofs.CommandLaws.{entries-push, entry_after, length-entries}
use Rattle.book_model.specs.Worn.{named_for}
use Rattle.book_parts.specs.Line.{LineState, HasRoom, slave_at}
use Rattle.book_parts.specs.Room.{Room, half_room}
use Rattle.book_parts.specs.Spot.{as_place}
use Rattle.book_parts.specs.Ledger.{Ledger, own, appended, with_command}
use Rattle.book_parts.specs.Shown.{Shown}
use Rattle.book_core.specs.declared.step.Step.{Step}
use Rattle.book_core.specs.declared.step.Step.TheVariants.{Resting, Payload, PayloadSync, OpenGate, OpenSync, CloseGate, CloseSync, FarGate, Mark, MarkSync, Version, VersionSync}
use Rattle.book_core.specs.Parts.{doing_of, book_of}
use Rattle.book_core.specs.Stands.{OperationStands, live_for, IsAppending, StepStands, IsShown, Stands, as_found}
use Rattle.book_core.specs.declared.book.Core.TheInside.{Inside}
use Rattle.book_core.proofs.ShownLaws.{applied-few}

-- ---- the first of the own entries stay

front-kept : (ledger : Ledger) (command : Command) (n : ℕ) → n ≤ length ledger.accepted → take n (own (with_command ledger command)) ≡ take n (own ledger)
front-kept ledger command n few =
    let last = entry_after 0 ledger.base ledger.accepted command in
    ap (take n) (entries-push 0 ledger.base ledger.accepted command)
    ∙ take-append-le n (own ledger) (last ∷ []) (omega (arith, few, length-entries 0 ledger.base ledger.accepted))

pub appended-kept : (ledger : Ledger) (command : Command) → ledger.durable + ledger.begun ≤ length ledger.accepted → appended (with_command ledger command) ≡ appended ledger
appended-kept ledger command few =
    let last = entry_after 0 ledger.base ledger.accepted command in
    let all = length-entries 0 ledger.base ledger.accepted in
    ap (λ (l : List Entry). take ledger.begun (drop ledger.durable l)) (entries-push 0 ledger.base ledger.accepted command)
    ∙ ap (take ledger.begun) (drop-append-le ledger.durable (own ledger) (last ∷ []) (omega (arith, few, all)))
    ∙ take-append-le ledger.begun (drop ledger.durable (own ledger)) (last ∷ []) (omega (arith, few, all, length-drop ledger.durable (own ledger)))

-- ---- the step

appending-kept : (place : Place) (area : Room) (ledger new : Ledger) (work : LineState) → appended new ≡ appended ledger → IsAppending place area ledger work → IsAppending place area new work
appending-kept place area ledger new work same stands = record {
  version_2 = stands.version_2;
  in_older = stands.in_older;
  payload = subst PayloadFits (sym same) stands.payload;
  fit = subst (λ (l : List Entry). fits (half_room area) (batches_in area.halves place) l ≡ true) (sym same) stands.fit;
  room = subst (λ (l : List Entry). HasRoom work (runs_of l)) (sym same) stands.room;
}

step-kept : (step : Step) (area : Room) (ledger new : Ledger) (work : LineState) → appended new ≡ appended ledger → new.begun ≡ ledger.begun → StepStands step area ledger work → StepStands step area new work
step-kept Resting area ledger new work same begun stands = begun ∙ stands
step-kept (Payload spot) area ledger new work same begun stands = appending-kept (as_place spot) area ledger new work same stands
step-kept (PayloadSync spot) area ledger new work same begun stands = appending-kept (as_place spot) area ledger new work same stands
step-kept (OpenGate spot) area ledger new work same begun stands = appending-kept (as_place spot) area ledger new work same stands
step-kept (OpenSync spot) area ledger new work same begun stands = appending-kept (as_place spot) area ledger new work same stands
step-kept CloseGate area ledger new work same begun stands = record { no_append = begun ∙ stands.no_append; settled = stands.settled }
step-kept CloseSync area ledger new work same begun stands = record { no_append = begun ∙ stands.no_append; settled = stands.settled }
step-kept FarGate area ledger new work same begun stands = record { no_append = begun ∙ stands.no_append; nothing = stands.nothing }
step-kept Mark area ledger new work same begun stands = record { no_append = begun ∙ stands.no_append; nothing = stands.nothing }
step-kept MarkSync area ledger new work same begun stands = record { no_append = begun ∙ stands.no_append; nothing = stands.nothing }
step-kept Version area ledger new work same begun stands = record { no_append = begun ∙ stands.no_append; nothing = stands.nothing }
step-kept VersionSync area ledger new work same begun stands = record { no_append = begun ∙ stands.no_append; nothing = stands.nothing }

-- ---- what is shown

shown-kept : (found : List Entry) (ledger : Ledger) (work : LineState) (shown : Shown) (command : Command) → ledger.durable ≤ length ledger.accepted → IsShown found ledger work shown → IsShown found (with_command ledger command) work shown
shown-kept found ledger work shown command few stands =
    let count : shown.count ≤ length ledger.accepted = omega (arith, stands.few, applied-few found ledger work, few) in
    let live = front-kept ledger command ledger.durable few in
    record {
      contents = stands.contents ∙ ap (contents ledger.base) (sym (take-append-le shown.count ledger.accepted (command ∷ []) count));
      few = subst (λ (l : List Entry). shown.count ≤ settled_prefix (all_cells work.slaves) (found ++ l) - length found) (sym live) stands.few;
    }

-- ---- the core

not-old : (form : Form) → form ≡ Two → is_version_2 form ≡ false → ⊥
not-old form two old = cc (ap is_version_2 two, old)

pub accepted-stands : (core : Inside) (command : Command) → core.area.form ≡ Two → Stands core → Stands (record core { ledger = with_command core.ledger command })
accepted-stands core command two stands =
    let ledger = core.ledger in
    let new = with_command ledger command in
    let durable : ledger.durable ≤ length ledger.accepted = omega (arith, stands.durable) in
    record {
      base = stands.base;
      old_journal = λ old. absurd (not-old core.area.form two old);
      durable = omega (arith, stands.durable, length-append ledger.accepted (command ∷ []));
      cells = stands.cells;
      operations = λ i inside.
          subst (λ (l : List Entry). OperationStands (named_for (core.found ++ l) i) (live_for core.work i) core.fault (slave_at core.work i)) (sym (front-kept ledger command ledger.durable durable)) (stands.operations i inside);
      live = stands.live;
      latest = record { gone = stands.latest.gone; all = stands.latest.all ∙ ap (λ (l : List Entry). map as_found core.found ++ l) (sym (front-kept ledger command ledger.durable durable)) };
      doing = step-kept core.step core.area ledger new core.work (appended-kept ledger command stands.durable) refl stands.doing;
      is_shown = shown-kept core.found ledger core.work core.shown command durable stands.is_shown;
    }

pub accepted-book : (core : Inside) (command : Command) → Stands core → book_of (record core { ledger = with_command core.ledger command }) ≡ submit.with_command (book_of core) command
accepted-book core command stands =
    ap (λ (l : List Entry). record (submit.with_command (book_of core) command) { doing = doing_of l core.step }) (appended-kept core.ledger command stands.durable)
