-- An append is begun.
use Rattle.std.proofs.Common.{◌≡◌, ◌∙◌, inl, inr, ℕ, ◌+◌, true, List, [], ◌∷◌, length, drop, Some, refl, sym, ap, subst, arith, length-drop}
use Rattle.std.proofs.lemmas.List.{take_all}
use Rattle.jrn_format.specs.declared.journal.Entry.{Entry}
use Rattle.jrn_format.specs.declared.journal.Batch.{Batch}
use Rattle.jrn_format.specs.declared.journal.Form.TheVariants.{Two}
use Rattle.jrn_format.specs.Batch.{PayloadFits}
use Rattle.jrn_format.specs.Halves.{Halves, Place, InOlder, InNewer, batches_in, fits, place_in, place_of}
use Rattle.book_model.specs.Entries.{runs_of}
use Rattle.book_model.proofs.CommandLaws.{length-entries}
use Rattle.book_parts.specs.Line.{LineState, HasRoom, SameButRooms}
use Rattle.book_parts.specs.declared.spot.Spot.{Spot}
use Rattle.book_parts.specs.Room.{half_room}
use Rattle.book_parts.specs.Spot.{as_place}
use Rattle.book_parts.specs.Ledger.{Ledger, own, appended, queued, all_begun}
use Rattle.book_core.specs.declared.step.Step.TheVariants.{Resting, Payload}
use Rattle.book_core.specs.declared.book.Core.TheInside.{Inside}
use Rattle.book_core.specs.Stands.{StepStands, PartsStand, Stands, IsAppending}
use Rattle.book_model.proofs.BeginLaws.{first_or, only}

-- ---- a batch has its place

-- The half has room for the batch, and a batch goes behind the older ones only while there are no newer.
pub record HasPlace (room : ℕ) (halves : Halves) (entries : List Entry) (place : Place) : Type 0 where
  pub in_older : place ≡ InOlder → halves.newer ≡ []
  pub fit : fits room (batches_in halves place) entries ≡ true

place-in : (room : ℕ) (halves : Halves) (newer : List Batch) (entries : List Entry) (place : Place) → halves.newer ≡ newer → place_in room halves.older newer entries ≡ Some place → HasPlace room halves entries place
place-in room halves [] entries place none is = elim (first_or (fits room halves.older entries) (fits room [] entries) place is) [
  | inl older ↦ subst (HasPlace room halves entries) older.1 (record { in_older = λ e. none; fit = older.0 })
  | inr newer ↦ subst (HasPlace room halves entries) newer.1 (record { in_older = λ e. none; fit = subst (λ (l : List Batch). fits room l entries ≡ true) (sym none) newer.0 })
]
place-in room halves (b ∷ newer) entries place some is =
    let o = only (fits room (b ∷ newer) entries) InNewer place is in
    subst (HasPlace room halves entries) o.1 (record { in_older = λ e. absurd (cc e); fit = subst (λ (l : List Batch). fits room l entries ≡ true) (sym some) o.0 })

pub has-place : (room : ℕ) (halves : Halves) (entries : List Entry) (place : Place) → place_of room halves entries ≡ Some place → HasPlace room halves entries place
has-place room halves entries place is = place-in room halves halves.newer entries place refl is

-- ---- the queue is being appended

begun-all : (ledger : Ledger) → ledger.begun ≡ 0 → appended (all_begun ledger) ≡ queued ledger
begun-all ledger none =
    let here : queued ledger ≡ drop ledger.durable (own ledger) = ap (λ (n : ℕ). drop n (own ledger)) (let z : ledger.durable + ledger.begun ≡ ledger.durable = omega (arith, none) in z) in
    take_all (length (queued ledger)) (drop ledger.durable (own ledger)) (omega (arith, ap length here)) ∙ sym here

appending : (core : Inside) (spot : Spot) (work : LineState) → core.ledger.begun ≡ 0 → core.area.form ≡ Two → place_of (half_room core.area) core.area.halves (queued core.ledger) ≡ Some (as_place spot)
    → PayloadFits (queued core.ledger) → HasRoom work (runs_of (queued core.ledger)) → IsAppending (as_place spot) core.area (all_begun core.ledger) work
appending core spot work none two place payload room =
    let has = has-place (half_room core.area) core.area.halves (queued core.ledger) (as_place spot) place in
    let all : appended (all_begun core.ledger) ≡ queued core.ledger = begun-all core.ledger none in
    record {
      version_2 = two;
      in_older = has.in_older;
      payload = subst PayloadFits (sym all) payload;
      fit = subst (λ (l : List Entry). fits (half_room core.area) (batches_in core.area.halves (as_place spot)) l ≡ true) (sym all) has.fit;
      room = subst (λ (l : List Entry). HasRoom work (runs_of l)) (sym all) room;
    }

-- the line with other rooms, while nothing is being done with the disk
pub append-stands : (core : Inside) (spot : Spot) (work : LineState) → core.step ≡ Resting → core.area.form ≡ Two → place_of (half_room core.area) core.area.halves (queued core.ledger) ≡ Some (as_place spot)
    → PayloadFits (queued core.ledger) → HasRoom work (runs_of (queued core.ledger)) → SameButRooms core.work work → Stands core
    → PartsStand core.words.value core.found core.area (Payload spot) (all_begun core.ledger) work core.shown core.fault
append-stands core spot work rests two place payload room same stands =
    let none : core.ledger.begun ≡ 0 = subst (λ (s : _). StepStands s core.area core.ledger core.work) rests stands.doing in
    record {
      base = stands.base;
      old_journal = stands.old_journal;
      durable = omega (arith, none, stands.durable, length-drop (core.ledger.durable + core.ledger.begun) (own core.ledger), length-entries 0 core.ledger.base core.ledger.accepted);
      cells = rw same.slaves stands.cells;
      operations = rw (same.slaves, same.older, same.newer) stands.operations;
      live = record { older = rw same.older stands.live.older; newer = rw same.newer stands.live.newer };
      latest = record { gone = stands.latest.gone; all = rw (same.older, same.newer) stands.latest.all };
      doing = appending core spot work none two place payload room;
      is_shown = record { contents = stands.is_shown.contents; few = rw same.slaves stands.is_shown.few };
    }
