-- Whether there is room for a command, and what accepting one leaves.
use Rattle.std.proofs.Common.{◌≡◌, ◌∙◌, ◌+◌, ◌<◌, ◌≤◌, ◌/◌, ◌^◌, Bool, true, false, List, [], ◌∷◌, ◌++◌, length, Option, Some, None, Result, Ok, Err, ◌-◌, refl, sym, ap, subst, arith}
use Rattle.std.specs.Prelude.{nat_le, nat_lt, not, is_none, is_some, ◌||◌, if◌then◌else◌}
use Rattle.std.proofs.lemmas.Bool.{or_parts, ltb-false, leb-false, lt-leb, lt-ltb, le-ltb}
use Rattle.std.specs.Option.{option_map}
use Rattle.sii_words.specs.declared.run.Run.{Run}
use Rattle.jrn_format.specs.declared.journal.Entry.{Entry}
use Rattle.jrn_format.specs.Batch.{entry_size}
use Rattle.jrn_format.specs.Halves.{Place, Halves, entries_size, place_of, with_batch, batch_in}
use Rattle.jrn_format.proofs.SizeLaws.{payload_size, payload_one_more}
use Rattle.book_model.specs.declared.refusal.TheConstants.{QUEUE}
use Rattle.book_model.specs.declared.refusal.SubmitRefusal.{SubmitRefusal}
use Rattle.book_model.specs.declared.refusal.SubmitRefusal.TheVariants.{TooLarge, Full}
use Rattle.book_model.specs.Book.{Book, Doing}
use Rattle.book_model.specs.Book as book
use Rattle.book_model.specs.Submit.{entry_for, with_appended, is_full, is_too_large}
use Rattle.book_parts.specs.Room.{half_room}
use Rattle.book_parts.specs.Spot.{as_place}
use Rattle.book_parts.specs.declared.spot.Spot.{Spot}
use Rattle.book_parts.specs.Ledger.{appended, queued}
use Rattle.book_core.specs.declared.step.Step.{Step}
use Rattle.book_core.specs.declared.step.Step.TheVariants.{Resting, Payload, PayloadSync, OpenGate, OpenSync, CloseGate, CloseSync, FarGate, Mark, MarkSync, Version, VersionSync}
use Rattle.book_core.specs.Parts.{doing_of, book_of}
use Rattle.book_core.specs.Steps.{place_appended}
use Rattle.book_core.specs.Stands.{Stands}
use Rattle.book_core.specs.Submit.{room_for}
use Rattle.book_core.specs.declared.book.Core.TheInside.{Inside}
use Rattle.book_core.proofs.LedgerLaws.{queued-is}

-- ---- sizes

-- a batch of one command
pub size-alone : (entry : Entry) → entries_size (entry ∷ []) ≡ 8 + entry_size entry.runs
size-alone entry = omega (arith, payload_one_more [] entry, payload_size [])

-- a batch of the queue and one command more
pub size-after : (entries : List Entry) (entry : Entry) → entries_size (entries ++ entry ∷ []) ≡ entries_size entries + entry_size entry.runs
size-after entries entry = omega (arith, payload_one_more entries entry)

-- ---- the halves with the batch that is being appended

placed : (halves : Halves) (entries : List Entry) (p q : Place) → p ≡ q → with_batch halves p (batch_in halves p entries) ≡ with_batch halves q (batch_in halves q entries)
placed halves entries p q same = ap (λ (x : Place). with_batch halves x (batch_in halves x entries)) same

halves-appended : (halves : Halves) (entries : List Entry) (step : Step) (spot : Spot) → place_appended step ≡ Some (as_place spot)
    → with_appended halves (book.appended (doing_of entries step)) ≡ with_batch halves (as_place spot) (batch_in halves (as_place spot) entries)
halves-appended halves entries Resting spot is = absurd (cc is)
halves-appended halves entries (Payload s) spot is = placed halves entries (as_place s) (as_place spot) (cc is)
halves-appended halves entries (PayloadSync s) spot is = placed halves entries (as_place s) (as_place spot) (cc is)
halves-appended halves entries (OpenGate s) spot is = placed halves entries (as_place s) (as_place spot) (cc is)
halves-appended halves entries (OpenSync s) spot is = placed halves entries (as_place s) (as_place spot) (cc is)
halves-appended halves entries CloseGate spot is = absurd (cc is)
halves-appended halves entries CloseSync spot is = absurd (cc is)
halves-appended halves entries FarGate spot is = absurd (cc is)
halves-appended halves entries Mark spot is = absurd (cc is)
halves-appended halves entries MarkSync spot is = absurd (cc is)
halves-appended halves entries Version spot is = absurd (cc is)
halves-appended halves entries VersionSync spot is = absurd (cc is)

halves-alone : (halves : Halves) (entries : List Entry) (step : Step) → place_appended step ≡ None → with_appended halves (book.appended (doing_of entries step)) ≡ halves
halves-alone halves entries Resting is = refl
halves-alone halves entries (Payload s) is = absurd (cc is)
halves-alone halves entries (PayloadSync s) is = absurd (cc is)
halves-alone halves entries (OpenGate s) is = absurd (cc is)
halves-alone halves entries (OpenSync s) is = absurd (cc is)
halves-alone halves entries CloseGate is = refl
halves-alone halves entries CloseSync is = refl
halves-alone halves entries FarGate is = refl
halves-alone halves entries Mark is = refl
halves-alone halves entries MarkSync is = refl
halves-alone halves entries Version is = refl
halves-alone halves entries VersionSync is = refl

-- ---- whether the book is full

no-others : (a b x : Bool) → a ≡ false → b ≡ false → x ≡ (a || b || x)
no-others a b x p q = rw (p, q) refl

pub none-is : (given : Option Spot) (test : Bool) → is_some given ≡ not test → test ≡ is_none given
none-is (Some spot) true is = absurd (cc is)
none-is (Some spot) false is = refl
none-is None true is = refl
none-is None false is = absurd (cc is)

same-none : (given : Option Spot) (place : Option Place) → option_map as_place given ≡ place → is_none given ≡ is_none place
same-none (Some spot) place is = ap is_none is
same-none None place is = ap is_none is

-- a place for the queue and one command more, in these halves
full-is : (core : Inside) (runs : List Run) (given : Option Spot) → Stands core → length (queued core.ledger) < QUEUE → length core.ledger.accepted < 2 ^ 64 - 1
    → option_map as_place given ≡ place_of (half_room core.area) (with_appended core.area.halves (book.appended (book_of core).doing)) (queued core.ledger ++ entry_for (book_of core) runs ∷ [])
    → is_none given ≡ is_full (book_of core) runs
full-is core runs given stands few more place =
    let b = book_of core in
    let same = queued-is core stands in
    let short : nat_le QUEUE (length (queued core.ledger)) ≡ false = lt-leb QUEUE (length (queued core.ledger)) few in
    let left : nat_le (2 ^ 64 - 1) (length core.ledger.accepted) ≡ false = lt-leb (2 ^ 64 - 1) (length core.ledger.accepted) more in
    same-none given (place_of (half_room core.area) (with_appended core.area.halves (book.appended b.doing)) (book.queued b ++ entry_for b runs ∷ []))
    (place ∙ ap (λ (l : List Entry). place_of (half_room core.area) (with_appended core.area.halves (book.appended b.doing)) (l ++ entry_for b runs ∷ [])) same)
    ∙ no-others (nat_le QUEUE (length (book.queued b))) (nat_le (2 ^ 64 - 1) (length b.accepted))
    (is_none (place_of (half_room core.area) (with_appended core.area.halves (book.appended b.doing)) (book.queued b ++ entry_for b runs ∷ [])))
    (subst (λ (l : List Entry). nat_le QUEUE (length l) ≡ false) same short) left

-- after the batch that is being appended
pub full-after : (core : Inside) (runs : List Run) (given : Option Spot) (spot : Spot) → Stands core → length (queued core.ledger) < QUEUE → length core.ledger.accepted < 2 ^ 64 - 1 → place_appended core.step ≡ Some (as_place spot)
    → ((first entries : List Entry) → entries_size first ≡ entries_size (appended core.ledger) → entries_size entries ≡ entries_size (queued core.ledger) + entry_size runs
    → option_map as_place given ≡ place_of (half_room core.area) (with_batch core.area.halves (as_place spot) (batch_in core.area.halves (as_place spot) first)) entries)
    → is_none given ≡ is_full (book_of core) runs
full-after core runs given spot stands few more at place =
    let entry = entry_for (book_of core) runs in
    let entries = queued core.ledger ++ entry ∷ [] in
    full-is core runs given stands few more
    (place (appended core.ledger) entries refl (size-after (queued core.ledger) entry)
    ∙ ap (λ (h : Halves). place_of (half_room core.area) h entries) (sym (halves-appended core.area.halves (appended core.ledger) core.step spot at)))

-- after the live batches
pub full-alone : (core : Inside) (runs : List Run) (given : Option Spot) → Stands core → length (queued core.ledger) < QUEUE → length core.ledger.accepted < 2 ^ 64 - 1 → place_appended core.step ≡ None
    → ((entries : List Entry) → entries_size entries ≡ entries_size (queued core.ledger) + entry_size runs
    → option_map as_place given ≡ place_of (half_room core.area) core.area.halves entries)
    → is_none given ≡ is_full (book_of core) runs
full-alone core runs given stands few more at place =
    let entry = entry_for (book_of core) runs in
    let entries = queued core.ledger ++ entry ∷ [] in
    full-is core runs given stands few more
    (place entries (size-after (queued core.ledger) entry)
    ∙ ap (λ (h : Halves). place_of (half_room core.area) h entries) (sym (halves-alone core.area.halves (appended core.ledger) core.step at)))

-- ---- the answer

or-true : (a : Bool) → (a || true) ≡ true
or-true true = refl
or-true false = refl

pub too-large : (book : Book) (runs : List Run) → book.capacity / 2 < 9 + entry_size runs → Err TooLarge ≡ room_for book runs
too-large book runs large =
    let size = size-alone (entry_for book runs) in
    let test : nat_lt (book.capacity / 2) (entries_size (entry_for book runs ∷ []) + 1) ≡ true = lt-ltb (book.capacity / 2) (entries_size (entry_for book runs ∷ []) + 1) (omega (arith, size, large)) in
    rw (test, or-true (nat_lt 65535 (length runs))) refl

pub is-small : (book : Book) (runs : List Run) → length runs ≤ 65535 → 9 + entry_size runs ≤ book.capacity / 2 → is_too_large book runs ≡ false
is-small book runs few small =
    let size = size-alone (entry_for book runs) in
    let count : nat_lt 65535 (length runs) ≡ false = le-ltb 65535 (length runs) few in
    let test : nat_lt (book.capacity / 2) (entries_size (entry_for book runs ∷ []) + 1) ≡ false = le-ltb (book.capacity / 2) (entries_size (entry_for book runs ∷ []) + 1) (omega (arith, size, small)) in
    rw (count, test) refl

pub room-full : (book : Book) (runs : List Run) → is_too_large book runs ≡ false → is_full book runs ≡ true → Err Full ≡ room_for book runs
room-full book runs small full = rw (small, full) refl

pub room-left : (book : Book) (runs : List Run) → is_too_large book runs ≡ false → is_full book runs ≡ false → Ok tt ≡ room_for book runs
room-left book runs small more = rw (small, more) refl

-- ---- what room means

abbrev room : Bool → Bool → Result (Unit {0}) SubmitRefusal
room large full = if large then Err TooLarge else if full then Err Full else Ok tt

all-false : (large full : Bool) → room large full ≡ Ok tt → (large ≡ false) × (full ≡ false)
all-false true full is = absurd (cc is)
all-false false true is = absurd (cc is)
all-false false false is = (refl, refl)

pub few-runs : (book : Book) (runs : List Run) → room_for book runs ≡ Ok tt → length runs < 2 ^ 16
few-runs book runs room =
    let large = all-false (is_too_large book runs) (is_full book runs) room in
    let count = or_parts (nat_lt 65535 (length runs)) (nat_lt (book.capacity / 2) (entries_size (entry_for book runs ∷ []) + 1)) large.0 in
    omega (arith, ltb-false 65535 (length runs) count.0)

pub few-queued : (b : Book) (runs : List Run) → room_for b runs ≡ Ok tt → length (book.queued b) < QUEUE
few-queued b runs room =
    let full = (all-false (is_too_large b runs) (is_full b runs) room).1 in
    let first = or_parts (nat_le QUEUE (length (book.queued b)) || nat_le (2 ^ 64 - 1) (length b.accepted)) (is_none (place_of (book.room b) (with_appended b.halves (book.appended b.doing)) (book.queued b ++ entry_for b runs ∷ []))) full in
    let queue = or_parts (nat_le QUEUE (length (book.queued b))) (nat_le (2 ^ 64 - 1) (length b.accepted)) first.0 in
    omega (arith, leb-false QUEUE (length (book.queued b)) queue.0)
