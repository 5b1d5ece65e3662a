-- Batches as they were read, one after the other.
use Rattle.std.proofs.Common.{◌≡◌, ◌∙◌, ℕ, zero, suc, ◌+◌, ◌≤◌, ◌<◌, Bool, true, false, eqb, List, [], ◌∷◌, ◌++◌, length, take, drop, get_or, refl, sym, ap, subst, arith}
use Rattle.std.specs.Prelude.{filter, not, if◌then◌else◌}
use Rattle.std.specs.List.{AllByRecursion}
use Rattle.std.proofs.lemmas.Bool.{eq-eqb}
use Rattle.std.proofs.lemmas.List.{append-nil, take_more, take-append-drop}
use Rattle.std.proofs.lemmas.List.Elements.{filter-append}
use Rattle.jrn_format.specs.declared.journal.Batch.{Batch}
use Rattle.jrn_format.specs.declared.journal.Form.{Form}
use Rattle.jrn_format.specs.declared.journal.Form.TheVariants.{One, Two, Moving}
use Rattle.jrn_format.specs.declared.journal.Spelling.{Spelling}
use Rattle.jrn_format.specs.declared.journal.Spelling.TheVariants.{WithGeneration}
use Rattle.jrn_format.specs.Batch.{CanStand, PayloadFits}
use Rattle.jrn_format.specs.Halves.{Halves, Place, InOlder, InNewer, batches_in, with_batch, other}
use Rattle.jrn_format.specs.Live.{FitForm, halves_in}
use Rattle.book_parts.specs.Room.{Room, room_of, bytes_in}
use Rattle.book_parts.proofs.SizeLaws.{bytes-append}

-- ---- what fits

abbrev pub PayloadsFit : List Batch → Type 0
PayloadsFit [] = Unit {0}
PayloadsFit (batch ∷ batches) = PayloadFits batch.entries × PayloadsFit batches

payloads : (spelling : Spelling) (half : ℕ) (batches : List Batch) → AllByRecursion (CanStand spelling half) batches → PayloadsFit batches
payloads spelling half [] can = tt
payloads spelling half (batch ∷ batches) can = (can.0.payload, payloads spelling half batches can.1)

payloads-append : (xs ys : List Batch) → PayloadsFit xs → PayloadsFit ys → PayloadsFit (xs ++ ys)
payloads-append [] ys one two = two
payloads-append (x ∷ xs) ys one two = (one.0, payloads-append xs ys one.1 two)

pub payloads-fit : (form : Form) (capacity : ℕ) (batches : List Batch) → FitForm form capacity batches → PayloadsFit batches
payloads-fit One capacity batches fit = payloads _ 0 batches fit.can_stand
payloads-fit Two capacity batches fit =
    let halves = halves_in batches in
    subst PayloadsFit fit.1 (payloads-append halves.older halves.newer (payloads WithGeneration halves.at halves.older fit.0.older_fit.can_stand) (payloads WithGeneration (other halves.at) halves.newer fit.0.newer_fit.can_stand))
payloads-fit Moving capacity batches fit = subst PayloadsFit (sym fit) tt

pub payload-at : (batches : List Batch) (i : ℕ) (batch : Batch) → PayloadsFit batches → i < length batches → batch ≡ get_or batches i batch → PayloadFits batch.entries
payload-at [] i batch fit lt is = absurd (omega arith)
payload-at (b ∷ bs) zero batch fit lt is = subst (λ (x : Batch). PayloadFits x.entries) (sym is) fit.0
payload-at (b ∷ bs) (suc i) batch fit lt is = payload-at bs i batch fit.1 (omega arith) is

-- all batches together fit into the area
pub all-bytes : (form : Form) (capacity : ℕ) (batches : List Batch) → FitForm form capacity batches → bytes_in form batches ≤ capacity
all-bytes One capacity batches fit = omega (arith, fit.closes)
all-bytes Two capacity batches fit =
    let halves = halves_in batches in
    omega (arith, ap (bytes_in Two) fit.1, bytes-append Two halves.older halves.newer, fit.0.older_fit.closes, fit.0.newer_fit.closes)
all-bytes Moving capacity batches fit = omega (arith, ap (bytes_in Moving) fit)

-- ---- one batch after the other

-- some of the batches take no more bytes than all
kept : (form : Form) (batch : Batch) (some batches : List Batch) (b : Bool) → bytes_in form some ≤ bytes_in form batches
    → bytes_in form (if b then batch ∷ some else some) ≤ bytes_in form (batch ∷ batches)
kept form batch some batches true le = omega (arith, le, bytes-append form (batch ∷ []) some, bytes-append form (batch ∷ []) batches)
kept form batch some batches false le = omega (arith, le, bytes-append form (batch ∷ []) batches)

filter-bytes : (form : Form) (p : Batch → Bool) (batches : List Batch) → bytes_in form (filter p batches) ≤ bytes_in form batches
filter-bytes form p [] = omega arith
filter-bytes form p (batch ∷ batches) = kept form batch (filter p batches) batches (p batch) (filter-bytes form p batches)

first-bytes : (form : Form) (i : ℕ) (batches : List Batch) → bytes_in form (take i batches) ≤ bytes_in form batches
first-bytes form i batches =
    omega (arith, bytes-append form (take i batches) (drop i batches), ap (bytes_in form) (take-append-drop i batches))

-- those of the half `at` are the older ones
abbrev pub stands_at : ℕ → Batch → Bool
stands_at at batch = eqb batch.half at

abbrev pub separate : Form → (capacity at generation : ℕ) → List Batch → Room
separate form capacity at generation batches =
    room_of form capacity at generation (filter (stands_at at) batches) (filter (λ (b : Batch). not (stands_at at b)) batches)

abbrev pub place_by : Bool → Place
place_by true = InOlder
place_by false = InNewer

-- a batch of the half goes behind the older ones, another one behind the newer
place-more : (at generation : ℕ) (batches : List Batch) (batch : Batch) (b : Bool) → stands_at at batch ≡ b
    → with_batch (record { at = at; generation = generation; older = filter (stands_at at) batches; newer = filter (λ (b : Batch). not (stands_at at b)) batches }) (place_by b) batch
    ≡ record { at = at; generation = generation; older = filter (stands_at at) (batches ++ batch ∷ []); newer = filter (λ (b : Batch). not (stands_at at b)) (batches ++ batch ∷ []) }
place-more at generation batches batch true is =
    rw (filter-append (stands_at at) batches (batch ∷ []), filter-append (λ (b : Batch). not (stands_at at b)) batches (batch ∷ []), is) (rw (append-nil (filter (λ (b : Batch). not (stands_at at b)) batches)) refl)
place-more at generation batches batch false is =
    rw (filter-append (stands_at at) batches (batch ∷ []), filter-append (λ (b : Batch). not (stands_at at b)) batches (batch ∷ []), is) (rw (append-nil (filter (stands_at at) batches)) refl)

one_more : (batches : List Batch) (i : ℕ) (batch : Batch) → i < length batches → batch ≡ get_or batches i batch → take i batches ++ batch ∷ [] ≡ take (i + 1) batches
one_more batches i batch lt is = ap (λ (b : Batch). take i batches ++ b ∷ []) is ∙ sym (take_more batches i batch lt)

pub separate-more : (form : Form) (capacity at generation : ℕ) (batches : List Batch) (i : ℕ) (batch : Batch) → i < length batches → batch ≡ get_or batches i batch
    → with_batch (separate form capacity at generation (take i batches)).halves (place_by (stands_at at batch)) batch ≡ (separate form capacity at generation (take (i + 1) batches)).halves
separate-more form capacity at generation batches i batch lt is =
    place-more at generation (take i batches) batch (stands_at at batch) refl
    ∙ ap (λ (l : List Batch). (separate form capacity at generation l).halves) (one_more batches i batch lt is)

half-bytes : (form : Form) (capacity at generation : ℕ) (batches : List Batch) (place : Place)
    → bytes_in form (batches_in (separate form capacity at generation batches).halves place) ≤ bytes_in form batches
half-bytes form capacity at generation batches InOlder = filter-bytes form (stands_at at) batches
half-bytes form capacity at generation batches InNewer = filter-bytes form (λ (b : Batch). not (stands_at at b)) batches

pub one-more-fits : (form : Form) (capacity at generation : ℕ) (batches : List Batch) (i : ℕ) (batch : Batch) → bytes_in form batches ≤ capacity → i < length batches → batch ≡ get_or batches i batch
    → bytes_in form (batches_in (with_batch (separate form capacity at generation (take i batches)).halves (place_by (stands_at at batch)) batch) (place_by (stands_at at batch))) ≤ capacity
one-more-fits form capacity at generation batches i batch all lt is =
    let place = place_by (stands_at at batch) in
    let here = ap (λ (h : Halves). bytes_in form (batches_in h place)) (separate-more form capacity at generation batches i batch lt is) in
    omega (arith, here, half-bytes form capacity at generation (take (i + 1) batches) place, first-bytes form (i + 1) batches, all)

pub separate-is : (form : Form) (capacity : ℕ) (batches : List Batch)
    → separate form capacity (halves_in batches).at (halves_in batches).generation batches ≡ record { form = form; capacity = capacity; halves = halves_in batches }
separate-is form capacity [] = refl
separate-is form capacity (batch ∷ batches) = rw (eq-eqb batch.half batch.half refl) refl
