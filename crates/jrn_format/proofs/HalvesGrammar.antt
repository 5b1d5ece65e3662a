-- The two halves of an area: they are read as the grammar says, and can't be read exactly where the grammar says so.
use Rattle.std.proofs.Common.{◌≡◌, ℕ, ◌+◌, ◌/◌, ◌<◌, ◌≤◌, List, [], ◌∷◌, ◌++◌, length, take, drop, Result, Ok, Err, refl, sym, ap, subst, ◌∙◌, arith, inl, inr}
use Rattle.std.specs.List.{AllByRecursion}
use Rattle.std.proofs.lemmas.List.{length-append, length-take, length-drop, take_at, drop_at, take-append-drop}
use Rattle.jrn_format.specs.declared.journal.Batch.{Batch}
use Rattle.jrn_format.specs.declared.journal.Spelling.TheVariants.{WithGeneration}
use Rattle.jrn_format.specs.declared.fault.JournalFault.{JournalFault}
use Rattle.jrn_format.specs.Batch.{IsWithin}
use Rattle.jrn_format.specs.Area.{IsLive}
use Rattle.jrn_format.specs.Journal.{AreHalves, IsInOrder, AreLive}
use Rattle.jrn_format.specs.Fault.{AreCut}
use Rattle.jrn_format.specs.Fault.AreCut.{cut_first, cut_second, disordered}
use Rattle.jrn_format.specs.steps.Reading.{◌>>>◌, batches_of, in_order, halves_of}
use Rattle.jrn_format.proofs.Numbers.{IsBytes, IsBytes-take, IsBytes-drop}
use Rattle.jrn_format.proofs.Areas.{bind_ok, area_live, area_cut, live_area, cut_area}
use Rattle.jrn_format.proofs.Order.{order_is, order_again, order_fault, no_order}

-- ---- the places of the halves

half_is : (area first second : List ℕ) → AreHalves area first second → length area / 2 ≡ length first
half_is area first second h =
    let odd = h.odd in
    let equal = h.equal in
    omega (arith, ap length h.entire, length-append first (second ++ h.last), length-append second h.last)

first_is : (area first second : List ℕ) → AreHalves area first second → take (length area / 2) area ≡ first
first_is area first second h =
    ap (λ (n : ℕ). take n area) (half_is area first second h) ∙ ap (take (length first)) h.entire ∙ take_at first (second ++ h.last) (length first) refl

second_is : (area first second : List ℕ) → AreHalves area first second → take (length area / 2) (drop (length area / 2) area) ≡ second
second_is area first second h =
    ap (λ (n : ℕ). take n (drop n area)) (half_is area first second h)
    ∙ ap (λ (t : List ℕ). take (length first) (drop (length first) t)) h.entire
    ∙ ap (take (length first)) (drop_at first (second ++ h.last) (length first) refl)
    ∙ take_at second h.last (length first) (sym h.equal)

-- every area has its halves
pub halves_here : (area : List ℕ) → AreHalves area (take (length area / 2) area) (take (length area / 2) (drop (length area / 2) area))
halves_here area =
    let half = length area / 2 in
    record {
      equal = omega (arith, length-take half area, length-take half (drop half area), length-drop half area);
      last = drop half (drop half area);
      odd = omega (arith, length-drop half (drop half area), length-drop half area);
      entire = sym (ap (λ (t : List ℕ). take half area ++ t) (take-append-drop half (drop half area)) ∙ take-append-drop half area);
    }

-- both are read, and then put in order
abbrev both : List ℕ → List ℕ → List ℕ → Result (List Batch) JournalFault
both sizes first second =
    batches_of WithGeneration 0 sizes (8 + length first) first >>> λ firsts.
    batches_of WithGeneration 1 sizes (8 + length first + length second) second >>> λ seconds.
    in_order firsts seconds

halves_of-both : (sizes area first second : List ℕ) → AreHalves area first second → halves_of sizes area ≡ both sizes first second
unfolding halves_of
halves_of-both sizes area first second h =
    ap (λ (half : ℕ). batches_of WithGeneration 0 sizes (8 + half) (take (length area / 2) area) >>> λ firsts.
    batches_of WithGeneration 1 sizes (8 + half + half) (take (length area / 2) (drop (length area / 2) area)) >>> λ seconds. in_order firsts seconds) (half_is area first second h)
    ∙ ap (λ (t : List ℕ). batches_of WithGeneration 0 sizes (8 + length first) t >>> λ firsts.
    batches_of WithGeneration 1 sizes (8 + length first + length first) (take (length area / 2) (drop (length area / 2) area)) >>> λ seconds. in_order firsts seconds) (first_is area first second h)
    ∙ ap (λ (t : List ℕ). batches_of WithGeneration 0 sizes (8 + length first) first >>> λ firsts.
    batches_of WithGeneration 1 sizes (8 + length first + length first) t >>> λ seconds. in_order firsts seconds) (second_is area first second h)
    ∙ ap (λ (n : ℕ). batches_of WithGeneration 0 sizes (8 + length first) first >>> λ firsts.
    batches_of WithGeneration 1 sizes (8 + length first + n) second >>> λ seconds. in_order firsts seconds) h.equal

-- ---- batches of both halves

pub All-join : (P : Batch → Type 0) (xs ys : List Batch) → AllByRecursion P xs → AllByRecursion P ys → AllByRecursion P (xs ++ ys)
All-join P [] ys f g = g
All-join P (x ∷ xs) ys f g = (f.0, All-join P xs ys f.1 g)

All-front : (P : Batch → Type 0) (xs ys : List Batch) → AllByRecursion P (xs ++ ys) → AllByRecursion P xs
All-front P [] ys h = tt
All-front P (x ∷ xs) ys h = (h.0, All-front P xs ys h.1)

All-after : (P : Batch → Type 0) (xs ys : List Batch) → AllByRecursion P (xs ++ ys) → AllByRecursion P ys
All-after P [] ys h = h
All-after P (x ∷ xs) ys h = All-after P xs ys h.1

in_order_all : (P : Batch → Type 0) (firsts seconds batches : List Batch) → IsInOrder firsts seconds batches → AllByRecursion P firsts → AllByRecursion P seconds → AllByRecursion P batches
in_order_all P firsts seconds batches (inl h) f g = rw h.1 (All-join P firsts seconds f g)
in_order_all P firsts seconds batches (inr h) f g = rw h.1 (All-join P seconds firsts g f)

firsts_all : (P : Batch → Type 0) (firsts seconds batches : List Batch) → IsInOrder firsts seconds batches → AllByRecursion P batches → AllByRecursion P firsts
firsts_all P firsts seconds batches (inl h) all = All-front P firsts seconds (rw h.1 at all)
firsts_all P firsts seconds batches (inr h) all = All-after P seconds firsts (rw h.1 at all)

seconds_all : (P : Batch → Type 0) (firsts seconds batches : List Batch) → IsInOrder firsts seconds batches → AllByRecursion P batches → AllByRecursion P seconds
seconds_all P firsts seconds batches (inl h) all = All-after P firsts seconds (rw h.1 at all)
seconds_all P firsts seconds batches (inr h) all = All-front P seconds firsts (rw h.1 at all)

-- ---- what is read is live

some_half : (area first second : List ℕ) → AreHalves area first second → 2 ≤ length area → (0 < length first) × (0 < length second)
some_half area first second h some =
    let half = half_is area first second h in
    let equal = h.equal in
    (omega arith, omega arith)

pub halves_live : (sizes area : List ℕ) (batches : List Batch) → IsBytes area → 2 ≤ length area → halves_of sizes area ≡ Ok batches → AreLive area batches × AllByRecursion (IsWithin sizes) batches
halves_live sizes area batches good some e =
    let half = length area / 2 in
    let first = take half area in
    let second = take half (drop half area) in
    let halves = halves_here area in
    let nonempty = some_half area first second halves some in
    let a = bind_ok (batches_of WithGeneration 0 sizes (8 + length first) first) (λ firsts. batches_of WithGeneration 1 sizes (8 + length first + length second) second >>> λ seconds. in_order firsts seconds) batches
    (sym (halves_of-both sizes area first second halves) ∙ e) in
    let b = bind_ok (batches_of WithGeneration 1 sizes (8 + length first + length second) second) (λ seconds. in_order a.0 seconds) batches a.2 in
    let firsts = area_live WithGeneration 0 sizes (8 + length first) first a.0 (IsBytes-take half area good) nonempty.0 a.1 in
    let seconds = area_live WithGeneration 1 sizes (8 + length first + length second) second b.0 (IsBytes-take half (drop half area) (IsBytes-drop half area good)) nonempty.1 b.1 in
    let order = order_is a.0 b.0 batches b.2 in (
      record { first = first; second = second; halves = halves; firsts = a.0; seconds = b.0; first_live = firsts.0; second_live = seconds.0; in_order = order },
      in_order_all (IsWithin sizes) a.0 b.0 batches order firsts.1 seconds.1,
    )

-- ---- where nothing is read, a half is cut or the generations don't follow one another

second_cut : (sizes area first second : List ℕ) (firsts : List Batch) (fault : JournalFault) (read : Result (List Batch) JournalFault) → AreHalves area first second → IsBytes second → 0 < length second
    → IsLive WithGeneration 0 first firsts → AllByRecursion (IsWithin sizes) firsts → batches_of WithGeneration 1 sizes (8 + length first + length second) second ≡ read
    → (read >>> λ seconds. in_order firsts seconds) ≡ Err fault → AreCut sizes area fault
second_cut sizes area first second firsts fault (Ok seconds) halves good some live within e h =
    let second_live = area_live WithGeneration 1 sizes (8 + length first + length second) second seconds good some e in
    let none = order_fault firsts seconds fault h in
    disordered first second firsts seconds halves live within second_live.0 second_live.1 none.0 none.1
second_cut sizes area first second firsts fault (Err other) halves good some live within e h =
    let same : other ≡ fault = cc in
    cut_second first second firsts halves live within
    (area_cut WithGeneration 1 sizes (8 + length first + length second) second fault good (omega arith) (e ∙ ap (λ (f : JournalFault). Err f) same))

first_cut : (sizes area first second : List ℕ) (fault : JournalFault) (read : Result (List Batch) JournalFault) → AreHalves area first second → IsBytes first → IsBytes second → 0 < length first → 0 < length second
    → batches_of WithGeneration 0 sizes (8 + length first) first ≡ read
    → (read >>> λ firsts. batches_of WithGeneration 1 sizes (8 + length first + length second) second >>> λ seconds. in_order firsts seconds) ≡ Err fault → AreCut sizes area fault
first_cut sizes area first second fault (Ok firsts) halves good good' some some' e h =
    let live = area_live WithGeneration 0 sizes (8 + length first) first firsts good some e in
    second_cut sizes area first second firsts fault (batches_of WithGeneration 1 sizes (8 + length first + length second) second) halves good' some' live.0 live.1 refl h
first_cut sizes area first second fault (Err other) halves good good' some some' e h =
    let same : other ≡ fault = cc in
    cut_first first second halves (area_cut WithGeneration 0 sizes (8 + length first) first fault good (omega arith) (e ∙ ap (λ (f : JournalFault). Err f) same))

pub halves_cut : (sizes area : List ℕ) (fault : JournalFault) → IsBytes area → 2 ≤ length area → halves_of sizes area ≡ Err fault → AreCut sizes area fault
halves_cut sizes area fault good some e =
    let half = length area / 2 in
    let first = take half area in
    let second = take half (drop half area) in
    let halves = halves_here area in
    let nonempty = some_half area first second halves some in
    first_cut sizes area first second fault (batches_of WithGeneration 0 sizes (8 + length first) first) halves (IsBytes-take half area good) (IsBytes-take half (drop half area) (IsBytes-drop half area good))
    nonempty.0 nonempty.1 refl (sym (halves_of-both sizes area first second halves) ∙ e)

-- ---- the other way round

pub live_halves : (sizes area : List ℕ) (batches : List Batch) → AreLive area batches → AllByRecursion (IsWithin sizes) batches → halves_of sizes area ≡ Ok batches
live_halves sizes area batches live within =
    let firsts = firsts_all (IsWithin sizes) live.firsts live.seconds batches live.in_order within in
    let seconds = seconds_all (IsWithin sizes) live.firsts live.seconds batches live.in_order within in
    halves_of-both sizes area live.first live.second live.halves
    ∙ ap (λ r. r >>> λ firsts. batches_of WithGeneration 1 sizes (8 + length live.first + length live.second) live.second >>> λ seconds. in_order firsts seconds)
    (live_area WithGeneration 0 sizes (8 + length live.first) live.first live.firsts live.first_live firsts)
    ∙ ap (λ r. r >>> λ seconds. in_order live.firsts seconds)
    (live_area WithGeneration 1 sizes (8 + length live.first + length live.second) live.second live.seconds live.second_live seconds)
    ∙ order_again live.firsts live.seconds batches live.in_order

halves_bytes : (area first second : List ℕ) → AreHalves area first second → IsBytes area → IsBytes first × IsBytes second
halves_bytes area first second h good = (
  subst IsBytes (first_is area first second h) (IsBytes-take (length area / 2) area good),
  subst IsBytes (second_is area first second h) (IsBytes-take (length area / 2) (drop (length area / 2) area) (IsBytes-drop (length area / 2) area good)),
)

pub cut_halves : (sizes area : List ℕ) (fault : JournalFault) → IsBytes area → AreCut sizes area fault → halves_of sizes area ≡ Err fault
cut_halves sizes area fault good (cut_first first second halves cut) =
    halves_of-both sizes area first second halves
    ∙ ap (λ r. r >>> λ firsts. batches_of WithGeneration 1 sizes (8 + length first + length second) second >>> λ seconds. in_order firsts seconds)
    (cut_area WithGeneration 0 sizes (8 + length first) first fault (halves_bytes area first second halves good).0 cut)
cut_halves sizes area fault good (cut_second first second firsts halves live within cut) =
    halves_of-both sizes area first second halves
    ∙ ap (λ r. r >>> λ firsts. batches_of WithGeneration 1 sizes (8 + length first + length second) second >>> λ seconds. in_order firsts seconds)
    (live_area WithGeneration 0 sizes (8 + length first) first firsts live within)
    ∙ ap (λ r. r >>> λ seconds. in_order firsts seconds)
    (cut_area WithGeneration 1 sizes (8 + length first + length second) second fault (halves_bytes area first second halves good).1 cut)
cut_halves sizes area fault good (disordered first second firsts seconds halves live within live' within' none is) =
    halves_of-both sizes area first second halves
    ∙ ap (λ r. r >>> λ firsts. batches_of WithGeneration 1 sizes (8 + length first + length second) second >>> λ seconds. in_order firsts seconds)
    (live_area WithGeneration 0 sizes (8 + length first) first firsts live within)
    ∙ ap (λ r. r >>> λ seconds. in_order firsts seconds)
    (live_area WithGeneration 1 sizes (8 + length first + length second) second seconds live' within')
    ∙ no_order firsts seconds none ∙ ap (λ (f : JournalFault). Err f) (sym is)
