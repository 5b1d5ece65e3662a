-- The batches read from a file fit its area, as conditions on the batches alone.
use Rattle.std.proofs.Common.{◌≡◌, ◌≢◌, inl, inr, ℕ, zero, suc, ◌+◌, ◌/◌, ◌%◌, ◌<◌, ◌≤◌, eqb, List, [], ◌∷◌, ◌++◌, length, refl, sym, ◌∙◌, ap, subst, arith, length-append}
use Rattle.std.specs.Prelude.{filter, not}
use Rattle.std.specs.List.{AllByRecursion}
use Rattle.std.specs.Int.{w32}
use Rattle.std.proofs.lemmas.Bool.{eq-eqb, ne_eqb}
use Rattle.std.proofs.lemmas.List.{append-nil}
use Rattle.std.proofs.lemmas.List.Elements.{filter-append}
use Rattle.jrn_format.specs.declared.journal.Batch.{Batch}
use Rattle.jrn_format.specs.declared.journal.Form.{Form}
use Rattle.jrn_format.specs.declared.journal.Form.TheVariants.{One, Two, Moving}
use Rattle.jrn_format.specs.declared.journal.Journal.{Journal}
use Rattle.jrn_format.specs.declared.journal.Spelling.{Spelling}
use Rattle.jrn_format.specs.declared.journal.Spelling.TheVariants.{Plain, WithGeneration}
use Rattle.jrn_format.specs.Batch.{CanStand}
use Rattle.jrn_format.specs.Area.{spelt_batches, IsLive}
use Rattle.jrn_format.specs.Header.{field_at, HasArea}
use Rattle.jrn_format.specs.Journal.{AreHalves, AreOf, IsInOrder, AreLive, HasLive, IsJournal}
use Rattle.jrn_format.proofs.Numbers.{wide32}
use Rattle.jrn_format.specs.Halves.{Halves, other, live}
use Rattle.jrn_format.specs.Live.{FitArea, halves_in, FitHalves, FitForm, CanBeLive}

-- ---- an area

pub live-fit : (spelling : Spelling) (half : ℕ) (area : List ℕ) (batches : List Batch) → IsLive spelling half area batches → FitArea spelling half (length area) batches
live-fit spelling half area batches lives = record {
  can_stand = lives.starts.can_stand;
  closes = omega (arith, ap length lives.starts.spelt, ap length lives.ends.3, length-append (spelt_batches spelling batches) lives.rest);
}

-- ---- the halves that hold batches

abbrev pub StandIn : ℕ → List Batch → Type 0
StandIn half batches = AllByRecursion (λ (batch : Batch). batch.half ≡ half) batches

pub all_stand : (spelling : Spelling) (half : ℕ) (batches : List Batch) → AllByRecursion (CanStand spelling half) batches → StandIn half batches
all_stand spelling half [] can = tt
all_stand spelling half (batch ∷ batches) can = (can.0.of_half, all_stand spelling half batches can.1)

those_in : (half : ℕ) (batches : List Batch) → StandIn half batches → filter (λ (b : Batch). eqb b.half half) batches ≡ batches
those_in half [] all = refl
those_in half (batch ∷ batches) all = rw (eq-eqb batch.half half all.0) (ap (λ (t : List Batch). batch ∷ t) (those_in half batches all.1))

none_out : (half : ℕ) (batches : List Batch) → StandIn half batches → filter (λ (b : Batch). not (eqb b.half half)) batches ≡ []
none_out half [] all = refl
none_out half (batch ∷ batches) all = rw (eq-eqb batch.half half all.0) (none_out half batches all.1)

separate : (half away : ℕ) (batch : Batch) → half ≢ away → batch.half ≡ away → batch.half ≢ half
separate half away batch differ is = λ e. differ (sym e ∙ is)

none_in : (half away : ℕ) (batches : List Batch) → half ≢ away → StandIn away batches → filter (λ (b : Batch). eqb b.half half) batches ≡ []
none_in half away [] differ all = refl
none_in half away (batch ∷ batches) differ all = rw (ne_eqb batch.half half (separate half away batch differ all.0)) (none_in half away batches differ all.1)

those_out : (half away : ℕ) (batches : List Batch) → half ≢ away → StandIn away batches → filter (λ (b : Batch). not (eqb b.half half)) batches ≡ batches
those_out half away [] differ all = refl
those_out half away (batch ∷ batches) differ all =
    rw (ne_eqb batch.half half (separate half away batch differ all.0)) (ap (λ (t : List Batch). batch ∷ t) (those_out half away batches differ all.1))

pub other_separate : (at : ℕ) → at ≢ other at
other_separate zero = λ e. absurd (omega arith)
other_separate (suc n) = λ e. absurd (omega arith)

-- the first batch and those of its half, and those of the other half after them
pub halves_in-split : (first : Batch) (batches newer : List Batch) → StandIn first.half batches → StandIn (other first.half) newer
    → halves_in ((first ∷ batches) ++ newer) ≡ record { at = first.half; generation = first.generation; older = first ∷ batches; newer = newer }
halves_in-split first batches newer here away =
    let at = first.half in
    let kept : filter (λ (b : Batch). eqb b.half at) (batches ++ newer) ≡ batches =
    filter-append (λ (b : Batch). eqb b.half at) batches newer
    ∙ ap (λ (t : List Batch). t ++ filter (λ (b : Batch). eqb b.half at) newer) (those_in at batches here)
    ∙ ap (λ (t : List Batch). batches ++ t) (none_in at (other at) newer (other_separate at) away) ∙ append-nil batches in
    let left : filter (λ (b : Batch). not (eqb b.half at)) (batches ++ newer) ≡ newer =
    filter-append (λ (b : Batch). not (eqb b.half at)) batches newer
    ∙ ap (λ (t : List Batch). t ++ filter (λ (b : Batch). not (eqb b.half at)) newer) (none_out at batches here)
    ∙ those_out at (other at) newer (other_separate at) away in
    rw (kept, left) refl

-- ---- both halves

-- they fit, and they are all of the batches
abbrev pub AllFit : ℕ → List Batch → Type 0
AllFit room batches = FitHalves room (halves_in batches) × (live (halves_in batches) ≡ batches)

generation_of : (half : ℕ) (batch : Batch) → CanStand WithGeneration half batch → batch.generation < 256
generation_of half batch can = can.generation

-- batches of the older half are in front
older_first : (room at generation : ℕ) (first : Batch) (batches newer : List Batch) → at ≤ 1 → FitArea WithGeneration at room (first ∷ batches) → FitArea WithGeneration (other at) room newer
    → AreOf generation (first ∷ batches) → AreOf ((generation + 1) % 256) newer → AllFit room ((first ∷ batches) ++ newer)
older_first room at generation first batches newer le old new old_of new_of =
    let here : first.half ≡ at = old.can_stand.0.of_half in
    let now : generation ≡ first.generation = sym old_of.0 in
    let halves : Halves = record { at = first.half; generation = first.generation; older = first ∷ batches; newer = newer } in
    let is : halves_in ((first ∷ batches) ++ newer) ≡ halves =
    halves_in-split first batches newer (subst (λ (n : ℕ). StandIn n batches) (sym here) (all_stand WithGeneration at batches old.can_stand.1))
    (subst (λ (n : ℕ). StandIn (other n) newer) (sym here) (all_stand WithGeneration (other at) newer new.can_stand)) in
    let fit : FitHalves room halves = record {
      at = omega (arith, here);
      generation = generation_of at first old.can_stand.0;
      older_fit = subst (λ (n : ℕ). FitArea WithGeneration n room (first ∷ batches)) (sym here) old;
      newer_fit = subst (λ (n : ℕ). FitArea WithGeneration (other n) room newer) (sym here) new;
      older_of = subst (λ (g : ℕ). AreOf g (first ∷ batches)) now old_of;
      newer_of = subst (λ (g : ℕ). AreOf ((g + 1) % 256) newer) now new_of;
    } in
    (subst (FitHalves room) (sym is) fit, ap live is)

no_generation : (generation : ℕ) → AreOf generation []
no_generation generation = tt

-- the older half is empty, so that the newer batches come first
newer_first : (room at generation : ℕ) (newer : List Batch) → at ≤ 1 → FitArea WithGeneration at room [] → FitArea WithGeneration (other at) room newer → AreOf generation newer → AllFit room newer
newer_first room at generation [] le old new new_of =
    (record { at = omega arith; generation = omega arith; older_fit = record { can_stand = tt; closes = old.closes }; newer_fit = record { can_stand = tt; closes = old.closes }; older_of = tt; newer_of = tt }, refl)
newer_first room at generation (first ∷ newer) le old new new_of =
    subst (AllFit room) (append-nil (first ∷ newer))
    (older_first room (other at) generation first newer [] (other_le at) new (record { can_stand = tt; closes = old.closes }) new_of tt)
  where
    other_le : (n : ℕ) → other n ≤ 1
    other_le zero = omega arith
    other_le (suc n) = omega arith

pub halves-fit : (room at generation : ℕ) (older newer : List Batch) → at ≤ 1 → FitArea WithGeneration at room older → FitArea WithGeneration (other at) room newer
    → AreOf generation older → AreOf ((generation + 1) % 256) newer → AllFit room (older ++ newer)
halves-fit room at generation [] newer le old new old_of new_of = newer_first room at ((generation + 1) % 256) newer le old new new_of
halves-fit room at generation (first ∷ older) newer le old new old_of new_of = older_first room at generation first older newer le old new old_of new_of

area_half : (area first second : List ℕ) → AreHalves area first second → (length first ≡ length area / 2) × (length second ≡ length area / 2)
area_half area first second h =
    let odd = h.odd in
    let equal = h.equal in
    let entire : length area ≡ length first + (length second + length h.last) = omega (arith, ap length h.entire, length-append first (second ++ h.last), length-append second h.last) in
    (omega arith, omega arith)

ordered-fit : (room : ℕ) (firsts seconds batches : List Batch) → FitArea WithGeneration 0 room firsts → FitArea WithGeneration 1 room seconds → IsInOrder firsts seconds batches → AllFit room batches
ordered-fit room firsts seconds batches one two (inl h) = subst (AllFit room) (sym h.1) (halves-fit room 0 h.0.0 firsts seconds (omega arith) one two h.0.1 h.0.2)
ordered-fit room firsts seconds batches one two (inr h) = subst (AllFit room) (sym h.1) (halves-fit room 1 h.0.0 seconds firsts (omega arith) two one h.0.1 h.0.2)

pub area-fit : (area : List ℕ) (batches : List Batch) → AreLive area batches → AllFit (length area / 2) batches
area-fit area batches lives =
    let long = area_half area lives.first lives.second lives.halves in
    ordered-fit (length area / 2) lives.firsts lives.seconds batches
    (subst (λ (n : ℕ). FitArea WithGeneration 0 n lives.firsts) long.0 (live-fit WithGeneration 0 lives.first lives.firsts lives.first_live))
    (subst (λ (n : ℕ). FitArea WithGeneration 1 n lives.seconds) long.1 (live-fit WithGeneration 1 lives.second lives.seconds lives.second_live))
    lives.in_order

-- ---- a journal

form-fit : (form : Form) (area : List ℕ) (batches : List Batch) → HasLive form area batches → FitForm form (length area) batches
form-fit One area batches lives = live-fit Plain 0 area batches lives
form-fit Two area batches lives = area-fit area batches lives
form-fit Moving area batches lives = lives

-- the capacity that the header states is that of the area
pub stated_capacity : (file : List ℕ) (slaves : ℕ) (form : Form) (area : List ℕ) → HasArea file slaves form area → field_at w32 4 file ≡ length area
stated_capacity file slaves form area h = ap (field_at w32 4) h.header.spelt ∙ wide32.again (length area) h.header.capacity_fits

pub journal-can-be-live : (file sizes : List ℕ) (journal : Journal) → IsJournal file sizes journal → CanBeLive journal.form (field_at w32 4 file) sizes journal.batches
journal-can-be-live file sizes journal h = record {
  fit = subst (λ (n : ℕ). FitForm journal.form n journal.batches) (sym (stated_capacity file (length sizes) journal.form h.area h.has_area)) (form-fit journal.form h.area journal.batches h.live);
  within = h.within;
}
