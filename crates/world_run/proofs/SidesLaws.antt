-- The halves of a line, one by one.
use Rattle.std.specs.Prelude.{◌↔◌}
use Rattle.std.proofs.Common.{◌≡◌, ◌∙◌, ◌⊎◌, IsTrue, inl, inr, ℕ, zero, suc, ◌+◌, ◌<◌, ◌≤◌, Bool, true, false, List, [], ◌∷◌, ◌++◌, length, Option, Some, None, get_or, slice_get, slice_set, refl, sym, ap, subst, arith, length-set}
use Rattle.std.proofs.lemmas.List.{map-append}
use Rattle.std.proofs.lemmas.Option.{slice_get_cases, slice_get_read, slice_get_within}
use Rattle.std.proofs.lemmas.Bool.Decides.{eqb_tells}
use Rattle.esc_model.specs.declared.rest.WordWrite.{WordWrite}
use Rattle.esc_model.specs.SlaveHalf.{SlaveHalf, Writing, MayRest, in_flight, powered_up}
use Rattle.esc_model.specs.Orders.{station}
use Rattle.esc_model.specs.WordAccess.{IsIdle, IsWell, TakesWord, IsWritingOrInError}
use Rattle.esc_model.proofs.Resting.{MayRest-station, MayEnd-is_idle}
use Rattle.world_run.specs.declared.leaving.LeftWord.{LeftWord}
use Rattle.world_run.specs.Left.{torn_half, word_left, TornBy}
use Rattle.world_run.specs.Sides.{StandsAt, SidesStand, HandsTo, IsPoweredUp, IsIdleAt, IsWellAt}
use Rattle.world_run.proofs.LeftLaws.{get-set_same, get-set_other}
use Rattle.sii_words.proofs.Quantifiers.{all_append}

-- ---- a half stands whatever happens to it

IsWriting-no_read : (word value : ℕ) (half : SlaveHalf) → IsWritingOrInError word value half → in_flight half.activity ≡ None → IsIdle half
IsWriting-no_read word value half (inl writing) none = (let e : in_flight (Writing word value) ≡ None = sym (ap in_flight writing.0) ∙ none in absurd cc)
IsWriting-no_read word value half (inr failed) none = failed.0

StandsAt-takes : (slave word value : ℕ) (half later : SlaveHalf) → StandsAt slave half → TakesWord slave word value half later → StandsAt slave later
StandsAt-takes slave word value half later stands takes = record { here = takes.station ∙ stands.here; no_read = IsWriting-no_read word value later takes.writes }

pub StandsAt-hands : (slave : ℕ) (takes : Bool) (word value : ℕ) (half : SlaveHalf) (taken : Bool) (later : SlaveHalf) → StandsAt slave half → HandsTo slave takes word value half taken later → StandsAt slave later
StandsAt-hands slave takes word value half true later stands hands = StandsAt-takes slave word value half later stands (hands.only refl).1
StandsAt-hands slave takes word value half false later stands hands = subst (StandsAt slave) (sym (hands.stays refl)) stands

pub StandsAt-rests : (slave : ℕ) (half later : SlaveHalf) → StandsAt slave half → MayRest half later → StandsAt slave later
StandsAt-rests slave half later stands (inl same) = subst (StandsAt slave) (sym same) stands
StandsAt-rests slave half later stands (inr ends) = record { here = MayRest-station half later (inr ends) ∙ stands.here; no_read = λ none. MayEnd-is_idle half.activity half later ends }

torn-station : (left : Option ℕ) (flying : Option WordWrite) (half : SlaveHalf) → (torn_half left flying half).station ≡ half.station
torn-station (Some left) (Some write) half = refl
torn-station (Some left) None half = refl
torn-station None flying half = refl

torn-no_read : (left : Option ℕ) (flying : Option WordWrite) (half : SlaveHalf) → (in_flight half.activity ≡ None → IsIdle half) → in_flight (torn_half left flying half).activity ≡ None → IsIdle (torn_half left flying half)
torn-no_read (Some left) (Some write) half no_read none = refl
torn-no_read (Some left) None half no_read none = no_read none
torn-no_read None flying half no_read none = no_read none

pub StandsAt-torn : (slave : ℕ) (half : SlaveHalf) (left : Option ℕ) → StandsAt slave half → StandsAt slave (torn_half left (in_flight half.activity) half)
StandsAt-torn slave half left stands = record { here = torn-station left (in_flight half.activity) half ∙ stands.here; no_read = torn-no_read left (in_flight half.activity) half stands.no_read }

-- ---- one half exchanged

pub SidesStand-set : (halves : List SlaveHalf) (took : List Bool) (slave : ℕ) (later : SlaveHalf) → SidesStand halves took → StandsAt slave later → SidesStand (slice_set halves slave later) took
SidesStand-set halves took slave later stand stands =
    let same : length (slice_set halves slave later) ≡ length halves = length-set halves slave later in
    let count = stand.count in
    let some = stand.some in
    let most = stand.most in
    record { count = omega arith; some = omega arith; most = omega arith; each = each }
  where
    each : (k : ℕ) (half : SlaveHalf) → slice_get (slice_set halves slave later) k ≡ Some half → StandsAt k half
    each k half here = elim (eqb_tells k slave) [
      | inl same ↦
          let below : k < length halves = (let w : k < length (slice_set halves slave later) = slice_get_within _ k half here in let e : length (slice_set halves slave later) ≡ length halves = length-set halves slave later in omega arith) in
          let is : Some later ≡ Some half = sym (subst (λ (i : ℕ). slice_get (slice_set halves slave later) i ≡ Some later) (sym same.1) (get-set_same halves slave later (subst (λ (i : ℕ). i < length halves) same.1 below))) ∙ here in
          let e : later ≡ half = cc in
          subst (StandsAt k) e (subst (λ (i : ℕ). StandsAt i later) (sym same.1) stands)
      | inr other ↦ stand.each k half (sym (get-set_other halves slave k later other.1) ∙ here)
    ]

pub SidesStand-took : (halves : List SlaveHalf) (took : List Bool) (slave : ℕ) (taken : Bool) → SidesStand halves took → SidesStand halves (slice_set took slave taken)
SidesStand-took halves took slave taken stand = record { count = length-set took slave taken ∙ stand.count; some = stand.some; most = stand.most; each = stand.each }

-- ---- all halves at a stop

pub SidesStand-torn : (choice : List LeftWord) (halves laters : List SlaveHalf) (took : List Bool) → SidesStand halves took → TornBy choice halves laters → SidesStand laters took
SidesStand-torn choice halves laters took stand torn =
    let same = torn.count in
    let count = stand.count in
    let some = stand.some in
    let most = stand.most in
    record { count = omega arith; some = omega arith; most = omega arith; each = each }
  where
    each : (k : ℕ) (later : SlaveHalf) → slice_get laters k ≡ Some later → StandsAt k later
    each k later here =
        elim (slice_get_cases halves k).1 [
          | inl there ↦
              let half = there.0 in
              let is : Some (torn_half (word_left choice k) (in_flight half.activity) half) ≡ Some later = sym (torn.each k half there.2) ∙ here in
              let e : torn_half (word_left choice k) (in_flight half.activity) half ≡ later = cc in
              subst (StandsAt k) e (StandsAt-torn k half (word_left choice k) (stand.each k half there.2))
          | inr past ↦ (let w : k < length laters = slice_get_within laters k later here in let same = torn.count in let p = past.0 in absurd (omega arith))
        ]

-- as far as the halves were gone through
pub record TornSoFar (choice : List LeftWord) (old new : List SlaveHalf) (at : ℕ) : Type 0 where
  pub count : length new ≡ length old
  pub done : (slave : ℕ) (half : SlaveHalf) → slave < at → slice_get old slave ≡ Some half → slice_get new slave ≡ Some (torn_half (word_left choice slave) (in_flight half.activity) half)
  pub rest : (slave : ℕ) → at ≤ slave → slice_get new slave ≡ slice_get old slave

pub torn-none : (choice : List LeftWord) (old : List SlaveHalf) → TornSoFar choice old old 0
torn-none choice old = record { count = refl; done = λ slave half below here. absurd (omega arith); rest = λ slave from. refl }

pub torn-more : (choice : List LeftWord) (old mid : List SlaveHalf) (at : ℕ) (half : SlaveHalf) → TornSoFar choice old mid at → at < length mid → slice_get mid at ≡ Some half
    → TornSoFar choice old (slice_set mid at (torn_half (word_left choice at) (in_flight half.activity) half)) (at + 1)
torn-more choice old mid at half far within here =
    record { count = length-set mid at later ∙ far.count; done = done; rest = λ slave from. get-set_other mid at slave later (λ e. absurd (omega (arith, e))) ∙ far.rest slave (omega arith) }
  where
    later : SlaveHalf
    later = torn_half (word_left choice at) (in_flight half.activity) half

    done : (slave : ℕ) (h : SlaveHalf) → slave < at + 1 → slice_get old slave ≡ Some h
        → slice_get (slice_set mid at (torn_half (word_left choice at) (in_flight half.activity) half)) slave ≡ Some (torn_half (word_left choice slave) (in_flight h.activity) h)
    done slave h below there = elim (eqb_tells slave at) [
      | inl same ↦
          let is : Some half ≡ Some h = sym here ∙ far.rest at (omega arith) ∙ ap (λ (i : ℕ). slice_get old i) (sym same.1) ∙ there in
          let e : half ≡ h = cc in
          subst (λ (x : SlaveHalf). slice_get (slice_set mid at (torn_half (word_left choice at) (in_flight half.activity) half)) slave ≡ Some (torn_half (word_left choice slave) (in_flight x.activity) x)) e
          (subst (λ (i : ℕ). slice_get (slice_set mid at (torn_half (word_left choice at) (in_flight half.activity) half)) i ≡ Some (torn_half (word_left choice i) (in_flight half.activity) half)) (sym same.1)
          (get-set_same mid at (torn_half (word_left choice at) (in_flight half.activity) half) within))
      | inr other ↦ (let ne = other.1 in get-set_other mid at slave _ ne ∙ far.done slave h (omega (arith, ne)) there)
    ]

pub torn-all : (choice : List LeftWord) (old new : List SlaveHalf) (at : ℕ) → TornSoFar choice old new at → length old ≤ at → TornBy choice old new
torn-all choice old new at far all = record { count = far.count; each = λ slave half here. far.done slave half (let w : slave < length old = slice_get_within old slave half here in omega arith) here }

-- ---- halves that are switched on

get-last : {A : Type 0} (xs : List A) (y : A) (k : ℕ) (x : A) → slice_get (xs ++ y ∷ []) k ≡ Some x → (slice_get xs k ≡ Some x) ⊎ ((k ≡ length xs) × (y ≡ x))
get-last [] y zero x here = inr (refl, (let e : Some y ≡ Some x = here in cc))
get-last [] y (suc k) x here = absurd cc
get-last (z ∷ zs) y zero x here = inl here
get-last (z ∷ zs) y (suc k) x here = elim (get-last zs y k x here) [ inl there ↦ inl there | inr last ↦ inr (ap suc last.0, last.1) ]

pub powered-none : IsPoweredUp [] []
powered-none = record { words = refl; idle = tt; each = λ slave half here. absurd cc }

pub powered-more : (contents : List (List ℕ)) (halves : List SlaveHalf) (words : List ℕ) (half : SlaveHalf) → IsPoweredUp contents halves → half ≡ powered_up words (station (length halves))
    → IsPoweredUp (contents ++ words ∷ []) (halves ++ half ∷ [])
powered-more contents halves words half on is = record {
  words = map-append (λ (h : SlaveHalf). h.words) halves (half ∷ []) ∙ ap (λ (l : List (List ℕ)). l ++ half.words ∷ []) on.words ∙ ap (λ (w : List ℕ). contents ++ w ∷ []) (ap (λ (h : SlaveHalf). h.words) is);
  idle = all_append IsIdle halves (half ∷ []) on.idle (ap (λ (h : SlaveHalf). h.activity) is, tt);
  each = λ slave h here. elim (get-last halves half slave h here) [
    | inl there ↦ on.each slave h there
    | inr last ↦ ap (λ (x : SlaveHalf). x.station) (sym last.1) ∙ ap (λ (x : SlaveHalf). x.station) is ∙ ap station (sym last.0)
  ];
}

-- ---- what is seen of one slave

pub idle-at : (halves : List SlaveHalf) (slave : ℕ) (half : SlaveHalf) (answer : Bool) → slice_get halves slave ≡ Some half → IsTrue answer ↔ IsIdle half → IsTrue answer ↔ IsIdleAt halves slave
idle-at halves slave half answer here is =
    (λ yes. record { half = half; here = here; idle = is.0 yes }, λ at. is.1 (let both : Some at.half ≡ Some half = sym at.here ∙ here in let e : at.half ≡ half = cc in subst IsIdle e at.idle))

pub well-at : (halves : List SlaveHalf) (slave : ℕ) (half : SlaveHalf) (answer : Bool) → slice_get halves slave ≡ Some half → IsTrue answer ↔ IsWell half → IsTrue answer ↔ IsWellAt halves slave
well-at halves slave half answer here is =
    (λ yes. record { half = half; here = here; well = is.0 yes }, λ at. is.1 (let both : Some at.half ≡ Some half = sym at.here ∙ here in let e : at.half ≡ half = cc in subst IsWell e at.well))

-- an index that reads a half
pub read-at : (halves : List SlaveHalf) (i slave : ℕ) (half : SlaveHalf) → slave < length halves → i ≡ slave → half ≡ get_or halves i half → slice_get halves slave ≡ Some half
read-at halves i slave half inside is read = slice_get_read halves (length halves) slave half refl inside (read ∙ ap (λ (k : ℕ). get_or halves k half) is)
