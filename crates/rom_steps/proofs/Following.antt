-- What follows one datagram of a course.
use Rattle.std.proofs.Common.{◌≡◌, ◌≢◌, ℕ, suc, ◌+◌, ◌<◌, List, [], ◌∷◌, ◌++◌, Result, Ok, Err, IsErr, refl, sym, ap, subst, ◌∙◌, inl, inr, arith, append_assoc}
use Rattle.std.proofs.lemmas.List.{append-nil}
use Rattle.std.proofs.lemmas.Bool.{false≢true}
use Rattle.ecat_frame.specs.Frame.{Pdu}
use Rattle.site_core.specs.declared.fault.DeviceFault.{DeviceFault}
use Rattle.site_core.specs.declared.fault.DeviceFault.TheVariants as device
use Rattle.rom_steps.specs.declared.step.Stop.{Stop}
use Rattle.rom_steps.specs.Courses.{Asked, Course, IsHeard, Asks, Ends, Then, Rounds, no_round, one_more, UpTo}
use Rattle.rom_steps.specs.Remaining.{Follows}

-- a datagram, and what came back for it
abbrev pub asked : ℕ → Pdu → Result Pdu DeviceFault → Asked
asked slave order back = record { slave = slave; order = order; back = back }

-- Each log and result of the one course are of the other.
abbrev pub Within : {T : Type 0} → Course T → Course T → Type 0
Within {T} inner outer = (log : List Asked) → (result : Result T Stop) → inner log result → outer log result

pub follows-within : {T : Type 0} (course : Course T) (first : Asked) (outer inner : Course T) → Follows course first outer → Within inner outer → Follows course first inner
follows-within course first outer inner follows within log result so = follows log result (within log result so)

pub asks-so : {T : Type 0} (reported : Pdu → T) (lost : T) (slave : ℕ) (order : Pdu) (back : Result Pdu DeviceFault) (value : T) → IsHeard reported lost back (Ok value)
    → Asks slave order reported lost (asked slave order back ∷ []) (Ok value)
asks-so reported lost slave order back value heard = (back, refl, heard)

-- ONE COURSE BEHIND ANOTHER

module _ {T V : Type 0} (first : Course T) (next : T → Course V) where
  pub then-on : (one : Asked) (rest : Course T) → Follows first one rest → Follows (Then first next) one (Then rest next)
  then-on one rest follows log result (inl on) = inl (record {
    value = on.value;
    front = one ∷ on.front;
    after = on.after;
    log_is = ap (λ (l : List Asked). one ∷ l) on.log_is;
    came_to = follows on.front (Ok on.value) on.came_to;
    goes_on = on.goes_on;
  })
  then-on one rest follows log result (inr stops) = inr (stops.0, follows log (Err stops.0) stops.1, stops.2)

  pub then-next : (one : Asked) (value : T) → first (one ∷ []) (Ok value) → Follows (Then first next) one (next value)
  then-next one value came log result more = inl (record { value = value; front = one ∷ []; after = log; log_is = refl; came_to = came; goes_on = more })

  pub then-value : (log : List Asked) (value : T) (last : V) → first log (Ok value) → next value [] (Ok last) → Then first next log (Ok last)
  then-value log value last came ends = inl (record { value = value; front = log; after = []; log_is = sym (append-nil log); came_to = came; goes_on = ends })

  pub then-within : (inner : Course T) → Within inner first → Within (Then inner next) (Then first next)
  then-within inner within log result (inl on) = inl (record {
    value = on.value;
    front = on.front;
    after = on.after;
    log_is = on.log_is;
    came_to = within on.front (Ok on.value) on.came_to;
    goes_on = on.goes_on;
  })
  then-within inner within log result (inr stops) = inr (stops.0, within log (Err stops.0) stops.1, stops.2)

-- after a course that sends nothing
pub ends-then : {T V : Type 0} (value : T) (next : T → Course V) → Within (next value) (Then (Ends value) next)
ends-then value next log result so = inl (record { value = value; front = []; after = log; log_is = refl; came_to = (refl, refl); goes_on = so })

-- ROUNDS

module _ {T : Type 0} (round : Course T) (again : T) where
  rounds-before : (front : List Asked) → round front (Ok again) → (times : ℕ) (log : List Asked) → Rounds (λ before. round) again times log
      → Rounds (λ before. round) again (times + 1) (front ++ log)
  rounds-before front came times log no_round = subst (λ (l : List Asked). Rounds (λ before. round) again 1 l) (sym (append-nil front)) (one_more no_round came)
  rounds-before front came times log (one_more {times = k} {front = f} {after = b} so last) =
      subst (λ (l : List Asked). Rounds (λ before. round) again (k + 1 + 1) l) (append_assoc front f b) (one_more (rounds-before front came k f so) last)

  pub upto-again : (most more : ℕ) → most ≡ more + 1 → (front log : List Asked) (result : Result T Stop) → round front (Ok again)
      → UpTo more round again log result → UpTo most round again (front ++ log) result
  upto-again most more is front log result came (inl all) =
      inl (subst (λ (n : ℕ). Rounds (λ before. round) again n (front ++ log)) (sym is) (rounds-before front came more log all.0), all.1)
  upto-again most more is front log result came (inr ends) = let few = ends.few in inr (record {
    times = ends.times + 1;
    few = omega arith;
    front = front ++ ends.front;
    after = ends.after;
    log_is = ap (λ (l : List Asked). front ++ l) ends.log_is ∙ sym (append_assoc front ends.front ends.after);
    rounds = rounds-before front came ends.times ends.front ends.rounds;
    last = ends.last;
    ends = ends.ends;
  })

  pub upto-ends : (most : ℕ) → 0 < most → (log : List Asked) (result : Result T Stop) → round log result → result ≢ Ok again → UpTo most round again log result
  upto-ends most some log result last other = inr (record { times = 0; few = some; front = []; after = log; log_is = refl; rounds = no_round; last = last; ends = other })

  pub upto-last : (log : List Asked) → round log (Ok again) → UpTo 1 round again log (Ok again)
  upto-last log came = inl (one_more no_round came, refl)

  -- a first round, and what is after it
  module _ {V : Type 0} (next : T → Course V) (one : Asked) where
    pub rounds-next : (more : ℕ) (value : T) → value ≢ again → round (one ∷ []) (Ok value) → Follows (Then (UpTo (more + 1) round again) next) one (next value)
    rounds-next more value other came =
        then-next (UpTo (more + 1) round again) next one value
        (upto-ends (more + 1) (omega arith) (one ∷ []) (Ok value) came (λ e. other (let v : value ≡ again = cc in v)))

    pub rounds-last : round (one ∷ []) (Ok again) → Follows (Then (UpTo 1 round again) next) one (next again)
    rounds-last came = then-next (UpTo 1 round again) next one again (upto-last (one ∷ []) came)

    pub rounds-on : (more : ℕ) → round (one ∷ []) (Ok again)
        → Follows (Then (UpTo (suc more + 1) round again) next) one (Then (UpTo (more + 1) round again) next)
    rounds-on more came =
        then-on (UpTo (suc more + 1) round again) next one (UpTo (more + 1) round again)
        (λ log result so. upto-again (suc more + 1) (more + 1) (omega arith) (one ∷ []) log result came so)

-- WHERE THE LINE STOPS

-- The course may end with this datagram, where the line stops.
abbrev pub MayStop : {T : Type 0} → Course T → Asked → Type 0
MayStop {T} course one = (result : Result T Stop) → IsErr result → course (one ∷ []) result

pub asks-stop : {T : Type 0} (reported : Pdu → T) (lost : T) (slave : ℕ) (order : Pdu) → MayStop (Asks slave order reported lost) (asked slave order (Err device.Stopped))
asks-stop reported lost slave order result cut = (Err device.Stopped, refl, cut)

pub then-stop : {T V : Type 0} (first : Course T) (next : T → Course V) (one : Asked) → MayStop first one → MayStop (Then first next) one
then-stop first next one stops (Ok value) cut = absurd (false≢true cut)
then-stop first next one stops (Err stop) cut = inr (stop, stops (Err stop) refl, cut)

pub upto-stop : {T : Type 0} (round : Course T) (again : T) (more : ℕ) (one : Asked) → MayStop round one → MayStop (UpTo (more + 1) round again) one
upto-stop round again more one stops (Ok value) cut = absurd (false≢true cut)
upto-stop round again more one stops (Err stop) cut = upto-ends round again (more + 1) (omega arith) (one ∷ []) (Err stop) (stops (Err stop) refl) (λ e. absurd cc)
