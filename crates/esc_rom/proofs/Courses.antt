-- Courses that a call takes: one after another, rounds, and the end of an access.
use Rattle.std.proofs.Common.{◌≡◌, ◌≢◌, ℕ, ◌+◌, ◌<◌, List, [], ◌∷◌, ◌++◌, Result, Ok, Err, IsErr, IsErrAnd, refl, sym, ap, subst, ◌∙◌, inl, inr}
use Rattle.std.proofs.lemmas.Bool.{false≢true}
use Rattle.std.proofs.lemmas.List.{append-nil}
use Rattle.site_core.specs.State.{Seen}
use Rattle.rom_steps.specs.declared.step.End.{End}
use Rattle.rom_steps.specs.declared.step.Step.{Step}
use Rattle.rom_steps.specs.declared.step.Stop.{Stop}
use Rattle.rom_steps.specs.Courses.{Asked, Course, Ends, Then, Rounds, no_round, one_more, InTurn}
use Rattle.rom_steps.specs.Remaining.{Remains}
use Rattle.esc_rom.specs.Courses.{AskedInTurn, Takes, AsCourse}

-- one after another
pub asked-then : (front after : List Asked) (a b c : Seen) → AskedInTurn front a b → AskedInTurn after b c → AskedInTurn (front ++ after) a c
asked-then [] after a b c none second = subst (λ (s : Seen). AskedInTurn after s c) none second
asked-then (first ∷ rest) after a b c some second = (some.0, some.1, asked-then rest after some.0 b c some.2 second)

-- the fault that is handed on
pub same-stop : {T : Type 0} (result : Result T Stop) (stop : Stop) → IsErrAnd result (λ other. other ≡ stop) → result ≡ Err stop
same-stop (Ok value) stop is = absurd is
same-stop (Err other) stop is = ap Err is

-- IN A ROW

pub takes-none : {T : Type 0} (value : T) (seen : Seen) → Takes (Ends value) seen (Ok value) seen
takes-none value seen = record { log = []; asked = refl; took = (refl, refl) }

-- the value is that one
pub takes-value : {T : Type 0} (course : Course T) {x y : T} {a b : Seen} → x ≡ y → Takes course a (Ok x) b → Takes course a (Ok y) b
takes-value {T} course {a = a} {b = b} is takes = subst (λ (v : T). Takes course a (Ok v) b) is takes

module _ {T V : Type 0} (first : Course T) (next : T → Course V) {a b : Seen} where
  pub takes-then : {c : Seen} (value : T) {result : Result V Stop} → Takes first a (Ok value) b → Takes (next value) b result c → Takes (Then first next) a result c
  takes-then {c} value one two = record {
    log = one.log ++ two.log;
    asked = asked-then one.log two.log a b c one.asked two.asked;
    took = inl (record { value = value; front = one.log; after = two.log; log_is = refl; came_to = one.took; goes_on = two.took });
  }

  pub takes-cut : {stop : Stop} (result : Result V Stop) → IsErr result → Takes first a (Err stop) b → Takes (Then first next) a result b
  takes-cut {stop} result cut one = record { log = one.log; asked = one.asked; took = inr (stop, one.took, cut) }

-- a course whose faults are of another kind
module _ {T E : Type 0} (course : Course T) {a b : Seen} where
  pub as-value : {value : T} → Takes course a (Ok value) b → Takes (AsCourse {E = E} course) a (Ok value) b
  as-value takes = record { log = takes.log; asked = takes.asked; took = takes.took }

  pub as-cut : {stop : Stop} (result : Result T E) → IsErr result → Takes course a (Err stop) b → Takes (AsCourse course) a result b
  as-cut (Ok value) cut takes = absurd (false≢true cut)
  as-cut {stop} (Err fault) cut takes = record { log = takes.log; asked = takes.asked; took = (stop, takes.took) }

-- ROUNDS

-- so many rounds led there
pub record RoundsSo {T : Type 0} (round : ℕ → List Asked → Result T Stop → Type 0) (again : T) (times : ℕ) (a b : Seen) : Type 0 where
  pub log : List Asked
  pub asked : AskedInTurn log a b
  pub rounds : Rounds round again times log

never-ok : {T E : Type 0} (result : Result T E) (value : T) → IsErr result → result ≢ Ok value
never-ok (Ok other) value cut = absurd (false≢true cut)
never-ok (Err fault) value cut = λ e. absurd cc

module _ {T : Type 0} (round : ℕ → Course T) (again : T) where
  pub rounds-none : (seen : Seen) → RoundsSo round again 0 seen seen
  rounds-none seen = record { log = []; asked = refl; rounds = no_round }

  module _ {a b : Seen} where
    pub rounds-more : {c : Seen} (times : ℕ) {value : T} → value ≡ again → RoundsSo round again times a b → Takes (round times) b (Ok value) c → RoundsSo round again (times + 1) a c
    rounds-more {c} times is so takes =
        let one = takes-value (round times) is takes in
        record { log = so.log ++ one.log; asked = asked-then so.log one.log a b c so.asked one.asked; rounds = one_more so.rounds one.took }

    pub rounds-all : (most times : ℕ) → times ≡ most → RoundsSo round again times a b → Takes (InTurn most round again) a (Ok again) b
    rounds-all most times all so =
        record { log = so.log; asked = so.asked; took = inl (subst (λ (n : ℕ). Rounds round again n so.log) all so.rounds, refl) }

    pub rounds-end : {c : Seen} (most times : ℕ) (result : Result T Stop) → times < most → result ≢ Ok again → RoundsSo round again times a b → Takes (round times) b result c
        → Takes (InTurn most round again) a result c
    rounds-end {c} most times result few other so takes = record {
      log = so.log ++ takes.log;
      asked = asked-then so.log takes.log a b c so.asked takes.asked;
      took = inr (record { times = times; few = few; front = so.log; after = takes.log; log_is = refl; rounds = so.rounds; last = takes.took; ends = other });
    }

    -- the site stopped in a round
    pub rounds-err : {c : Seen} (most times : ℕ) (result : Result T Stop) → times < most → IsErr result → RoundsSo round again times a b → Takes (round times) b result c
        → Takes (InTurn most round again) a result c
    rounds-err most times result few cut so takes = rounds-end most times result few (never-ok result again cut) so takes

-- THE END OF AN ACCESS

-- The end tells the value of a course.
pub record EndsBy {T : Type 0} (wrap : T → End) (course : List Asked → Result T Stop → Type 0) (end : End) (a b : Seen) : Type 0 where
  pub value : T
  pub is : end ≡ wrap value
  pub takes : Takes course a (Ok value) b

-- there is one stop
only : (one other : Stop) → one ≡ other
only one other = refl

module _ {T : Type 0} (wrap : T → End) (course : Course T) {a b : Seen} where
  ends : (end : End) (log : List Asked) → AskedInTurn log a b → Then course (λ value. Ends (wrap value)) log (Ok end) → EndsBy wrap course end a b
  ends end log asked (inl so) = record {
    value = so.value;
    is = let last : Ok end ≡ Ok (wrap so.value) = so.goes_on.1 in cc;
    takes = record {
      log = log;
      asked = asked;
      took = subst (λ (l : List Asked). course l (Ok so.value))
          (sym (so.log_is ∙ ap (λ (l : List Asked). so.front ++ l) so.goes_on.0 ∙ append-nil so.front)) so.came_to;
    };
  }
  ends end log asked (inr cut) = absurd (false≢true cut.2)

  cuts : (stop : Stop) (log : List Asked) → AskedInTurn log a b → Then course (λ value. Ends (wrap value)) log (Err stop) → Takes course a (Err stop) b
  cuts stop log asked (inl so) = absurd (let last = so.goes_on.1 in cc)
  cuts stop log asked (inr cut) =
      record { log = log; asked = asked; took = subst (λ (s : Stop). course log (Err s)) (only cut.0 stop) cut.1 }

  pub ends-by : {end : End} → Takes (Then course (λ value. Ends (wrap value))) a (Ok end) b → EndsBy wrap course end a b
  ends-by {end} takes = ends end takes.log takes.asked takes.took

  -- what a driver sent from the first step of that access on
  module _ (slave : ℕ) (first : Step)
      (begins : (log : List Asked) → (result : Result End Stop) → Remains slave first log result → Then course (λ value. Ends (wrap value)) log result)
    where
      pub driven : {end : End} → Takes (Remains slave first) a (Ok end) b → EndsBy wrap course end a b
      driven {end} takes = ends end takes.log takes.asked (begins takes.log (Ok end) takes.took)

      pub driven-cut : {stop : Stop} → Takes (Remains slave first) a (Err stop) b → Takes course a (Err stop) b
      driven-cut {stop} takes = cuts stop takes.log takes.asked (begins takes.log (Err stop) takes.took)

-- the value at that end
pub took : {T : Type 0} {wrap : T → End} {course : Course T} {end : End} {a b : Seen} (value : T) → ((other : T) → wrap other ≡ wrap value → other ≡ value)
    → EndsBy wrap course end a b → end ≡ wrap value → Takes course a (Ok value) b
took {course = course} value same so is = takes-value course (same so.value (sym so.is ∙ is)) so.takes

-- what the end tells of it
pub told : {T : Type 0} {wrap : T → End} {course : Course T} {end : End} {a b : Seen} (tell : End → T) → ((value : T) → tell (wrap value) ≡ value)
    → EndsBy wrap course end a b → Takes course a (Ok (tell end)) b
told {course = course} tell same so = takes-value course (sym (ap tell so.is ∙ same so.value)) so.takes
