-- What holds at every point of a sequence of device calls.
use Rattle.std.proofs.Common.{List, [], ◌∷◌, ◌++◌, Any, Result, sym, ap, ◌∙◌, inl, inr, append_assoc}
use Rattle.std.specs.List.{AllByRecursion}
use Rattle.std.proofs.lemmas.List.{append-nil}
use Rattle.site_core.specs.declared.fault.DeviceFault.{DeviceFault}
use Rattle.site_core.specs.State.{State, Pair, Leaves, Moment, Seen, last_of, LeftAt}
use Rattle.site_core.specs.Calls.{Calls}
use Rattle.site_core.specs.Passes.{Passes, LeavesOnly, LeftOnly, StaysWithin}
use Rattle.site_core.proofs.Moments.{Any-nil, Any-split, LeftSince-added}
use Rattle.sii_words.proofs.Quantifiers.{all_append}

pub all_weaker : {A : Type 0} (P Q : A → Type 0) (xs : List A) → ((x : A) → P x → Q x) → AllByRecursion P xs → AllByRecursion Q xs
all_weaker P Q [] weaker all = tt
all_weaker P Q (x ∷ xs) weaker all = (weaker x all.0, all_weaker P Q xs weaker all.1)

pub last_of_all : (P : State → Type 0) (state : State) (states : List State) → P state → AllByRecursion P states → P (last_of state states)
last_of_all P state [] here all = here
last_of_all P state (next ∷ states) here all = last_of_all P next states all.0 all.1

-- nothing done yet
pub Passes-none : (P : State → Type 0) (seen : Seen) → P seen.state → Passes P seen seen
Passes-none P seen now = record { calls = []; past = sym (append-nil seen.past); on_the_way = tt; now = now }

-- one call
pub Passes-call : {T : Type 0} (P : State → Type 0) (old : Seen) (middle : List State) (result : Result T DeviceFault) (new : Seen)
    → Calls old middle result new → P old.state → AllByRecursion P middle → P new.state → Passes P old new
Passes-call P old middle result new call before within now =
    record { calls = record { before = old.state; faults = old.faults; middle = middle } ∷ []; past = call.past; on_the_way = ((before, within), tt); now = now }

-- one run after another
pub Passes-then : (P : State → Type 0) (a b c : Seen) → Passes P a b → Passes P b c → Passes P a c
Passes-then P a b c first second = record {
  calls = first.calls ++ second.calls;
  past = second.past ∙ ap (λ (p : List Moment). p ++ second.calls) first.past ∙ append_assoc a.past first.calls second.calls;
  on_the_way = all_append (λ (moment : Moment). P moment.before × AllByRecursion P moment.middle) first.calls second.calls first.on_the_way second.on_the_way;
  now = second.now;
}

-- weaker
pub Passes-weaker : (P Q : State → Type 0) (old new : Seen) → ((state : State) → P state → Q state) → Passes P old new → Passes Q old new
Passes-weaker P Q old new weaker passes = record {
  calls = passes.calls;
  past = passes.past;
  on_the_way = all_weaker (λ (m : Moment). P m.before × AllByRecursion P m.middle) (λ (m : Moment). Q m.before × AllByRecursion Q m.middle) passes.calls
      (λ m all. (weaker m.before all.0, all_weaker P Q m.middle weaker all.1)) passes.on_the_way;
  now = weaker new.state passes.now;
}

-- a pair that some state leaves has what holds of all pairs that each of them leaves
any_left : (Q : Pair → Type 0) (states : List State) (pair : Pair) → AllByRecursion (LeavesOnly Q) states → Any (λ state. Leaves state pair) states → Q pair
any_left Q [] pair all any = absurd (Any-nil (λ (s : State). Leaves s pair) any)
any_left Q (state ∷ states) pair all any =
    elim (Any-split (λ (s : State). Leaves s pair) state states any) [
      | inl here ↦ all.0 pair here
      | inr there ↦ any_left Q states pair all.1 there
    ]

moment_left : (Q : Pair → Type 0) (moment : Moment) (pair : Pair) → LeavesOnly Q moment.before → AllByRecursion (LeavesOnly Q) moment.middle → LeftAt pair moment → Q pair
moment_left Q moment pair before within (inl was) = before pair was
moment_left Q moment pair before within (inr was) = any_left Q moment.middle pair within was

moments_left : (Q : Pair → Type 0) (moments : List Moment) (pair : Pair)
    → AllByRecursion (λ moment. LeavesOnly Q moment.before × AllByRecursion (LeavesOnly Q) moment.middle) moments → Any (LeftAt pair) moments → Q pair
moments_left Q [] pair all any = absurd (Any-nil (LeftAt pair) any)
moments_left Q (moment ∷ moments) pair all any =
    elim (Any-split (LeftAt pair) moment moments any) [
      | inl here ↦ moment_left Q moment pair all.0.0 all.0.1 here
      | inr there ↦ moments_left Q moments pair all.1 there
    ]

-- where a power cut leaves only such pairs at every point, no other could have been left since
pub Passes-left : (Q : Pair → Type 0) (old new : Seen) → Passes (LeavesOnly Q) old new → LeftOnly Q old new
Passes-left Q old new passes pair since =
    elim (LeftSince-added old new passes.calls pair passes.past since) [
      | inl now ↦ passes.now pair now
      | inr was ↦ moments_left Q passes.calls pair passes.on_the_way was
    ]

pub Passes-stays : (Q : Pair → Type 0) (old new : Seen) → Passes (LeavesOnly Q) old new → StaysWithin Q old new
Passes-stays Q old new passes = record { passes = passes; left = Passes-left Q old new passes }
