-- What holds at every point from an earlier time of a site to a later one, and what its calls add to what a power cut may leave.
use Rattle.std.specs.Prelude.{◌≡◌, List, ◌++◌}
use Rattle.std.specs.List.{AllByRecursion}
use Rattle.site_core.specs.State.{State, Pair, Leaves, Moment, Seen, clock, LeftSince}

-- `P` holds of the state before each call in between, of each state in its middle, and of the state now.
pub record Passes (P : State → Type 0) (old new : Seen) : Type 0 where
  pub calls : List Moment
  pub past : new.past ≡ old.past ++ calls
  pub on_the_way : AllByRecursion (λ moment. P moment.before × AllByRecursion P moment.middle) calls
  pub now : P new.state

-- A power cut in this state leaves only pairs with `Q`.
abbrev pub LeavesOnly : (Pair → Type 0) → State → Type 0
LeavesOnly Q state = (pair : Pair) → Leaves state pair → Q pair

-- Each pair that a power cut could have left since `old` has `Q`.
abbrev pub LeftOnly : (Pair → Type 0) → Seen → Seen → Type 0
LeftOnly Q old new = (pair : Pair) → LeftSince new (clock old) pair → Q pair

-- At every point in between a power cut leaves only pairs with `Q`, and so each pair that one could have left has `Q`.
pub record StaysWithin (Q : Pair → Type 0) (old new : Seen) : Type 0 where
  pub passes : Passes (LeavesOnly Q) old new
  pub left : LeftOnly Q old new

-- At no point in between could a power cut have left a pair that it couldn't have left at the beginning.
abbrev pub AddsNothing : Seen → Seen → Type 0
AddsNothing old new = StaysWithin (Leaves old.state) old new
