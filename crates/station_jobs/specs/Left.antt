-- What a power cut may leave while jobs are done: in order, each one is done, in progress or not begun.
use Rattle.std.specs.Prelude.{◌≡◌, List, [], ◌∷◌, ◌++◌, Some}
use Rattle.site_core.specs.State.{State, Pair, Seen, Leaves}
use Rattle.site_core.specs.Passes.{LeftOnly}
use Rattle.station_jobs.specs.declared.log.Assignment.{Assignment}
use Rattle.station_jobs.specs.Jobs.{Led}

-- The job began, and returned with its outcome.
pub record CameBack {J O : Type 0} (Returns : J → O → State → State → Type 0) (entry : Assignment J O) (old new : State) : Type 0 where
  pub outcome : O
  pub reported : entry.outcome ≡ Some outcome
  pub returns : Returns entry.job outcome old new

-- Each job of the log did so, one after another.
abbrev pub CameBackInTurn : {J O : Type 0} → (J → O → State → State → Type 0) → List (Assignment J O) → State → State → Type 0
CameBackInTurn Returns [] old new = new ≡ old
CameBackInTurn Returns (first ∷ jobs) old new = (mid : State) × CameBack Returns first old mid × CameBackInTurn Returns jobs mid new

-- A power cut may leave this pair while the first of these jobs is in progress. If there is none, while none is.
abbrev pub LeftInProgress : {J O : Type 0} → (J → State → Pair → Type 0) → List (Assignment J O) → State → Pair → Type 0
LeftInProgress InProgress [] state pair = Leaves state pair
LeftInProgress InProgress (next ∷ jobs) state pair = InProgress next.job state pair

-- A power cut may leave this pair while the jobs of the log are done: the first ones returned, and the next one is in progress.
pub record LeftBy {J O : Type 0} (Returns : J → O → State → State → Type 0) (InProgress : J → State → Pair → Type 0)
    (log : List (Assignment J O)) (old : State) (pair : Pair) : Type 0 where
  pub done : List (Assignment J O)
  pub others : List (Assignment J O)
  pub log_is : log ≡ done ++ others
  pub mid : State
  pub in_turn : CameBackInTurn Returns done old mid
  pub left : LeftInProgress InProgress others mid pair

-- The jobs of the log led the site from `old` to `new`, and at each moment in between a power cut could have left only such a pair.
pub record ServedJobs {J O : Type 0} (Does : J → O → Seen → Seen → Type 0) (Returns : J → O → State → State → Type 0)
    (InProgress : J → State → Pair → Type 0) (log : List (Assignment J O)) (old new : Seen) : Type 0 where
  pub led : Led Does log old new
  pub left : LeftOnly (LeftBy Returns InProgress log old.state) old new
