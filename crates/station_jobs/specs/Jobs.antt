-- Jobs that were done one after another, and what they made of a site.
use Rattle.std.specs.Prelude.{◌≡◌, ◌⊎◌, List, [], ◌∷◌, ◌++◌, Some, None, IsTrue}
use Rattle.site_core.specs.State.{Seen}
use Rattle.station_jobs.specs.declared.log.Assignment.{Assignment}

-- The job was done and its outcome reported, and the site has not stopped.
pub record IsDone {J O : Type 0} (Does : J → O → Seen → Seen → Type 0) (entry : Assignment J O) (old new : Seen) : Type 0 where
  pub outcome : O
  pub reported : entry.outcome ≡ Some outcome
  pub does : Does entry.job outcome old new
  pub going : ¬ IsTrue new.is_stopped

-- Each job of the log was done so, in order, and nothing else was done.
abbrev pub DoneInTurn : {J O : Type 0} → (J → O → Seen → Seen → Type 0) → List (Assignment J O) → Seen → Seen → Type 0
DoneInTurn Does [] old new = new ≡ old
DoneInTurn Does (first ∷ jobs) old new = (mid : Seen) × IsDone Does first old mid × DoneInTurn Does jobs mid new

-- The last job was done. The site may have stopped in it, and its outcome may be unreported.
pub record IsLast {J O : Type 0} (Does : J → O → Seen → Seen → Type 0) (entry : Assignment J O) (old new : Seen) : Type 0 where
  pub outcome : O
  pub reported : (entry.outcome ≡ Some outcome) ⊎ (entry.outcome ≡ None)
  pub does : Does entry.job outcome old new

-- There is at most one such last job.
abbrev pub MayEnd : {J O : Type 0} → (J → O → Seen → Seen → Type 0) → List (Assignment J O) → Seen → Seen → Type 0
MayEnd Does [] old new = new ≡ old
MayEnd Does (last ∷ []) old new = IsLast Does last old new
MayEnd Does jobs old new = ⊥

-- The jobs of the log, in order, led the site from `old` to `new`, with no other call of the site.
pub record Led {J O : Type 0} (Does : J → O → Seen → Seen → Type 0) (log : List (Assignment J O)) (old new : Seen) : Type 0 where
  pub done : List (Assignment J O)
  pub last : List (Assignment J O)
  pub log_is : log ≡ done ++ last
  pub mid : Seen
  pub in_turn : DoneInTurn Does done old mid
  pub ends : MayEnd Does last mid new

-- After the jobs before it, a loop did no job, and `ended` holds. Or it did one more: either its outcome was reported and is one by which
-- the site stopped, or `held` holds and it wasn't reported.
abbrev pub EndsLoop : {J O : Type 0} → (J → O → Seen → Seen → Type 0) → (O → Type 0) → (ended held : Type 0)
    → List (Assignment J O) → Seen → Seen → Type 0
EndsLoop Does IsStop ended held [] old new = ended × (new ≡ old)
EndsLoop {O = O} Does IsStop ended held (last ∷ []) old new =
    (outcome : O) × Does last.job outcome old new
    × (((last.outcome ≡ Some outcome) × IsStop outcome) ⊎ ((last.outcome ≡ None) × held))
EndsLoop Does IsStop ended held jobs old new = ⊥

-- A loop did the jobs of the log, and ended so.
pub record RunsToEnd {J O : Type 0} (Does : J → O → Seen → Seen → Type 0) (IsStop : O → Type 0) (ended held : Type 0)
    (log : List (Assignment J O)) (old new : Seen) : Type 0 where
  pub done : List (Assignment J O)
  pub last : List (Assignment J O)
  pub log_is : log ≡ done ++ last
  pub mid : Seen
  pub in_turn : DoneInTurn Does done old mid
  pub ends : EndsLoop Does IsStop ended held last mid new
