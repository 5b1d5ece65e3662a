-- Notes of the jobs that were handed out to one thread.
use Rattle.std.specs.Prelude.{ℕ, Bool, false, List, [], ◌∷◌, is_none}
use Rattle.station_jobs.specs.declared.log.Assignment.{Assignment}

-- the jobs in order, and how many more fit into the memory
pub record Noted (J O : Type 0) : Type 0 where
  pub entries : List (Assignment J O)
  pub spare : ℕ

-- A job is out: the last one has no outcome yet.
abbrev pub is_waiting : {J O : Type 0} → List (Assignment J O) → Bool
is_waiting [] = false
is_waiting (last ∷ []) = is_none last.outcome
is_waiting (first ∷ next ∷ jobs) = is_waiting (next ∷ jobs)
