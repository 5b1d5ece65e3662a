-- A list of process data cycles as runs of equal ones.
use Rattle.std.specs.Prelude.{◌≢◌, ◌==◌, ◌++◌, ◌∷◌, ℕ, Bool, false, List, [], replicate, if◌then◌else◌}
use Rattle.station_jobs.specs.declared.cycle.CycleNote.{CycleNote}
use Rattle.station_jobs.specs.declared.cycle_notes.Run.{Run}

-- the cycles in order, and how many more fit into the memory
pub record CyclesNoted : Type 0 where
  pub entries : List CycleNote
  pub spare : ℕ

-- the cycles of these runs, in order
abbrev pub expanded : List Run → List CycleNote
expanded [] = []
expanded (run ∷ runs) = run.note ∷ replicate run.again run.note ++ expanded runs

-- The first of these runs, if there is one, is of other cycles than this.
abbrev pub BeginsSeparate : CycleNote → List Run → Type 0
BeginsSeparate note [] = Unit {0}
BeginsSeparate note (run ∷ runs) = run.note ≢ note

-- Two runs in a row are of different cycles.
abbrev pub AreSeparate : List Run → Type 0
AreSeparate [] = Unit {0}
AreSeparate (run ∷ runs) = BeginsSeparate run.note runs × AreSeparate runs

-- The last run can't be counted any further.
abbrev pub is_full : List Run → Bool
is_full [] = false
is_full (last ∷ []) = last.again == 18446744073709551615
is_full (first ∷ next ∷ runs) = is_full (next ∷ runs)

-- how many more cycles fit after these runs, where memory is left for so many runs
abbrev pub spare_after : List Run → ℕ → ℕ
spare_after runs left = if is_full runs then 0 else left
