-- A category edit, part by part.
use Rattle.std.specs.Prelude.{◌≡◌, ℕ, ◌<◌, ◌≤◌, List, ◌++◌, length, drop, Result, Ok, Err}
use Rattle.sii_cats.specs.Splice.{closing}
use Rattle.sii_cats.specs.declared.fault.CatFault.{CatFault}
use Rattle.sii_cats.specs.declared.fault.CatFault.TheVariants.{Memory, RunsOut, BadCategory, NoRoom}

-- When each fault of `rebuilt` is answered: the front is longer than the words; `Memory` may always be.
abbrev pub RebuiltFails : List ℕ → List ℕ → CatFault → Type 0
RebuiltFails words front Memory = Unit {0}
RebuiltFails words front (RunsOut at) = ⊥
RebuiltFails words front (BadCategory k) = ⊥
RebuiltFails words front NoRoom = length words < length front

-- What `rebuilt` answers: the front, and after it the end mark and the old words.
abbrev pub GivesRebuilt : {V : Type 0} → (V → List ℕ) → List ℕ → List ℕ → Result V CatFault → Type 0
GivesRebuilt view words front (Ok v) = (length front ≤ length words) × (view v ≡ front ++ closing (drop (length front) words))
GivesRebuilt view words front (Err fault) = RebuiltFails words front fault
