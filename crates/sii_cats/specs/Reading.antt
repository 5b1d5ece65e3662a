-- What reading and writing the content of a category answer.
use Rattle.std.specs.Prelude.{◌≡◌, ℕ, List, Result, Ok, Err}
use Rattle.sii_cats.specs.declared.fault.CatFault.{CatFault}
use Rattle.sii_cats.specs.declared.fault.CatFault.TheVariants.{Memory, RunsOut, BadCategory, NoRoom}

-- A fault is `BadCategory` of this type, answered only where the given fact holds, or `Memory`, which may always be answered.
abbrev pub Refuses : ℕ → CatFault → Type 0 → Type 0
Refuses kind Memory Bad = Unit {0}
Refuses kind (BadCategory k) Bad = (k ≡ kind) × Bad
Refuses kind (RunsOut at) Bad = ⊥
Refuses kind NoRoom Bad = ⊥

-- Reading answers the value that the grammar relates to the content, and BadCategory only where it relates none.
abbrev pub Answers : {V X : Type 0} → (V → X) → (X → Type 0) → ℕ → Result V CatFault → Type 0
Answers view Spells kind (Ok v) = Spells (view v)
Answers {V} {X} view Spells kind (Err fault) = Refuses kind fault ((x : X) → Spells x → ⊥)

-- Writing answers this spelling where the value can be written, and BadCategory only where it can't.
abbrev pub Writes : {V : Type 0} → (V → List ℕ) → Type 0 → ℕ → Result V CatFault → List ℕ → Type 0
Writes bytes Writable kind (Ok v) spelling = Writable × (bytes v ≡ spelling)
Writes bytes Writable kind (Err fault) spelling = Refuses kind fault (Writable → ⊥)
