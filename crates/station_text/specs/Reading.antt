-- What a reader of a text or of a value may answer, given what the text or value spells.
use Rattle.std.specs.Prelude.{◌≡◌, ◌⊎◌, Option, Some, None, Result, Ok, Err}

-- The answer is a value that is spelt, or None where no value is spelt.
abbrev pub Finds : {V : Type 0} → (V → Type 0) → Option V → Type 0
Finds Spells (Some value) = Spells value
Finds {V} Spells None = (value : V) → ¬ Spells value

-- The answer is a value that is spelt; or the fault for refused memory; or another fault, where no value is spelt.
abbrev pub Reads : {V X F : Type 0} → F → (V → X) → (X → Type 0) → Result V F → Type 0
Reads memory view Spells (Ok value) = Spells (view value)
Reads {V} {X} memory view Spells (Err fault) = (fault ≡ memory) ⊎ ((value : X) → ¬ Spells value)
