-- Refusals: the first cause that applies.
use Rattle.std.specs.Prelude.{◌≡◌, ◌⊎◌, ℕ, Bool, List, [], ◌∷◌, Some, None, Result, Ok, Err, if◌then◌else◌}
use Rattle.sii_cats.specs.declared.fault.ChainFault.{ChainFault}
use Rattle.sii_cats.specs.declared.fault.ChainFault.TheVariants as chain
use Rattle.sii_cats.specs.declared.fault.CatFault.{CatFault}
use Rattle.sii_cats.specs.declared.fault.CatFault.TheVariants as category
use Rattle.sii_edit.specs.declared.refusal.Cause.{Cause}
use Rattle.sii_edit.specs.declared.refusal.Cause.TheVariants.{Memory, BadCategory, NoRoom, BadChain}
use Rattle.sii_edit.specs.declared.refusal.Refusal.{Refusal}

-- what a fault of the chain means for a command
abbrev pub cause_of_chain : ChainFault → Cause
cause_of_chain chain.Memory = Memory
cause_of_chain (chain.RunsOut at) = BadChain

-- what a fault of a category means for a command
abbrev pub cause_of_category : CatFault → Cause
cause_of_category category.Memory = Memory
cause_of_category (category.RunsOut at) = BadChain
cause_of_category (category.BadCategory kind) = BadCategory kind
cause_of_category category.NoRoom = NoRoom

-- the first cause whose test holds, else the given value
abbrev pub unless : {A : Type 0} → List (Bool × Cause) → A → Result A Cause
unless [] given = Ok given
unless (test ∷ tests) given = if test.0 then Err test.1 else unless tests given

-- a refusal of the command as a whole
abbrev pub entire : Cause → Refusal
entire cause = record { cause = cause; position = None }

-- a refusal of the edit at this place of a group; `Memory` has no place
abbrev pub placed : ℕ → Cause → Refusal
placed place Memory = entire Memory
placed place cause = record { cause = cause; position = Some place }

-- a cause as a refusal of the command as a whole
abbrev pub of_entire : {A : Type 0} → Result A Cause → Result A Refusal
of_entire (Ok given) = Ok given
of_entire (Err cause) = Err (entire cause)

-- a cause as a refusal of the edit at this place of a group
abbrev pub of_place : {A : Type 0} → ℕ → Result A Cause → Result A Refusal
of_place place (Ok given) = Ok given
of_place place (Err cause) = Err (placed place cause)

-- what is judged next, unless there is a refusal
abbrev pub then_validated : {A B E : Type 0} → Result A E → (A → Result B E) → Result B E
then_validated (Ok given) next = next given
then_validated (Err refusal) next = Err refusal

-- The cause is the judged one, or `Memory`, which may come in place of any answer.
abbrev pub IsCauseOf : {A : Type 0} → Result A Cause → Cause → Type 0
IsCauseOf validated cause = (validated ≡ Err cause) ⊎ (cause ≡ Memory)

-- The answer is what is judged, or `Memory`.
abbrev pub IsAnswer : {A : Type 0} → Result A Cause → Result A Cause → Type 0
IsAnswer validated (Ok given) = validated ≡ Ok given
IsAnswer validated (Err cause) = IsCauseOf validated cause

-- The answer is the first cause whose test holds, or success if none does; or `Memory`.
abbrev pub IsVerdict : List (Bool × Cause) → Result (Unit {0}) Cause → Type 0
IsVerdict tests result = IsAnswer (unless tests tt) result

-- The refusal is the judged one, or `Memory`, which may come in place of any answer.
abbrev pub IsRefusalOf : {A : Type 0} → Result A Refusal → Refusal → Type 0
IsRefusalOf validated refusal = (validated ≡ Err refusal) ⊎ (refusal ≡ entire Memory)
