-- What is done for a write to the journal.
use Rattle.std.specs.Prelude.{◌≡◌, ℕ, Bool, true, false, List, [], ◌∷◌, ◌++◌, is_ok, Result}
use Rattle.wire_mirror.specs.declared.journal_file.JournalCall.{JournalCall}
use Rattle.wire_mirror.specs.declared.journal_file.JournalCall.TheVariants as call

-- After a look that found this: no write where a call on an image file had failed, and it fails; else the one that is asked for, as it ends.
abbrev pub WritesAsFound : (found : Bool) → {E : Type 0} → (at count : ℕ) → Result (Unit {0}) E → (old new : List JournalCall) → Type 0
WritesAsFound true at count result old new = (is_ok result ≡ false) × (new ≡ old ++ call.Looks true ∷ [])
WritesAsFound false at count result old new = new ≡ old ++ call.Looks false ∷ call.Writes at count (is_ok result) ∷ []

-- It is looked whether one has failed, and then done as was found.
abbrev pub WritesAfterLook : {E : Type 0} → (at count : ℕ) → Result (Unit {0}) E → (old new : List JournalCall) → Type 0
WritesAfterLook at count result old new = (found : Bool) × WritesAsFound found at count result old new
