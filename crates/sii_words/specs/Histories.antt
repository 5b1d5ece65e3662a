-- The events of a history: those before its last event, and that event.
use Rattle.std.specs.Prelude.{List, [], ◌∷◌, ◌++◌, Option, Some, None}
use Rattle.std.specs.declared.snapshot.Snapshot.{Snapshot}

abbrev pub events_of : {E : Type 0} → Option (Snapshot (List E) × Snapshot E) → List E
events_of None = []
events_of (Some step) = step.0.value ++ step.1.value ∷ []
