-- Lists of words or bytes that are items one after another, up to an end.
use Rattle.std.specs.Prelude.{ℕ, List, [], ◌∷◌}

-- The cells are these items one after another, and then an end. The format says how an item begins the cells, and what an end
-- is.
abbrev pub AreItems : {X : Type 0} → (List ℕ → X → List ℕ → Type 0) → (List ℕ → Type 0) → List ℕ → List X → Type 0
AreItems Begins Ends cells [] = Ends cells
AreItems Begins Ends cells (x ∷ xs) = (rest : List ℕ) × Begins cells x rest × AreItems Begins Ends rest xs
