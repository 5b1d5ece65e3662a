-- Several lists in one order.
use Rattle.std.specs.Prelude.{◌≡◌, ℕ, List, [], ◌∷◌, Some, slice_get, slice_set}
use Rattle.std.specs.List.{All}

-- The elements of all these lists, in some order in which each list keeps its own.
pub data Interleaves {X : Type 0} : List (List X) → List X → Type 0 where
  done : (lists : List (List X)) → All (λ list. list ≡ []) lists → Interleaves lists []
  next : (lists : List (List X)) (at : ℕ) (first : X) (rest after : List X) → slice_get lists at ≡ Some (first ∷ rest)
      → Interleaves (slice_set lists at rest) after → Interleaves lists (first ∷ after)
