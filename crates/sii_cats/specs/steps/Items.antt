-- Items read one after another, up to an end.
use Rattle.std.specs.Prelude.{ℕ, zero, suc, List, [], ◌∷◌, length, Result, Ok, Err}

-- What stands in front: an end, an item with what is left behind it, or neither.
pub data Front (X : Type 0) : Type 0 where
  Ended : Front X
  Item : X → List ℕ → Front X
  Broken : Front X

-- goes on with the value of a step, or passes its fault on
infixl 10 ◌>>=◌
abbrev pub ◌>>=◌ : {A B E : Type 0} → Result A E → (A → Result B E) → Result B E
(Ok x) >>= f = f x
(Err e) >>= f = Err e

-- the items up to the end, or what is left where none can be read
abbrev pub items_after : {X : Type 0} → List ℕ → Front X → (List ℕ → Result (List X) (List ℕ)) → Result (List X) (List ℕ)
items_after cells Ended others = Ok []
items_after cells (Item x rest) others = others rest >>= λ xs. Ok (x ∷ xs)
items_after cells Broken others = Err cells

-- the items, of which there must be fewer than n
unfoldable pub items_below : {X : Type 0} → (List ℕ → Front X) → ℕ → List ℕ → Result (List X) (List ℕ)
items_below front zero cells = Err cells
items_below front (suc n) cells = items_after cells (front cells) (items_below front n)

-- all items; there are no more of them than cells
unfoldable pub items_of : {X : Type 0} → (List ℕ → Front X) → List ℕ → Result (List X) (List ℕ)
items_of front cells = items_below front (suc (length cells)) cells

-- this many items, read one by one, and what is left behind them
unfoldable pub counted : {X : Type 0} → (List ℕ → Result (X × List ℕ) (List ℕ)) → ℕ → List ℕ
    → Result (List X × List ℕ) (List ℕ)
counted one zero cells = Ok ([], cells)
counted one (suc n) cells = do
  first ← one cells
  others ← counted one n first.1
  Ok (first.0 ∷ others.0, others.1)
