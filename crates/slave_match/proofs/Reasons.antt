-- What the loops have passed by.
use Rattle.std.proofs.Common.{◌≡◌, ℕ, ◌<◌, List, get_or, Option}
use Rattle.slave_match.specs.Reason.{IsOther}

-- P holds of no element below this index
abbrev pub NoneBelow : {X : Type 0} → (X → Type 0) → List X → ℕ → Type 0
NoneBelow {X} P xs n = (k : ℕ) (x : X) → k < n → get_or xs k x ≡ x → ¬ P x

-- no place below this one is another one with such an image file
abbrev pub NoOtherBelow : (List ℕ → Type 0) → ℕ → List (Option (List ℕ)) → ℕ → Type 0
NoOtherBelow P slave images place = (before : ℕ) → before < place → ¬ IsOther P slave images before
