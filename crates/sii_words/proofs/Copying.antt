-- Copying a list item by item.
use Rattle.std.proofs.Common.{◌≡◌, ℕ, ◌+◌, ◌<◌, List, [], ◌∷◌, ◌++◌, length, take, get_or, ap, sym, ◌∙◌}
use Rattle.std.proofs.lemmas.List.{take_more}

-- one more item
pub copied_more : {X : Type 0} (now new xs : List X) (i : ℕ) (x d : X) → i < length xs → x ≡ get_or xs i d → now ≡ take i xs → new ≡ now ++ x ∷ [] → new ≡ take (i + 1) xs
copied_more {X = X} now new xs i x d lt is so_far more =
    more ∙ ap (λ (ys : List X). ys ++ x ∷ []) so_far ∙ ap (λ (y : X). take i xs ++ y ∷ []) is ∙ sym (take_more xs i d lt)
