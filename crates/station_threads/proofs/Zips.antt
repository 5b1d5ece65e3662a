-- A list that is gone over, one element after another.
use Rattle.std.proofs.Common.{◌≡◌, ◌∙◌, List, [], ◌∷◌, ◌++◌, append_assoc, subst}

-- one element more is behind
pub gone-over : {A : Type 0} (yielded : List A) (x : A) (all rest items : List A) → all ≡ x ∷ rest → yielded ++ all ≡ items → (yielded ++ x ∷ []) ++ rest ≡ items
gone-over yielded x all rest items steps was = append_assoc yielded (x ∷ []) rest ∙ subst (λ (l : List _). yielded ++ l ≡ items) steps was
