-- What a power cut leaves of the halves of all slaves, one by one.
use Rattle.std.proofs.Common.{◌≡◌, ℕ, zero, suc, List, [], ◌∷◌, Some, slice_get, slice_set, refl, subst}
use Rattle.esc_model.specs.SlaveHalf.{SlaveHalf, MayLeave}
use Rattle.site_core.specs.State.{EachMayLeave, EachMayStop}
use Rattle.esc_model.proofs.Resting.{MayStop-leaves}

-- a power cut adds nothing to what a later one may leave
pub EachMayLeave-stopped : (halves later : List SlaveHalf) (words : List (List ℕ)) → EachMayStop halves later → EachMayLeave later words → EachMayLeave halves words
EachMayLeave-stopped [] [] words stops leaves = leaves
EachMayLeave-stopped [] (l ∷ ls) words stops leaves = absurd stops
EachMayLeave-stopped (h ∷ hs) [] words stops leaves = absurd stops
EachMayLeave-stopped (h ∷ hs) (l ∷ ls) [] stops leaves = absurd leaves
EachMayLeave-stopped (h ∷ hs) (l ∷ ls) (w ∷ ws) stops leaves =
    (MayStop-leaves h l w stops.0 leaves.0, EachMayLeave-stopped hs ls ws stops.1 leaves.1)

-- the words of one slave are those that a power cut may leave of its half
pub EachMayLeave-at : (halves : List SlaveHalf) (words : List (List ℕ)) (slave : ℕ) (half : SlaveHalf) → slice_get halves slave ≡ Some half → EachMayLeave halves words
    → (left : List ℕ) × (slice_get words slave ≡ Some left) × MayLeave half left
EachMayLeave-at [] words slave half here leaves = absurd cc
EachMayLeave-at (h ∷ hs) [] slave half here leaves = absurd leaves
EachMayLeave-at (h ∷ hs) (w ∷ ws) zero half here leaves =
    let e : h ≡ half = cc in (w, refl, subst (λ (x : SlaveHalf). MayLeave x w) e leaves.0)
EachMayLeave-at (h ∷ hs) (w ∷ ws) (suc slave) half here leaves = EachMayLeave-at hs ws slave half here leaves.1

-- A slave's half may be exchanged, and with it the words that are left of it.
pub EachMayLeave-exchanged : (halves : List SlaveHalf) (words : List (List ℕ)) (slave : ℕ) (half : SlaveHalf) (left : List ℕ)
    → MayLeave half left → EachMayLeave halves words → EachMayLeave (slice_set halves slave half) (slice_set words slave left)
EachMayLeave-exchanged [] [] slave half left leaves each = tt
EachMayLeave-exchanged [] (w ∷ ws) slave half left leaves each = absurd each
EachMayLeave-exchanged (h ∷ hs) [] slave half left leaves each = absurd each
EachMayLeave-exchanged (h ∷ hs) (w ∷ ws) zero half left leaves each = (leaves, each.1)
EachMayLeave-exchanged (h ∷ hs) (w ∷ ws) (suc slave) half left leaves each =
    (each.0, EachMayLeave-exchanged hs ws slave half left leaves each.1)

-- a half of which a power cut leaves no more adds nothing
pub EachMayLeave-less : (halves : List SlaveHalf) (slave : ℕ) (half later : SlaveHalf) (words : List (List ℕ)) → slice_get halves slave ≡ Some half
    → ((left : List ℕ) → MayLeave later left → MayLeave half left) → EachMayLeave (slice_set halves slave later) words → EachMayLeave halves words
EachMayLeave-less [] slave half later words here less each = absurd cc
EachMayLeave-less (h ∷ hs) zero half later [] here less each = absurd each
EachMayLeave-less (h ∷ hs) zero half later (w ∷ ws) here less each =
    let e : half ≡ h = cc in (subst (λ (x : SlaveHalf). MayLeave x w) e (less w each.0), each.1)
EachMayLeave-less (h ∷ hs) (suc slave) half later [] here less each = absurd each
EachMayLeave-less (h ∷ hs) (suc slave) half later (w ∷ ws) here less each =
    (each.0, EachMayLeave-less hs slave half later ws here less each.1)
