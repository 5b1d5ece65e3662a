-- A state of which a power cut leaves one pair and no other.
use Rattle.std.proofs.Common.{◌≡◌, ◌∙◌, ℕ, zero, suc, List, [], ◌∷◌, map, Some, refl, sym, ap}
use Rattle.std.specs.Prelude.{slice_get}
use Rattle.esc_model.specs.SlaveHalf.{SlaveHalf, powered_up}
use Rattle.site_core.specs.State.{State, Pair, Leaves, EachMayLeave}
use Rattle.site_core.proofs.StopImages.{StopImage-same, StopImage-synced}
use Rattle.site_shadow.specs.Unsynced.{of_bytes}

-- a half at rest with these words
abbrev pub still : List ℕ → SlaveHalf
still words = powered_up words 0

abbrev pub fixed : Pair → State
fixed pair = record { disk = of_bytes pair.disk; halves = map still pair.words }

words_fixed : (words left : List (List ℕ)) → EachMayLeave (map still words) left → left ≡ words
words_fixed [] [] may = refl
words_fixed [] (l ∷ left) may = absurd may
words_fixed (w ∷ words) [] may = absurd may
words_fixed (w ∷ words) (l ∷ left) may =
    ap (λ (v : List ℕ). v ∷ left) may.0 ∙ ap (λ (ws : List (List ℕ)). w ∷ ws) (words_fixed words left may.1)

pub fixed_only : (pair left : Pair) → Leaves (fixed pair) left → left ≡ pair
fixed_only pair left leaves =
    let disk : left.disk ≡ pair.disk = StopImage-synced (of_bytes pair.disk) left.disk leaves.disk in
    let words : left.words ≡ pair.words = words_fixed pair.words left.words leaves.words in
    ap (λ (d : List ℕ). record { disk = d; words = left.words }) disk ∙ ap (λ (w : List (List ℕ)). record { disk = pair.disk; words = w }) words

words_may : (words : List (List ℕ)) → EachMayLeave (map still words) words
words_may [] = tt
words_may (w ∷ words) = (refl, words_may words)

pub fixed_leaves : (pair : Pair) → Leaves (fixed pair) pair
fixed_leaves pair = record { disk = StopImage-same (of_bytes pair.disk); words = words_may pair.words }

pub still_at : (words : List (List ℕ)) (slave : ℕ) (one : List ℕ) → slice_get words slave ≡ Some one → slice_get (map still words) slave ≡ Some (still one)
still_at [] slave one is = absurd cc
still_at (w ∷ words) zero one is = (let same : w ≡ one = cc in ap (λ (v : List ℕ). Some (still v)) same)
still_at (w ∷ words) (suc slave) one is = still_at words slave one is

-- the words of a half that is there
pub still_from : (words : List (List ℕ)) (slave : ℕ) (half : SlaveHalf) → slice_get (map still words) slave ≡ Some half
    → (one : List ℕ) × (slice_get words slave ≡ Some one) × (half ≡ still one)
still_from [] slave half is = absurd cc
still_from (w ∷ words) zero half is = (w, refl, (let same : still w ≡ half = cc in sym same))
still_from (w ∷ words) (suc slave) half is = still_from words slave half is
