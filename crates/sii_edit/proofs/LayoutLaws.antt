-- The layouts of the slaves that get new words.
use Rattle.std.proofs.Common.{◌≡◌, ℕ, ◌+◌, ◌<◌, List, [], ◌∷◌, ◌++◌, length, map, take, get_or, set, refl, sym, ap, ◌∙◌}
use Rattle.std.proofs.lemmas.List.{map-append, take_more}
use Rattle.sii_words.specs.Plant.{words_of}
use Rattle.sii_image.specs.declared.new_layouts.NewLayout.{NewLayout}
use Rattle.sii_image.specs.NewLayouts.{slaves_of, with_each}
use Rattle.sii_edit.specs.declared.draft.Renewal.{Renewal}
use Rattle.sii_edit.specs.Draft.{drafted, renewed, renewed_slaves}

abbrev pub layout_in : List (List ℕ) → Renewal → NewLayout
layout_in plant renewal = record { slave = renewal.slave; layout = renewed (words_of plant renewal.slave) renewal.new }

pub with_each-layouts : (plant : List (List ℕ)) (draft : List Renewal) → with_each plant (map (layout_in plant) draft) ≡ drafted plant draft
with_each-layouts plant [] = refl
with_each-layouts plant (first ∷ others) =
    ap (λ (p : List (List ℕ)). set p first.slave (renewed (words_of plant first.slave) first.new)) (with_each-layouts plant others)

pub slaves_of-layouts : (plant : List (List ℕ)) (draft : List Renewal) → slaves_of (map (layout_in plant) draft) ≡ renewed_slaves draft
slaves_of-layouts plant [] = refl
slaves_of-layouts plant (first ∷ others) = ap (λ (slaves : List ℕ). first.slave ∷ slaves) (slaves_of-layouts plant others)

-- one more layout
pub layouts-more : (plant : List (List ℕ)) (draft : List Renewal) (at : ℕ) (renewal : Renewal) (now : List NewLayout) {new : List NewLayout}
    → at < length draft → renewal ≡ get_or draft at renewal → now ≡ map (layout_in plant) (take at draft) → new ≡ now ++ layout_in plant renewal ∷ []
    → new ≡ map (layout_in plant) (take (at + 1) draft)
layouts-more plant draft at renewal now there is so_far more =
    more ∙ ap (λ (layouts : List NewLayout). layouts ++ layout_in plant renewal ∷ []) so_far ∙ sym (map-append (layout_in plant) (take at draft) (renewal ∷ []))
    ∙ ap (map (layout_in plant)) (ap (λ (one : Renewal). take at draft ++ one ∷ []) is ∙ sym (take_more draft at renewal there))
