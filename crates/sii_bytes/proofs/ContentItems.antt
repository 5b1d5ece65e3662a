-- Items of a content by the values that the code holds.
use Rattle.std.proofs.Common.{◌≡◌, ℕ, ◌<◌, ◌≤◌, List, length, map, get_or, refl, ap, ◌∙◌, arith}
use Rattle.std.specs.Prelude.{option_map}
use Rattle.std.proofs.lemmas.List.{length-map}
use Rattle.std.proofs.lemmas.Option.{slice_get-map, slice_get_read}
use Rattle.sii_bytes.specs.Content.{HasItem, LacksItem}
use Rattle.sii_bytes.specs.Content.LacksItem.{fewer}

-- the value at a number among those of the content is its item of this number
pub item_of : {V X : Type 0} (v : V → X) (Are : List ℕ → List X → Type 0) (content : List ℕ) (vs : List V) (number : ℕ) (value : V)
    → Are content (map v vs) → number < length vs → value ≡ get_or vs number value → HasItem Are content number (v value)
item_of v Are content vs number value all within is = record {
  items = map v vs;
  all = all;
  found = slice_get-map v vs number ∙ ap (option_map v) (slice_get_read vs (length vs) number value refl within is);
}

-- past the values of the content there is no item
pub no_item : {V X : Type 0} (v : V → X) (Are : List ℕ → List X → Type 0) (content : List ℕ) (vs : List V) (number : ℕ)
    → Are content (map v vs) → length vs ≤ number → LacksItem Are content number 214
no_item v Are content vs number all past = let same = length-map vs v in fewer (map v vs) refl all (omega arith)
