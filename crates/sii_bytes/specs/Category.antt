-- The categories of an image by their places in the chain.
use Rattle.std.specs.Prelude.{◌≡◌, ℕ, ◌≤◌, List, length, map, Some, slice_get, Result, Ok, Err}
use Rattle.sii_cats.specs.declared.categories.Category.{Category}
use Rattle.sii_cats.specs.Chain.{ArePlaced, IsChain, IsCutAt, member_of}
use Rattle.sii_bytes.specs.declared.category.CategoryPlace.{CategoryPlace}

-- These are the categories of the image's chain, where they stand.
pub record AreCategories (words : List ℕ) (categories : List Category) : Type 0 where
  pub chain : IsChain words (map (member_of words) categories)
  pub placed : ArePlaced words categories

-- The chain has a category of this number, from 0, and it stands here.
pub record HasCategory (words : List ℕ) (number : ℕ) (place : CategoryPlace) : Type 0 where
  pub categories : List Category
  pub all : AreCategories words categories
  pub category : Category
  pub found : slice_get categories number ≡ Some category
  pub kind : place.kind ≡ category.kind
  pub at : place.at ≡ category.at
  pub count : place.count ≡ category.count

-- Why no category of this number is found: 16, the chain has fewer; 3, it is cut off; or 20, memory was refused.
pub data LacksCategory (words : List ℕ) (number code : ℕ) : Type 0 where
  fewer : (categories : List Category) → code ≡ 16 → AreCategories words categories → length categories ≤ number
      → LacksCategory words number code
  runs_out : (at : ℕ) → code ≡ 3 → IsCutAt words at → LacksCategory words number code
  memory : code ≡ 20 → LacksCategory words number code

-- What looking for a category among words answers.
abbrev pub FindsCategory : List ℕ → ℕ → Result CategoryPlace ℕ → Type 0
FindsCategory words number (Ok place) = HasCategory words number place
FindsCategory words number (Err code) = LacksCategory words number code
