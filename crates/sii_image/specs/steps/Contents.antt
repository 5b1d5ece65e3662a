-- The contents of the categories that stand among words, and their sizes.
use Rattle.std.specs.Prelude.{ℕ, List, length, map, sum_by}
use Rattle.sii_cats.specs.Chain.{content_of, member_of}
use Rattle.sii_cats.specs.declared.categories.Category.{Category}
use Rattle.sii_image.specs.ProcessData.{contents_of_kind}

-- the contents of all categories of a type
abbrev pub contents_among : List ℕ → ℕ → List Category → List (List ℕ)
contents_among words kind categories = contents_of_kind kind (map (member_of words) categories)

-- how many words the contents of these categories have together
abbrev pub content_sizes : List ℕ → List Category → ℕ
content_sizes words categories = sum_by (λ c. length (content_of words c)) categories
