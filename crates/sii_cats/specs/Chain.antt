-- The chain of categories, from word 0x40 on (ETG.1000.6, slave information interface): for each a type word, a word with
-- the length of its content in words, and the content. The type 0xFFFF ends the chain, and so does the end of the words.
use Rattle.std.specs.Prelude.{◌≡◌, ◌≢◌, ℕ, ◌+◌, ◌<◌, ◌≤◌, List, [], ◌∷◌, ◌++◌, length, map, take, drop, All, Result, Ok, Err}
use Rattle.std.specs.List.{flat_map}
use Rattle.sii_cats.specs.Items.{AreItems}
use Rattle.sii_cats.specs.declared.categories.Category.{Category}
use Rattle.sii_cats.specs.declared.fault.ChainFault.{ChainFault}
use Rattle.sii_cats.specs.declared.fault.ChainFault.TheVariants.{Memory, RunsOut}

-- a category of a chain: its type, and the words of its content
pub record Member : Type 0 where
  pub kind : ℕ
  pub content : List ℕ

-- the words of a category: its type, the length of its content, and the content
abbrev pub member_words : Member → List ℕ
member_words m = m.kind ∷ length m.content ∷ m.content

-- the words of a whole chain
abbrev pub chain_words : List Member → List ℕ
chain_words ms = flat_map member_words ms

-- the words begin with this category, and this is what is left behind it
abbrev pub Begins : List ℕ → Member → List ℕ → Type 0
Begins words m rest = (m.kind ≢ 0xFFFF) × (words ≡ member_words m ++ rest)

-- the chain ends here: nothing is left, or the end mark comes
abbrev pub IsEnd : List ℕ → Type 0
IsEnd [] = Unit {0}
IsEnd (word ∷ words) = word ≡ 0xFFFF

-- the category is cut off here: its header or its content isn't whole
abbrev pub IsCut : List ℕ → Type 0
IsCut [] = ⊥
IsCut (kind ∷ []) = kind ≢ 0xFFFF
IsCut (kind ∷ count ∷ words) = (kind ≢ 0xFFFF) × (length words < count)

-- from word 0x40 on the words are these categories one after another, up to an end
abbrev pub IsChain : List ℕ → List Member → Type 0
IsChain words ms = AreItems Begins IsEnd (drop 64 words) ms

-- from word 0x40 on categories stand one after another, up to the header at this word, which is cut off
abbrev pub IsCutAt : List ℕ → ℕ → Type 0
IsCutAt words at = (ms : List Member) × AreItems Begins (λ rest. IsCut rest × (rest ≡ drop at words) × (at ≤ length words)) (drop 64 words) ms

-- the number of the word after a category
abbrev pub end_of : Category → ℕ
end_of c = c.at + 2 + c.count

-- the content of the category that stands at this place among the words
abbrev pub content_of : List ℕ → Category → List ℕ
content_of words c = take c.count (drop (c.at + 2) words)

-- the category that stands at this place among the words
abbrev pub member_of : List ℕ → Category → Member
member_of words c = record { kind = c.kind; content = content_of words c }

-- the places of these categories one after the other, the first with its header at this word
abbrev pub categories_from : ℕ → List Member → List Category
categories_from at [] = []
categories_from at (m ∷ ms) = record { kind = m.kind; at = at; count = length m.content } ∷ categories_from (at + length (member_words m)) ms

-- The categories lie inside the words, one after the other from word 0x40 on.
pub record ArePlaced (words : List ℕ) (categories : List Category) : Type 0 where
  pub inside : All (λ c. end_of c ≤ length words) categories
  pub placed : categories ≡ categories_from 64 (map (member_of words) categories)

-- A fault of reading the chain: `RunsOut` is answered only where the words are cut off; `Memory` may always be.
abbrev pub ChainFails : (ℕ → Type 0) → ChainFault → Type 0
ChainFails Cut Memory = Unit {0}
ChainFails Cut (RunsOut at) = Cut at

-- What reading the chain answers: the chain, or a fault.
abbrev pub AnswersChain : {V : Type 0} → (V → List Member) → List ℕ → Result V ChainFault → Type 0
AnswersChain view words (Ok v) = IsChain words (view v)
AnswersChain view words (Err fault) = ChainFails (IsCutAt words) fault
