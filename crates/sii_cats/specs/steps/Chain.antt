-- The chain of categories as it is read, header by header. The law `readings` says that this is the grammar's chain.
use Rattle.std.specs.Prelude.{◌≡◌, ℕ, ◌+◌, ◌≤◌, List, [], ◌∷◌, length, map, take, drop, Option, Some, None, Result, Ok, Err, nat_lt, ◌==◌, if◌then◌else◌}
use Rattle.sii_cats.specs.Chain.{ArePlaced, ChainFails, Member, chain_words, end_of, member_of}
use Rattle.sii_cats.specs.steps.Items.{Front, items_of}
use Rattle.sii_cats.specs.steps.Items.Front.{Ended, Item, Broken}
use Rattle.sii_cats.specs.declared.categories.Category.{Category}
use Rattle.sii_cats.specs.declared.fault.ChainFault.{ChainFault}

-- the category in front, after its type word
abbrev pub content_at : ℕ → List ℕ → Front Member
content_at kind [] = Broken
content_at kind (count ∷ words) =
    if nat_lt (length words) count then Broken
    else Item (record { kind = kind; content = take count words }) (drop count words)

-- the category in front, or an end
abbrev pub member_at : List ℕ → Front Member
member_at [] = Ended
member_at (kind ∷ words) = if kind == 0xFFFF then Ended else content_at kind words

-- the chain, or what is left of the words where it can't be read on
abbrev pub members_of : List ℕ → Result (List Member) (List ℕ)
members_of words = items_of member_at (drop 64 words)

-- The chain can be read only up to the header at this word.
abbrev pub RunsOutAt : List ℕ → ℕ → Type 0
RunsOutAt words at = (members_of words ≡ Err (drop at words)) × (at ≤ length words)

-- What reading the chain answers.
abbrev pub GivesChain : {V : Type 0} → (V → List Member) → List ℕ → Result V ChainFault → Type 0
GivesChain view words (Ok v) = members_of words ≡ Ok (view v)
GivesChain view words (Err fault) = ChainFails (RunsOutAt words) fault

-- What reading the header at a word answers: a category, or None at the end of the chain.
abbrev pub HeaderGives : List ℕ → ℕ → Result (Option Category) ChainFault → Type 0
HeaderGives words at (Ok (Some c)) = (c.at ≡ at) × (end_of c ≤ length words)
    × (member_at (drop at words) ≡ Item (member_of words c) (drop (end_of c) words))
HeaderGives words at (Ok None) = member_at (drop at words) ≡ Ended
HeaderGives words at (Err fault) = ChainFails (λ k. (k ≡ at) × (member_at (drop at words) ≡ Broken)) fault

-- The whole chain was read: these are its categories, and this is the word after it.
pub record IsWalked (words : List ℕ) (categories : List Category) (at : ℕ) : Type 0 where
  pub read : members_of words ≡ Ok (map (member_of words) categories)
  pub placed : ArePlaced words categories
  pub ended : at ≡ 64 + length (chain_words (map (member_of words) categories))
  pub low : at ≤ length words
