-- One category of a device replaced, added or removed.
use Rattle.std.specs.Prelude.{◌≡◌, ℕ, suc, ◌+◌, ◌<◌, ◌≤◌, List, [], ◌∷◌, ◌++◌, length, take, drop, remove, slice_get, slice_set, Option, Some, None, Result, Ok, Err}
use Rattle.sii_cats.specs.Chain.{Member, chain_words, IsChain}
use Rattle.sii_cats.specs.steps.Chain.{members_of, RunsOutAt}
use Rattle.sii_cats.specs.declared.fault.ChainFault.{ChainFault}
use Rattle.sii_cats.specs.declared.fault.ChainFault.TheVariants as chain
use Rattle.sii_cats.specs.declared.fault.CatFault.{CatFault}
use Rattle.sii_cats.specs.declared.fault.CatFault.TheVariants.{Memory, RunsOut, BadCategory, NoRoom}

-- the chain with a category added last (no place), removed (by an empty content) or replaced
abbrev pub spliced : Option ℕ → ℕ → List ℕ → List Member → List Member
spliced None kind content ms = ms ++ record { kind = kind; content = content } ∷ []
spliced (Some i) kind [] ms = remove ms i
spliced (Some i) kind (word ∷ words) ms = slice_set ms i (record { kind = kind; content = word ∷ words })

-- the number of the word after a chain
abbrev pub chain_end : List Member → ℕ
chain_end ms = 64 + length (chain_words ms)

-- the words after a chain: the first becomes the end mark, if there is one, and the others stay
abbrev pub closing : List ℕ → List ℕ
closing [] = []
closing (word ∷ words) = 0xFFFF ∷ words

-- the words of a device with another chain
abbrev pub with_chain : List ℕ → List Member → List ℕ
with_chain words ms = let front = take 64 words ++ chain_words ms in front ++ closing (drop (length front) words)

-- The new words have this chain, and differ from the old ones only in the chain and its end mark.
pub record IsEdit (old new : List ℕ) (ms : List Member) : Type 0 where
  pub size : length new ≡ length old
  pub before : take 64 new ≡ take 64 old
  pub chain : IsChain new ms
  pub mark : chain_end ms < length old → slice_get new (chain_end ms) ≡ Some 0xFFFF
  pub after : drop (suc (chain_end ms)) new ≡ drop (suc (chain_end ms)) old

-- The old words have a chain, and the new words are this edit of it.
abbrev pub IsCategoryEdit : List ℕ → List ℕ → Option ℕ → ℕ → List ℕ → Type 0
IsCategoryEdit old new member kind content = (ms : List Member) × IsChain old ms × IsEdit old new (spliced member kind content ms)

-- When each fault is answered: the old chain can't be read, or the new one passes the end; `Memory` may always be.
abbrev pub SpliceFails : List ℕ → Option ℕ → ℕ → List ℕ → CatFault → Type 0
SpliceFails words member kind content Memory = Unit {0}
SpliceFails words member kind content (RunsOut at) = RunsOutAt words at
SpliceFails words member kind content (BadCategory k) = ⊥
SpliceFails words member kind content NoRoom = (ms : List Member) × (members_of words ≡ Ok ms)
    × (length words < chain_end (spliced member kind content ms))

-- What `splice` answers: the words with the new chain, or a fault.
abbrev pub GivesSplice : {V : Type 0} → (V → List ℕ) → List ℕ → Option ℕ → ℕ → List ℕ → Result V CatFault → Type 0
GivesSplice view words member kind content (Ok v) = (ms : List Member) × (members_of words ≡ Ok ms)
    × (chain_end (spliced member kind content ms) ≤ length words) × (view v ≡ with_chain words (spliced member kind content ms))
GivesSplice view words member kind content (Err fault) = SpliceFails words member kind content fault

-- ---- the parts

-- a fault of the chain as a fault of the edit
abbrev pub cat_fault : ChainFault → CatFault
cat_fault chain.Memory = Memory
cat_fault (chain.RunsOut at) = RunsOut at

-- the words of a category, or none if its content is empty
abbrev pub new_words : ℕ → List ℕ → List ℕ
new_words kind [] = []
new_words kind (word ∷ words) = kind ∷ length (word ∷ words) ∷ word ∷ words
