-- The words of a line's slaves, as they came over a wire. `Gives` is what is known of the bytes that the wire gives.
use Rattle.std.specs.Prelude.{ℕ, ◌+◌, ◌*◌, List, [], ◌∷◌, ◌++◌, slice_index, IfOk}
use Rattle.sii_words.specs.Words.{bytes_of}
use Rattle.wire_words.specs.Words.{PairCame}
use Rattle.wire_bringup.specs.declared.found.FoundSlave.{FoundSlave}

-- These are the bytes of the slave's first so many pairs of words, each of which came over the wire.
pub data PairsCame (Gives : List ℕ → Type 0) (from : ℕ) : (pairs : ℕ) → List ℕ → Type 0 where
  no_pair : PairsCame Gives from 0 []
  one_more : {pairs : ℕ} {bytes pair : List ℕ} → PairsCame Gives from pairs bytes → PairCame Gives from (2 * pairs) pair
      → PairsCame Gives from (pairs + 1) (bytes ++ pair)

-- All of these words of the slave came over the wire.
pub record WordsCame (Gives : List ℕ → Type 0) (from : ℕ) (words : List ℕ) : Type 0 where
  pub pairs : ℕ
  pub came : PairsCame Gives from pairs (bytes_of words)

-- All words of a slave that was found did, unless it can't be worked on.
abbrev pub FoundCame : (Gives : List ℕ → Type 0) → (from : ℕ) → FoundSlave → Type 0
FoundCame Gives from found = IfOk found.words (WordsCame Gives from)

-- the same of each slave from this place of the line on, by its station address
abbrev pub AllCame : (Gives : List ℕ → Type 0) → (stations : List ℕ) → (slave : ℕ) → List FoundSlave → Type 0
AllCame Gives stations slave [] = Unit {0}
AllCame Gives stations slave (found ∷ others) = FoundCame Gives (slice_index stations slave) found × AllCame Gives stations (slave + 1) others
