-- The parts of a ledger, and what they count.
use Rattle.std.specs.Prelude.{◌≡◌, ℕ, ◌+◌, ◌<◌, ◌^◌}

-- a ledger that isn't opened yet: its name, and into how many parts it is cut
pub record Cut : Type 0 where
  pub name : ℕ
  pub count : ℕ

-- The token is one part of the ledger, and its amount is this count.
pub record IsToken (count parts amount : ℕ) : Type 0 where
  pub one_part : parts ≡ 1
  pub counts : amount ≡ count

-- Of `all` parts of a ledger, `left` aren't given out and `given` are. Those that aren't given out count nothing.
pub record IsRest (all parts amount left given : ℕ) : Type 0 where
  pub left_over : parts ≡ left
  pub nothing : amount ≡ 0
  pub entire : left + given ≡ all
  pub fits : all < 2 ^ 64
