-- A line whose disk was just formatted, before any command.
use Rattle.std.specs.Prelude.{◌≡◌, ℕ, List, []}
use Rattle.book_model.specs.Machine.{Machine, base_of}

-- The machine of a line with these words that has accepted nothing.
pub record IsBlank (words : List (List ℕ)) (machine : Machine) : Type 0 where
  pub base : base_of machine ≡ words
  pub none : machine.accepted ≡ []
  pub acknowledged : machine.acknowledged ≡ 0
