-- A command with its number.
use Rattle.std.specs.Prelude.{ℕ}
use Rattle.sii_edit.specs.declared.command.Command.{Command}

-- what contracts see of a ticket and of a receipt
pub record Numbered : Type 0 where
  pub number : ℕ
  pub command : Command
