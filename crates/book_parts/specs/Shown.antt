-- The contents after a prefix of the accepted commands.
use Rattle.std.specs.Prelude.{◌≡◌, ℕ, List}
use Rattle.sii_edit.specs.declared.command.Command.{Command}
use Rattle.sii_edit.specs.Fold.{contents_after}

-- Contents, and the number of commands after which they come.
pub record Shown : Type 0 where
  pub contents : List (List ℕ)
  pub count : ℕ

-- They are the contents after that many of these commands.
abbrev pub IsAfter : List (List ℕ) → List Command → Shown → Type 0
IsAfter base commands shown = shown.contents ≡ contents_after base commands shown.count
