-- The contents after a list of commands, each acting on what the one before left.
use Rattle.std.specs.Prelude.{ℕ, List, [], ◌∷◌, take, IsOk, Result, Ok, Err}
use Rattle.sii_edit.specs.declared.command.Command.{Command}
use Rattle.sii_edit.specs.Command.{outcome}

-- the plant after a command; the same plant if it is refused
abbrev pub after : List (List ℕ) → Command → List (List ℕ)
after plant command = given plant (outcome plant command)
  where
    given : {E : Type 0} → List (List ℕ) → Result (List (List ℕ)) E → List (List ℕ)
    given old (Ok new) = new
    given old (Err refusal) = old

-- the contents after all of the commands
abbrev pub contents : List (List ℕ) → List Command → List (List ℕ)
contents base [] = base
contents base (command ∷ commands) = contents (after base command) commands

-- the contents after the first `count` of the commands
abbrev pub contents_after : List (List ℕ) → List Command → ℕ → List (List ℕ)
contents_after base commands count = contents base (take count commands)

-- none of the commands is refused
abbrev pub AreAccepted : List (List ℕ) → List Command → Type 0
AreAccepted base [] = Unit {0}
AreAccepted base (command ∷ commands) = IsOk (outcome base command) × AreAccepted (after base command) commands
