-- The machine: a station's abstract state, as its callers know it.
use Rattle.std.specs.Prelude.{◌≡◌, ℕ, ◌+◌, ◌≤◌, List, [], ◌∷◌, ◌++◌, length, take}
use Rattle.sii_edit.specs.declared.command.Command.{Command}
use Rattle.sii_edit.specs.Fold.{contents}

-- The contents at the beginning, the prefixes of all earlier sessions joined, the commands accepted in this session, and the number
-- of these that are acknowledged.
pub record Machine : Type 0 where
  pub origin : List (List ℕ)
  pub kept : List Command
  pub accepted : List Command
  pub acknowledged : ℕ

-- The contents that the session began with.
abbrev pub base_of : Machine → List (List ℕ)
base_of machine = contents machine.origin machine.kept

-- One more command is accepted.
abbrev pub accepts : Machine → Command → Machine
accepts machine command = record machine { accepted = machine.accepted ++ command ∷ [] }

-- `more` further commands are acknowledged.
abbrev pub acknowledges : Machine → ℕ → Machine
acknowledges machine more = record machine { acknowledged = machine.acknowledged + more }

-- A new session begins, after the first k commands of the last one.
abbrev pub reopened : Machine → ℕ → Machine
reopened machine k = record { origin = machine.origin; kept = machine.kept ++ take k machine.accepted; accepted = []; acknowledged = 0 }

-- The length of a prefix that an open may find: all acknowledged commands are in it.
abbrev pub MayKeep : Machine → ℕ → Type 0
MayKeep machine k = (machine.acknowledged ≤ k) × (k ≤ length machine.accepted)
