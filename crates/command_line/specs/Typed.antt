-- The text of a script whose commands were typed.
use Rattle.std.specs.Prelude.{ℕ, List, [], ◌∷◌, ◌++◌, Bool, false, not, nat_eq, if◌then◌else◌}
use Rattle.std.specs.List.{join_by, list_any}
use lib.Chars.{codes}

-- whether a text has neither a line feed nor a carriage return
abbrev pub is_one_line : List ℕ → Bool
is_one_line text = if list_any (λ byte. nat_eq byte 10) text then false else not (list_any (λ byte. nat_eq byte 13) text)

-- the line that begins a command
abbrev pub head : List ℕ
head = codes "[[command]]" ++ 10 ∷ []

-- each of the commands is the line behind such a line
abbrev pub script_of : {X : Type 0} → (X → List ℕ) → List X → List ℕ
script_of text commands = (head ++ join_by text (10 ∷ head) commands) ++ 10 ∷ []
