-- Files in memory; of several files of a name the first one counts.
use Rattle.std.specs.Prelude.{ℕ, nat_eq, List, find, Option, Some, None, option_map, string_bytes}
use Rattle.std.specs.Cmp.Lexicographic.{pointwise}
use Rattle.station_cases.specs.declared.shelf.Content.{Content}
use Rattle.station_cases.specs.declared.shelf.Content.TheVariants.{Complete, Open}
use Rattle.station_cases.specs.declared.shelf.Held.{Held}

-- the file of this name
abbrev pub held_at : List Held → List ℕ → Option Held
held_at files name = find (λ held. pointwise nat_eq (string_bytes held.name) name) files

-- the bytes of a file that isn't open; None for an open one
abbrev pub entire : Content → Option (List ℕ)
entire (Complete bytes) = Some bytes.items
entire (Open cells) = None

-- what is known of a file: nothing where it is open
abbrev pub known_of : Option Held → Option (Option (List ℕ))
known_of None = Some None
known_of (Some held) = option_map (λ bytes. Some bytes) (entire held.content)

-- what is known of the file of this name
abbrev pub known_at : List Held → List ℕ → Option (Option (List ℕ))
known_at files name = known_of (held_at files name)
