-- The values at the keys of a document's tables.
use Rattle.std.specs.Prelude.{bytes_eq, ◌≡◌, ℕ, ◌<◌, ◌&&◌, Bool, true, false, List, [], ◌∷◌, Option, Some, None, option_map, option_and_then, pos, IsSomeAnd, IsTrue}
use Rattle.std.specs.List.{list_any}
use Rattle.toml.specs.Data.{Data, Items, no_items, item, Members, no_members, member, get_member, as_str, as_bool, as_integer, as_array, as_table}

-- the key is one of the known ones
abbrev pub is_known : List (List ℕ) → List ℕ → Bool
is_known known key = list_any (λ one. bytes_eq one key) known

-- the table has no other keys than the known ones
abbrev pub has_only : List (List ℕ) → Members → Bool
has_only known no_members = true
has_only known (member key value rest) = is_known known key && has_only known rest

-- the table has no other keys than the known ones, as a proposition
abbrev pub HasOnly : List (List ℕ) → Members → Type 0
HasOnly known table = IsTrue (has_only known table)

-- the text at a key, if there is one
abbrev pub text_at : List ℕ → Members → Option (List ℕ)
text_at key table = option_and_then as_str (get_member key table)

-- the table at a key, if there is one
abbrev pub table_at : List ℕ → Members → Option Members
table_at key table = option_and_then as_table (get_member key table)

-- the values of an array, in order
abbrev pub values_of : Items → List Data
values_of no_items = []
values_of (item value rest) = value ∷ values_of rest

-- the values of the array at a key, if there is one
abbrev pub values_at : List ℕ → Members → Option (List Data)
values_at key table = option_map values_of (option_and_then as_array (get_member key table))

-- the value is this integer, which is at least 0 and below the limit
abbrev pub IsNumberBelow : ℕ → Data → ℕ → Type 0
IsNumberBelow limit value number = (as_integer value ≡ Some (pos number)) × (number < limit)

-- the value at the key is this integer, which is at least 0 and below the limit
abbrev pub HasNumberBelow : ℕ → List ℕ → Members → ℕ → Type 0
HasNumberBelow limit key table number = IsSomeAnd (get_member key table) (λ value. IsNumberBelow limit value number)

-- the value, if there is one, is this boolean; false where there is none
abbrev pub IsFlag : Option Data → Bool → Type 0
IsFlag None flag = flag ≡ false
IsFlag (Some value) flag = as_bool value ≡ Some flag
