-- The words of a slave with a new alias.
use Rattle.std.specs.Prelude.{ℕ, List, Option, Some, None, slice_set}
use Rattle.sii_image.specs.declared.slave_layout.Name.{Name}

-- the words with words 4 and 7 replaced, if new ones are given
abbrev pub named : List ℕ → Option Name → List ℕ
named words None = words
named words (Some name) = slice_set (slice_set words 4 name.alias) 7 name.seven
