-- An image is written over the first words of a slave.
use Rattle.std.specs.Prelude.{ℕ, List, ◌++◌, length, drop}

-- the image's words, and after them the old words
abbrev pub with_front : List ℕ → List ℕ → List ℕ
with_front words front = front ++ drop (length front) words
