-- Hexadecimal text as the program reads and writes it.
use Rattle.std.specs.Prelude.{ℕ, not, List}
use Rattle.std.specs.Char.{is_ascii_whitespace}
use Rattle.std.specs.List.{filter}

-- the text without its spaces, tabs, line feeds, form feeds and carriage returns
abbrev pub without_whitespace : List ℕ → List ℕ
without_whitespace text = filter (λ byte. not (is_ascii_whitespace byte)) text
