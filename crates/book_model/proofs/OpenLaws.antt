-- A slave as it is opened.
use Rattle.std.proofs.Common.{◌≡◌, ℕ, suc, ◌<◌, List, [], ◌∷◌, length, map, refl, ap, arith}
use Rattle.std.proofs.lemmas.List.{length-map, get_or-map}
use Rattle.book_model.specs.Cells.{Cell, opened}
use Rattle.book_model.specs.Queue.{no_word, cells_from, Stands, Cursor, SettledTo, word_read}

pub cells-read : (at : ℕ) (values : List ℕ) → cells_from [] at (map word_read values) ≡ map opened values
cells-read at [] = refl
cells-read at (v ∷ vs) = ap (λ (l : List Cell). opened v ∷ l) (cells-read (suc at) vs)

pub stands-read : (values : List ℕ) → Stands [] (map word_read values)
stands-read values = record {
  each_word = λ k inside. let within : k < length values = omega (arith, length-map values word_read) in rw (get_or-map word_read values k 0 no_word within) (record { end = refl; mark = omega arith });
  each_naming = λ p inside. absurd (omega arith);
}

pub cursor-read : (values : List ℕ) → Cursor 0 [] (map word_read values)
cursor-read values = record {
  inside = omega arith;
  past = λ k inside. let within : k < length values = omega (arith, length-map values word_read) in rw (get_or-map word_read values k 0 no_word within) (λ le. omega arith);
}

pub settled-read : (values : List ℕ) → SettledTo 0 [] (map word_read values)
settled-read values = record { before = record { inside = omega arith; each = λ p lt. absurd (omega arith) }; first = λ lt. absurd (omega arith) }
