-- A slave's queue as its calls see it: the cells of its words, and its live namings in order, each a word and a value.
use Rattle.std.specs.Prelude.{ℕ, suc, ◌+◌, ◌-◌, length, take, drop, Bool, true, ◌&&◌, nat_le, ◌==◌, List, [], ◌∷◌, ◌++◌, filter, slice_set, Option, Some, None, slice_get, if◌then◌else◌}
use Rattle.book_model.specs.Cells.{Cell, is_any, asked, written, owing, cell_of}

-- The abstract state of a queue.
pub record Pending : Type 0 where
  pub cells : List Cell
  pub live : List (ℕ × ℕ)
  -- for each naming the number of its entry
  pub numbers : List ℕ
  -- for how many more namings memory is reserved
  pub room : ℕ

-- The values that the namings give to a word, in order.
abbrev pub values_of : ℕ → List (ℕ × ℕ) → List ℕ
values_of at [] = []
values_of at (n ∷ ns) = if n.0 == at then n.1 ∷ values_of at ns else values_of at ns

-- The last naming of each word, in order.
abbrev pub last_of : List (ℕ × ℕ) → List (ℕ × ℕ)
last_of [] = []
last_of (n ∷ ns) = if is_any (values_of n.0 ns) then last_of ns else n ∷ last_of ns

-- The namings that remain to be issued: the last one of each word that is owed something.
abbrev pub to_do : List Cell → List (ℕ × ℕ) → List (ℕ × ℕ)
to_do cells live = filter (λ (n : ℕ × ℕ). is_any (cell_of cells n.0).owed) (last_of live)

-- The first naming, if there is one.
abbrev pub first : List (ℕ × ℕ) → Option (ℕ × ℕ)
first [] = None
first (n ∷ ns) = Some n

-- The queue with the cell of a word replaced.
abbrev pub with_cell : Pending → ℕ → Cell → Pending
with_cell p word cell = record p { cells = slice_set p.cells word cell }

-- The queue after the issue of a naming, if there is one.
abbrev pub issued : Pending → Option (ℕ × ℕ) → Pending
issued p None = p
issued p (Some n) = with_cell p n.0 (asked (cell_of p.cells n.0))

-- The queue once a word is known to hold the value.
abbrev pub word_written : Pending → ℕ → ℕ → Pending
word_written p word value = with_cell p word (written (cell_of p.cells word) value)

-- The queue with one more live naming.
abbrev pub word_named : Pending → (word value number : ℕ) → Pending
word_named p word value number = record {
  cells = slice_set p.cells word (owing (cell_of p.cells word) (value ∷ []));
  live = p.live ++ (word, value) ∷ [];
  numbers = p.numbers ++ number ∷ [];
  room = p.room - 1;
}

-- The queue after the first `count` namings are retired.
abbrev pub retired : Pending → ℕ → Pending
retired p count = record { cells = p.cells; live = drop count p.live; numbers = drop count p.numbers; room = p.room + count }

-- The namings are settled: each of their words is owed no more values than the later namings `after` give it.
abbrev pub namings_settled : List Cell → (after namings : List (ℕ × ℕ)) → Bool
namings_settled cells after [] = true
namings_settled cells after (n ∷ ns) = nat_le (length (cell_of cells n.0).owed) (length (values_of n.0 after)) && namings_settled cells after ns

-- The first `count` namings are settled.
abbrev pub can_retire : Pending → ℕ → Bool
can_retire p count = namings_settled p.cells (drop count p.live) (take count p.live)

-- The length of the longest settled prefix of namings: each word is owed no more values than later namings give it.
abbrev pub settled_count : List Cell → List (ℕ × ℕ) → ℕ
settled_count cells [] = 0
settled_count cells (n ∷ ns) = if nat_le (length (cell_of cells n.0).owed) (length (values_of n.0 ns)) then suc (settled_count cells ns) else 0

-- The number of the entry of the first naming that isn't settled.
abbrev pub unsettled : Pending → Option ℕ
unsettled p = slice_get p.numbers (settled_count p.cells p.live)
