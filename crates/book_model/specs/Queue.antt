-- How the queue's running data, namings and words, represents the book's cells. A place is an index into the namings.
use Rattle.std.specs.Prelude.{◌≡◌, ◌≢◌, ℕ, zero, suc, ◌+◌, ◌-◌, ◌<◌, ◌≤◌, ◌==◌, nat_le, min, List, [], ◌∷◌, length, map, take, drop, slice_index_or, if◌then◌else◌}
use Rattle.book_model.specs.declared.due.Naming.{Naming}
use Rattle.book_model.specs.declared.due.Word.{Word}
use Rattle.book_model.specs.declared.due.Held.{Held}
use Rattle.book_model.specs.declared.due.Held.TheVariants.{Value, Issued}
use Rattle.book_model.specs.Cells.{Known, Holds, Unsure, Cell, cell_of}
use Rattle.book_model.specs.Pending.{Pending, values_of}

-- The default for a place with no naming.
abbrev pub no_naming : Naming
no_naming = record { word = 0; value = 0; before = 0; entry = 0 }

-- The default for a word that the slave doesn't have.
abbrev pub no_word : Word
no_word = record { held = Value 0; end = 0; mark = 0 }

-- A naming as a word and a value.
abbrev pub pair_of : Naming → ℕ × ℕ
pair_of n = (n.word, n.value)

-- The namings as pairs of a word and a value.
abbrev pub live_of : List Naming → List (ℕ × ℕ)
live_of namings = map pair_of namings

-- The numbers of their entries.
abbrev pub numbers_of : List Naming → List ℕ
numbers_of namings = map (λ (n : Naming). n.entry) namings

-- What is known of a word.
abbrev pub known_of : Held → Known
known_of (Value value) = Holds value
known_of (Issued issues) = Unsure issues

-- The cell of word `at`: its namings from its mark on are owed.
abbrev pub cell_for : List (ℕ × ℕ) → ℕ → Word → Cell
cell_for live at word = record { known = known_of word.held; owed = values_of at (drop word.mark live) }

-- The cells of words from `at` on.
abbrev pub cells_from : List (ℕ × ℕ) → ℕ → List Word → List Cell
cells_from live at [] = []
cells_from live at (word ∷ words) = cell_for live at word ∷ cells_from live (suc at) words

-- One more naming in front: a place moves by one, and 0 still means that there is none.
abbrev pub shifted : ℕ → ℕ
shifted zero = 0
shifted (suc k) = suc (suc k)

-- One more than the place of the word's last naming, or 0 if there is none.
abbrev pub end_of : ℕ → List (ℕ × ℕ) → ℕ
end_of at [] = 0
end_of at (n ∷ ns) = if n.0 == at then suc (end_of at ns) else shifted (end_of at ns)

-- A place has 32 bits.
abbrev pub most_namings : ℕ
most_namings = 4294967295

-- For how many more namings there is room, where memory is reserved for `capacity` in all and so many are there.
abbrev pub room_in : (capacity named : ℕ) → ℕ
room_in capacity named = min capacity most_namings - named

-- The abstract state that namings and words represent.
abbrev pub pending_of : List Naming → List Word → ℕ → Pending
pending_of namings words room =
    record { cells = cells_from (live_of namings) 0 words; live = live_of namings; numbers = numbers_of namings; room = room }

-- THE INVARIANT OF A QUEUE

-- The word's end is right, and its mark is not beyond it.
pub record WordStands (live : List (ℕ × ℕ)) (at : ℕ) (word : Word) : Type 0 where
  pub end : word.end ≡ end_of at live
  pub mark : word.mark ≤ word.end

-- The slave has the word of the naming, and `before` leads to that word's previous naming.
pub record NamingStands (live : List (ℕ × ℕ)) (place : ℕ) (naming : Naming) (words : ℕ) : Type 0 where
  pub inside : naming.word < words
  pub before : naming.before ≡ end_of naming.word (take place live)

-- No naming of the word before the cursor is to be issued: if its last naming is there, all of its namings are settled.
abbrev pub IsPast : ℕ → Word → Type 0
IsPast cursor word = word.end ≤ cursor → word.end ≤ word.mark

-- Word `at`.
abbrev pub word_at : List Word → ℕ → Word
word_at words at = slice_index_or words at no_word

-- The naming at this place.
abbrev pub naming_at : List Naming → ℕ → Naming
naming_at namings place = slice_index_or namings place no_naming

-- Words and namings fit each other.
pub record Stands (namings : List Naming) (words : List Word) : Type 0 where
  pub each_word : (at : ℕ) → at < length words → WordStands (live_of namings) at (word_at words at)
  pub each_naming : (place : ℕ) → place < length namings → NamingStands (live_of namings) place (naming_at namings place) (length words)

-- No naming before the cursor is to be issued.
pub record Cursor (cursor : ℕ) (namings : List Naming) (words : List Word) : Type 0 where
  pub inside : cursor ≤ length namings
  pub past : (at : ℕ) → at < length words → IsPast cursor (word_at words at)

-- All namings before the place are settled.
pub record IsSettled (settled : ℕ) (namings : List Naming) (words : List Word) : Type 0 where
  pub inside : settled ≤ length namings
  pub each : (place : ℕ) → place < settled → place < (word_at words (naming_at namings place).word).mark

-- The place is that of the first naming that isn't settled, or the number of namings.
pub record SettledTo (settled : ℕ) (namings : List Naming) (words : List Word) : Type 0 where
  pub before : IsSettled settled namings words
  pub first : settled < length namings → (word_at words (naming_at namings settled).word).mark ≤ settled

-- The places of all namings have 32 bits.
abbrev pub IsInReach : List Naming → Type 0
IsInReach namings = length namings ≤ most_namings

-- The naming at the place is to be issued: its word's last one, and not settled.
pub record IsDue (namings : List Naming) (words : List Word) (place : ℕ) : Type 0 where
  pub last : (word_at words (naming_at namings place).word).end ≡ place + 1
  pub owed : (word_at words (naming_at namings place).word).mark ≤ place

-- The first `count` namings can be retired: no word is owed more values than the later namings give it.
abbrev pub CanRetire : Pending → ℕ → Type 0
CanRetire p count = (at : ℕ) → length (cell_of p.cells at).owed ≤ length (values_of at (drop count p.live))

-- A word that was just read.
abbrev pub word_read : ℕ → Word
word_read value = record { held = Value value; end = 0; mark = 0 }

-- A naming after the first `count` namings are removed.
abbrev pub naming_down : ℕ → Naming → Naming
naming_down count n = record { word = n.word; value = n.value; before = n.before - count; entry = n.entry }

-- A word after the first `count` namings are removed.
abbrev pub word_down : ℕ → Word → Word
word_down count w = record { held = w.held; end = w.end - count; mark = w.mark - count }

-- The word after the loop has passed the namings before the place: it lowers a word's places at the word's last naming.
abbrev pub word_passed : (count place : ℕ) → Word → Word
word_passed count place w = if nat_le w.end place then word_down count w else w

-- The value is not in the list.
abbrev pub IsVacant : ℕ → List ℕ → Type 0
IsVacant value [] = Unit {0}
IsVacant value (v ∷ vs) = (v ≢ value) × IsVacant value vs

-- The place follows one of the word's namings, or is 0, and no naming from there on gives the value to the word.
pub record IsAfter (namings : List Naming) (at value place : ℕ) : Type 0 where
  pub inside : place ≤ length namings
  pub names : (p : ℕ) → place ≡ suc p → (naming_at namings p).word ≡ at
  pub vacant : IsVacant value (values_of at (drop place (live_of namings)))
