-- Reading words two by two.
use Rattle.std.specs.Prelude.{◌≡◌, ◌⊎◌, ℕ, ◌+◌, Bool, true, false, List, length, Option, Some, None, slice_index}
use Rattle.esc_model.specs.SlaveHalf.{SlaveHalf, MayRest}
use Rattle.esc_model.specs.WordAccess.{IsAt, IsIdle, OnlyRests}
use Rattle.site_core.specs.State.{Seen, clock}
use Rattle.site_core.specs.Times.{FailsAt}
use Rattle.rom_steps.specs.declared.back.WordPair.{WordPair}
use Rattle.rom_steps.specs.Accesses.{Tried}
use Rattle.rom_steps.specs.Accesses.Tried.{words_read, try_failed, never_idle}
use Rattle.esc_rom.specs.Past.{NeverIdle, EndsTry, FailTries, GivesUpReading}

-- The words are those that the half has read. If there are none, the frame was lost, or the half is at another station address.
abbrev pub Fetched : Seen → (slave : ℕ) → Seen → Option WordPair → SlaveHalf → SlaveHalf → Type 0
Fetched old slave new None half later =
    MayRest half later × (((clock new ≡ clock old + 1) × FailsAt new (clock old)) ⊎ (¬ IsAt slave half))
Fetched old slave new (Some pair) half later =
    MayRest half later × (pair.first ≡ later.registers.first) × (pair.second ≡ later.registers.second)

-- The pair was read: the half is idle, and has these two words from `word` on.
pub record IsRead (pair : WordPair) (word : ℕ) (half later : SlaveHalf) : Type 0 where
  pub only : OnlyRests half later
  pub idle : IsIdle later
  pub first : pair.first ≡ slice_index later.words word
  pub second : pair.second ≡ slice_index later.words (word + 1)

-- One try: the pair was read, or the try failed, or the half wasn't seen idle in 10,000 polls.
abbrev pub TriesRead : Seen → (slave word : ℕ) → Seen → Tried → SlaveHalf → SlaveHalf → Type 0
TriesRead old slave word new (words_read pair) half later = IsRead pair word half later
TriesRead old slave word new try_failed half later =
    OnlyRests half later × (IsAt slave half → EndsTry new slave word (clock old) (clock new) half later)
TriesRead old slave word new never_idle half later = OnlyRests half later × NeverIdle old slave new

-- The pair was read in at most three tries, or the slave is given up.
abbrev pub ReadsPair : Seen → (slave word : ℕ) → Seen → Option WordPair → SlaveHalf → SlaveHalf → Type 0
ReadsPair old slave word new (Some pair) half later = IsRead pair word half later
ReadsPair old slave word new None half later =
    OnlyRests half later × (NeverIdle old slave new ⊎ (IsAt slave half → FailTries new slave word (clock old) 3 (clock new)))

-- All words were read, the half is idle, and these are its words; or the slave is given up.
abbrev pub ReadsAll : Seen → (slave : ℕ) → Seen → List ℕ → Bool → SlaveHalf → SlaveHalf → Type 0
ReadsAll old slave new words true half later =
    OnlyRests half later × (length words ≡ length half.words → IsIdle later × (later.words ≡ words))
ReadsAll old slave new words false half later = OnlyRests half later × GivesUpReading old slave (length words) new
