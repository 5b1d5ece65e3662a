-- The two halves of a journal of version 2 over time: a batch becomes live after the others, and the older half is retired.
use Rattle.std.specs.Prelude.{◌≡◌, ◌≢◌, ℕ, zero, suc, ◌+◌, ◌%◌, ◌≤◌, ◌<◌, Bool, nat_le, List, [], ◌∷◌, ◌++◌, length, Option, Some, None, if◌then◌else◌}
use Rattle.std.specs.List.{AllByRecursion}
use Rattle.jrn_format.specs.declared.journal.Entry.{Entry}
use Rattle.jrn_format.specs.declared.journal.Batch.{Batch}
use Rattle.jrn_format.specs.declared.journal.Spelling.TheVariants.{WithGeneration}
use Rattle.jrn_format.specs.Batch.{spelt_payload, spelt_after, CanStand}
use Rattle.jrn_format.specs.Area.{spelt_batches, IsLive}
use Rattle.jrn_format.specs.Journal.{AreHalves, AreOf}

-- The older batches are in half `at` and have this generation. The newer ones are in the other half and have the next generation.
-- While nothing is live, both numbers are 0.
pub record Halves : Type 0 where
  pub at : ℕ
  pub generation : ℕ
  pub older : List Batch
  pub newer : List Batch

-- The other half.
abbrev pub other : ℕ → ℕ
other zero = 1
other (suc n) = 0

-- The generation of the newer half: one more, modulo 256.
abbrev pub next_generation : Halves → ℕ
next_generation halves = (halves.generation + 1) % 256

-- The live batches, in order.
abbrev pub live : Halves → List Batch
live halves = halves.older ++ halves.newer

-- ---- a batch becomes live

-- The place of a new batch: after the batches of the older half, or of the newer half.
pub data Place : Type 0 where
  InOlder : Place
  InNewer : Place

-- The number of that half.
abbrev pub half_of : Halves → Place → ℕ
half_of halves InOlder = halves.at
half_of halves InNewer = other halves.at

-- The live batches of that half.
abbrev pub batches_in : Halves → Place → List Batch
batches_in halves InOlder = halves.older
batches_in halves InNewer = halves.newer

-- The batch of these entries at that place.
abbrev pub batch_in : Halves → Place → List Entry → Batch
batch_in halves InOlder entries = record { half = halves.at; generation = halves.generation; entries = entries }
batch_in halves InNewer entries = record { half = other halves.at; generation = next_generation halves; entries = entries }

-- The halves after a batch has become live at that place.
abbrev pub with_batch : Halves → Place → Batch → Halves
with_batch halves InOlder batch = record halves { older = halves.older ++ batch ∷ [] }
with_batch halves InNewer batch = record halves { newer = halves.newer ++ batch ∷ [] }

-- ---- room

-- The length of batches, in bytes.
abbrev pub size : List Batch → ℕ
size batches = length (spelt_batches WithGeneration batches)

-- The length of a batch of these entries, in bytes.
abbrev pub entries_size : List Entry → ℕ
entries_size entries = 6 + length (spelt_payload entries)

-- A half of `room` bytes holds these batches, a batch of these entries, and a closed gate after it.
abbrev pub fits : ℕ → List Batch → List Entry → Bool
fits room batches entries = nat_le (size batches + entries_size entries + 1) room

-- Where a batch of these entries goes: to the older half only while the newer half is empty. None if it has no room.
abbrev pub place_in : ℕ → (older newer : List Batch) → List Entry → Option Place
place_in room older [] entries = if fits room older entries then Some InOlder else if fits room [] entries then Some InNewer else None
place_in room older (batch ∷ newer) entries = if fits room (batch ∷ newer) entries then Some InNewer else None

-- Where a batch of these entries goes in these halves.
abbrev pub place_of : ℕ → Halves → List Entry → Option Place
place_of room halves entries = place_in room halves.older halves.newer entries

-- ---- the older half is retired

-- What a retire leaves: the newer half becomes the older one; if it is empty, the next batch goes to half 0 with generation 0.
abbrev pub left_of : Halves → List Batch → Halves
left_of halves [] = record { at = 0; generation = 0; older = []; newer = [] }
left_of halves (batch ∷ newer) = record { at = other halves.at; generation = next_generation halves; older = batch ∷ newer; newer = [] }

-- The halves after the older one is retired.
abbrev pub retired : Halves → Halves
retired halves = left_of halves halves.newer

-- ---- the bytes of the area

-- The area consists of the half of the older batches and that of the newer ones. The number is that of the older half.
abbrev pub IsSplit : ℕ → (area older newer : List ℕ) → Type 0
IsSplit zero area older newer = AreHalves area older newer
IsSplit (suc n) area older newer = AreHalves area newer older

-- The batches are live in the bytes of these halves.
pub record HalvesStand (halves : Halves) (older newer : List ℕ) : Type 0 where
  pub at : halves.at ≤ 1
  pub generation : halves.generation < 256
  pub older_live : IsLive WithGeneration halves.at older halves.older
  pub newer_live : IsLive WithGeneration (other halves.at) newer halves.newer
  pub older_of : AreOf halves.generation halves.older
  pub newer_of : AreOf (next_generation halves) halves.newer

-- The half holds batches, then a gate with this value, one more batch, and a closed gate.
pub record HasNext (half : ℕ) (area : List ℕ) (batches : List Batch) (batch : Batch) (gate : ℕ) : Type 0 where
  pub can_stand : AllByRecursion (CanStand WithGeneration half) batches
  pub can : CanStand WithGeneration half batch
  pub closing : ℕ
  pub closed : closing ≢ 0xA5
  pub after : List ℕ
  pub is : area ≡ spelt_batches WithGeneration batches
      ++ (gate ∷ (spelt_after WithGeneration batch.generation batch.entries ++ (closing ∷ after)))

-- The place in the other half.
abbrev pub other_place : Place → Place
other_place InOlder = InNewer
other_place InNewer = InOlder

-- Of the half of a place and the other one, `beside`, the half of the older batches.
abbrev pub older_area : Place → (area beside : List ℕ) → List ℕ
older_area InOlder area beside = area
older_area InNewer area beside = beside

-- Of these, the half of the newer batches.
abbrev pub newer_area : Place → (area beside : List ℕ) → List ℕ
newer_area InOlder area beside = beside
newer_area InNewer area beside = area

-- The batches of the other half are live in `beside`, whatever the half of this place holds. The older half takes a batch only while
-- the newer half is empty.
pub record StandsBeside (halves : Halves) (place : Place) (beside : List ℕ) : Type 0 where
  pub at : halves.at ≤ 1
  pub generation : halves.generation < 256
  pub beside_live : IsLive WithGeneration (other (half_of halves place)) beside (batches_in halves (other_place place))
  pub older_of : AreOf halves.generation halves.older
  pub newer_of : AreOf (next_generation halves) halves.newer
  pub in_older : place ≡ InOlder → halves.newer ≡ []
