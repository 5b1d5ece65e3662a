-- An area of a journal: consecutive batches from its start, each after an open gate, and a closed gate after the last.
use Rattle.std.specs.Prelude.{◌≡◌, ◌≢◌, ℕ, ◌+◌, List, ◌∷◌, ◌++◌, length}
use Rattle.std.specs.List.{flat_map, AllByRecursion}
use Rattle.jrn_format.specs.declared.journal.Batch.{Batch}
use Rattle.jrn_format.specs.declared.journal.Spelling.{Spelling}
use Rattle.jrn_format.specs.declared.fault.JournalFault.{JournalFault}
use Rattle.jrn_format.specs.declared.fault.JournalFault.TheVariants.{WrongLine, BadJournal}
use Rattle.jrn_format.specs.Batch.{spelt_batch, CanStand, IsWithin}

-- The encoding of batches, one after another.
abbrev pub spelt_batches : Spelling → List Batch → List ℕ
spelt_batches spelling batches = flat_map (spelt_batch spelling) batches

-- The bytes begin with a closed gate: any byte but 0xA5.
abbrev pub IsClosed : List ℕ → Type 0
IsClosed bytes = (gate : ℕ) × (after : List ℕ) × (gate ≢ 0xA5) × (bytes ≡ gate ∷ after)

-- The bytes begin with an open gate: 0xA5.
abbrev pub IsOpen : List ℕ → Type 0
IsOpen bytes = (after : List ℕ) × (bytes ≡ 0xA5 ∷ after)

-- The area begins with the encoding of these batches, and `rest` follows.
pub record StartsWith (spelling : Spelling) (half : ℕ) (area : List ℕ) (batches : List Batch) (rest : List ℕ) : Type 0 where
  pub can_stand : AllByRecursion (CanStand spelling half) batches
  pub spelt : area ≡ spelt_batches spelling batches ++ rest

-- These batches are live in the area: it is their encoding, followed by a closed gate.
pub record IsLive (spelling : Spelling) (half : ℕ) (area : List ℕ) (batches : List Batch) : Type 0 where
  pub rest : List ℕ
  pub starts : StartsWith spelling half area batches rest
  pub ends : IsClosed rest

-- ---- malformed areas

-- The bytes begin with a well-formed batch, followed by a gate.
pub record HasBatch (spelling : Spelling) (half : ℕ) (bytes : List ℕ) (batch : Batch) : Type 0 where
  pub can_stand : CanStand spelling half batch
  pub gate : ℕ
  pub after : List ℕ
  pub spelt : bytes ≡ spelt_batch spelling batch ++ gate ∷ after

-- The first fault of a malformed area, from left to right. `end` is the file offset just past the area.
pub data IsUnreadableArea (spelling : Spelling) (half : ℕ) (sizes : List ℕ) (end : ℕ) (area : List ℕ) (fault : JournalFault) : Type 0 where
  -- BadJournal: an open gate that no well-formed batch with another gate follows
  malformed : (batches : List Batch) (rest : List ℕ) (at : ℕ) → StartsWith spelling half area batches rest
      → AllByRecursion (IsWithin sizes) batches
      → IsOpen rest → ((batch : Batch) → HasBatch spelling half rest batch → ⊥)
      → at + length rest ≡ end → fault ≡ BadJournal at → IsUnreadableArea spelling half sizes end area fault
  -- WrongLine: a batch that names a slave or a word that the line doesn't have
  outside : (batches : List Batch) (rest : List ℕ) (batch : Batch) → StartsWith spelling half area batches rest
      → AllByRecursion (IsWithin sizes) batches
      → HasBatch spelling half rest batch → (IsWithin sizes batch → ⊥)
      → fault ≡ WrongLine → IsUnreadableArea spelling half sizes end area fault
