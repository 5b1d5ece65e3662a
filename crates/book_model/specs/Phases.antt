-- What the disk may hold at each step of an append and of a retire.
use Rattle.std.specs.Prelude.{◌≡◌, ◌≢◌, ℕ, ◌+◌, ◌*◌, ◌≤◌, List, [], ◌∷◌, ◌++◌, length}
use Rattle.std.specs.List.{AllByRecursion}
use Rattle.jrn_format.specs.declared.journal.Entry.{Entry}
use Rattle.jrn_format.specs.declared.journal.Spelling.TheVariants.{WithGeneration}
use Rattle.jrn_format.specs.Batch.{CanStand}
use Rattle.jrn_format.specs.Area.{spelt_batches}
use Rattle.jrn_format.specs.Halves.{Halves, Place, half_of, batches_in, batch_in, HalvesStand, HasNext, StandsBeside}
use Rattle.site_core.specs.Disk.{Disk}
use Rattle.book_model.specs.Frame.{JournalFrame, room, IsFramed, gate_at, IsOne}

-- At rest: nothing is unsynced, and the batches are live in their halves.
pub record AtRest (frame : JournalFrame) (halves : Halves) (disk : Disk) : Type 0 where
  pub older : List ℕ
  pub newer : List ℕ
  pub framed : IsFramed frame halves.at older newer disk.bytes
  pub stands : HalvesStand halves older newer
  pub synced : disk.unsynced ≡ []
  pub entire : length disk.bytes ≤ disk.synced_length

-- While a batch is written: the bytes after the closed gate that ends a half's live batches are unsynced, and a read gives `payload`.
pub record HasPayload (frame : JournalFrame) (halves : Halves) (place : Place) (payload : List ℕ) (disk : Disk) : Type 0 where
  pub gate : ℕ
  pub closed : gate ≢ 0xA5
  pub can : AllByRecursion (CanStand WithGeneration (half_of halves place)) (batches_in halves place)
  pub rest : List ℕ
  pub beside : List ℕ
  pub framed : IsFramed frame (half_of halves place)
      ((spelt_batches WithGeneration (batches_in halves place) ++ gate ∷ []) ++ (payload ++ rest)) beside disk.bytes
  pub one : IsOne disk (gate_at frame halves place + 1) (length payload)
  pub entire : length disk.bytes ≤ disk.synced_length
  pub stands : StandsBeside halves place beside

-- The batch is written after that closed gate, and nothing is unsynced.
pub record HasBatch (frame : JournalFrame) (halves : Halves) (place : Place) (entries : List Entry) (disk : Disk) : Type 0 where
  pub gate : ℕ
  pub closed : gate ≢ 0xA5
  pub rest : List ℕ
  pub beside : List ℕ
  pub next : HasNext (half_of halves place) (spelt_batches WithGeneration (batches_in halves place) ++ (gate ∷ rest))
      (batches_in halves place) (batch_in halves place entries) gate
  pub framed : IsFramed frame (half_of halves place) (spelt_batches WithGeneration (batches_in halves place) ++ (gate ∷ rest)) beside disk.bytes
  pub synced : disk.unsynced ≡ []
  pub entire : length disk.bytes ≤ disk.synced_length
  pub stands : StandsBeside halves place beside

-- While the gate is opened: the batch is written after it, the gate is unsynced, and a read gives the value `gate`.
pub record HasGate (frame : JournalFrame) (halves : Halves) (place : Place) (entries : List Entry) (gate : ℕ) (disk : Disk) : Type 0 where
  pub rest : List ℕ
  pub beside : List ℕ
  pub next : HasNext (half_of halves place) (spelt_batches WithGeneration (batches_in halves place) ++ (gate ∷ rest))
      (batches_in halves place) (batch_in halves place entries) gate
  pub framed : IsFramed frame (half_of halves place) (spelt_batches WithGeneration (batches_in halves place) ++ (gate ∷ rest)) beside disk.bytes
  pub one : IsOne disk (gate_at frame halves place) 1
  pub entire : length disk.bytes ≤ disk.synced_length
  pub stands : StandsBeside halves place beside

-- While the older half is retired: its first gate is unsynced, and a read gives the value `gate`.
pub record HasClosing (frame : JournalFrame) (halves : Halves) (gate : ℕ) (disk : Disk) : Type 0 where
  pub rest : List ℕ
  pub newer : List ℕ
  pub framed : IsFramed frame halves.at (gate ∷ rest) newer disk.bytes
  pub one : IsOne disk (8 + halves.at * room frame) 1
  pub entire : length disk.bytes ≤ disk.synced_length
  pub stands : HalvesStand halves (0xA5 ∷ rest) newer
