-- What the disk may hold at each step of the book, with a journal of version 2.
use Rattle.std.specs.Prelude.{◌≡◌, ◌≢◌, ◌⊎◌, ℕ, ◌+◌, ◌≤◌, Bool, true, false, List, [], length, take, drop, is_some}
use Rattle.std.specs.List.{AllByRecursion}
use Rattle.jrn_format.specs.declared.journal.Entry.{Entry}
use Rattle.jrn_format.specs.declared.journal.Spelling.TheVariants.{WithGeneration}
use Rattle.jrn_format.specs.Batch.{CanStand, LieWithin}
use Rattle.jrn_format.specs.Halves.{Halves, Place, InOlder, half_of, batch_in}
use Rattle.book_model.specs.Cells.{Cell}
use Rattle.site_core.specs.Disk.{Disk}
use Rattle.book_model.specs.Entries.{live_runs, sizes_of}
use Rattle.book_model.specs.Book.{Book, Doing, Resting, Payload, PayloadSync, OpenGate, OpenSync, CloseGate, CloseSync, own, all_cells}
use Rattle.book_model.specs.DiskSteps.{payload_bytes}
use Rattle.book_model.specs.Plants.{AllSettled}
use Rattle.book_model.specs.Frame.{JournalFrame}
use Rattle.book_model.specs.Phases.{AtRest, HasPayload, HasBatch, HasGate, HasClosing}

-- The entries are the next ones that aren't durable, and a batch of them can be encoded at this place.
pub record Appends (sizes : List ℕ) (own : List Entry) (durable : ℕ) (halves : Halves) (place : Place) (entries : List Entry) : Type 0 where
  pub next : take (length entries) (drop durable own) ≡ entries
  pub few : durable + length entries ≤ length own
  pub in_older : place ≡ InOlder → halves.newer ≡ []
  pub can : CanStand WithGeneration (half_of halves place) (batch_in halves place entries)
  pub within : AllByRecursion (LieWithin sizes) entries

-- This holds of a book's append.
abbrev pub Appending : Book → Place → List Entry → Type 0
Appending book place entries = Appends (sizes_of book.words) (own book) book.durable book.halves place entries

-- The older half can be retired: it has batches, and all that is owed is named by the newer half.
pub record Retires (words : List (List ℕ)) (halves : Halves) (cells : List (List Cell)) : Type 0 where
  pub settled : AllSettled words (live_runs halves.newer) cells
  pub some : halves.older ≢ []

-- This holds of a book's retire.
abbrev pub Retiring : Book → Type 0
Retiring book = Retires book.words book.halves (all_cells book.slaves)

-- The write of a batch has begun: its range is unsynced, and a read gives the bytes `payload` there.
abbrev pub IsPayload : JournalFrame → Book → Place → List Entry → Disk → List ℕ → Type 0
IsPayload frame book place entries disk payload =
    (length payload ≡ length (payload_bytes book place entries)) × HasPayload frame book.halves place payload disk

-- The step that opens the gate, begun or not. `out`: the step is handed out. `failed`: the book has a fault.
abbrev pub OpensGate : JournalFrame → Book → Place → List Entry → (out failed : Bool) → Disk → Type 0
OpensGate frame book place entries true failed disk = (gate : ℕ) × HasGate frame book.halves place entries gate disk
OpensGate frame book place entries false false disk = HasBatch frame book.halves place entries disk
OpensGate frame book place entries false true disk =
    HasBatch frame book.halves place entries disk ⊎ ((gate : ℕ) × HasGate frame book.halves place entries gate disk)

-- The first write of an append or a retire is handed out, or has failed: the book enters that step only as it hands it out.
abbrev pub IsBegun : (out failed : Bool) → Type 0
IsBegun true failed = Unit {0}
IsBegun false true = Unit {0}
IsBegun false false = ⊥

-- What the disk may hold at a step.
abbrev pub DoingFits : JournalFrame → Book → Doing → (out failed : Bool) → Disk → Type 0
DoingFits frame book Resting out failed disk = AtRest frame book.halves disk
DoingFits frame book (Payload place entries) out failed disk =
    IsBegun out failed × Appending book place entries × ((payload : List ℕ) × IsPayload frame book place entries disk payload)
DoingFits frame book (PayloadSync place entries) out failed disk =
    Appending book place entries × HasPayload frame book.halves place (payload_bytes book place entries) disk
DoingFits frame book (OpenGate place entries) out failed disk = Appending book place entries × OpensGate frame book place entries out failed disk
DoingFits frame book (OpenSync place entries) out failed disk = Appending book place entries × HasGate frame book.halves place entries 0xA5 disk
DoingFits frame book CloseGate out failed disk = IsBegun out failed × Retiring book × ((gate : ℕ) × HasClosing frame book.halves gate disk)
DoingFits frame book CloseSync out failed disk = Retiring book × HasClosing frame book.halves 0 disk
DoingFits frame book migrating out failed disk = ⊥

-- What the disk may hold now.
abbrev pub DiskFits : JournalFrame → Book → Disk → Type 0
DiskFits frame book disk = DoingFits frame book book.doing book.is_handed_out (is_some book.fault) disk
