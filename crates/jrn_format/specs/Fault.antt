-- Why a file is not a journal of a line: the first fault in reading order. First the header; then the area in version 1, or half 0,
-- half 1 and the generations in version 2.
use Rattle.std.specs.Prelude.{◌≡◌, ℕ, ◌+◌, List, length}
use Rattle.std.specs.List.{AllByRecursion}
use Rattle.jrn_format.specs.declared.journal.Batch.{Batch}
use Rattle.jrn_format.specs.declared.journal.Form.TheVariants.{One, Two}
use Rattle.jrn_format.specs.declared.journal.Spelling.TheVariants.{Plain, WithGeneration}
use Rattle.jrn_format.specs.declared.fault.JournalFault.{JournalFault}
use Rattle.jrn_format.specs.declared.fault.JournalFault.TheVariants.{BadJournal}
use Rattle.jrn_format.specs.Memory.{UnlessMemory}
use Rattle.jrn_format.specs.Batch.{IsWithin}
use Rattle.jrn_format.specs.Area.{IsLive, IsUnreadableArea}
use Rattle.jrn_format.specs.Header.{HasArea, HasNoArea}
use Rattle.jrn_format.specs.Journal.{AreHalves, IsInOrder}

-- The first fault of an area of version 2. Its first half begins at file offset 8.
pub data AreCut (sizes area : List ℕ) (fault : JournalFault) : Type 0 where
  cut_first : (first second : List ℕ) → AreHalves area first second
      → IsUnreadableArea WithGeneration 0 sizes (8 + length first) first fault → AreCut sizes area fault
  cut_second : (first second : List ℕ) (firsts : List Batch) → AreHalves area first second
      → IsLive WithGeneration 0 first firsts → AllByRecursion (IsWithin sizes) firsts
      → IsUnreadableArea WithGeneration 1 sizes (8 + length first + length second) second fault → AreCut sizes area fault
  disordered : (first second : List ℕ) (firsts seconds : List Batch) → AreHalves area first second
      → IsLive WithGeneration 0 first firsts → AllByRecursion (IsWithin sizes) firsts
      → IsLive WithGeneration 1 second seconds → AllByRecursion (IsWithin sizes) seconds
      → ((batches : List Batch) → IsInOrder firsts seconds batches → ⊥) → fault ≡ BadJournal 8 → AreCut sizes area fault

-- The file is not a journal of a line whose slaves have `sizes` words, and this is the fault.
pub data IsNoJournal (file sizes : List ℕ) (fault : JournalFault) : Type 0 where
  no_area : HasNoArea file (length sizes) fault → IsNoJournal file sizes fault
  plain_cut : (area : List ℕ) → HasArea file (length sizes) One area → IsUnreadableArea Plain 0 sizes (8 + length area) area fault
      → IsNoJournal file sizes fault
  halved_cut : (area : List ℕ) → HasArea file (length sizes) Two area → AreCut sizes area fault → IsNoJournal file sizes fault

-- The fault that a reader reports: why the file is not a journal, or that memory was refused.
abbrev pub IsFaultOf : List ℕ → List ℕ → JournalFault → Type 0
IsFaultOf file sizes fault = UnlessMemory fault (IsNoJournal file sizes fault)
