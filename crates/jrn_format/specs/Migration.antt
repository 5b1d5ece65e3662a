-- Empty journals: those in which nothing is live. A migration leads from version 1 to version 2 through empty journals.
use Rattle.std.specs.Prelude.{◌≡◌, ℕ, ◌^◌, ◌<◌, List, [], ◌++◌, length}
use Rattle.jrn_format.specs.declared.journal.Form.{Form}
use Rattle.jrn_format.specs.Area.{IsClosed}
use Rattle.jrn_format.specs.Header.{header_bytes, IsCapacity, IsMarked}
use Rattle.jrn_format.specs.Journal.{AreHalves, IsJournal}

-- The file is a journal of this form in which nothing is live, of a line whose slaves have `sizes` words each.
abbrev pub IsEmptyJournal : (file sizes : List ℕ) (form : Form) → Type 0
IsEmptyJournal file sizes form = IsJournal file sizes (record { form = form; batches = [] })

-- A file with this version byte in a header of the line, a complete area with a closed first gate, and `rest` after the area.
pub record IsClosedFile (version : ℕ) (sizes area rest file : List ℕ) : Type 0 where
  pub slaves_fit : length sizes < 2 ^ 16
  pub is_capacity : IsCapacity (length area)
  pub is : file ≡ header_bytes version (length sizes) (length area) ++ (area ++ rest)
  pub first_gate : IsClosed area

-- The area as a migration leaves it before it writes the version byte: the first gate of half 1 is closed, and the mark is written.
pub record IsReady (area rest : List ℕ) : Type 0 where
  pub first : List ℕ
  pub second : List ℕ
  pub halves : AreHalves area first second
  pub far_gate : IsClosed second
  pub mark : IsMarked (area ++ rest)
