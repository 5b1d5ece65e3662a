-- A whole file of version 2: header, half 0, half 1, and the bytes after them.
use Rattle.std.specs.Prelude.{◌≡◌, ℕ, zero, suc, ◌/◌, ◌+◌, ◌^◌, ◌<◌, ◌≤◌, List, ◌++◌, length}
use Rattle.jrn_format.specs.declared.journal.Batch.{Batch}
use Rattle.jrn_format.specs.Header.{header_bytes, IsCapacity}
use Rattle.jrn_format.specs.Journal.{AreLive}
use Rattle.jrn_format.specs.Halves.{Halves, HalvesStand}

-- Two halves in their order in the file. The number, 0 or 1, is that of `one`.
abbrev pub joined : ℕ → List ℕ → List ℕ → List ℕ
joined zero one two = one ++ two
joined (suc n) one two = two ++ one

-- The bytes before the half with this number, where `two` is the other half.
abbrev pub before : ℕ → (head two : List ℕ) → List ℕ
before zero head two = head
before (suc n) head two = head ++ two

-- A file with this header and these halves. `last` is the last byte of an area of odd length, and the bytes after the area.
pub record IsFile (head : List ℕ) (at : ℕ) (one two last bytes : List ℕ) : Type 0 where
  pub equal : length one ≡ length two
  pub is : bytes ≡ head ++ (joined at one two ++ last)

-- The batches are live in a file with this header.
pub record IsLiveFile (head bytes : List ℕ) (batches : List Batch) : Type 0 where
  pub area : List ℕ
  pub last : List ℕ
  pub is : bytes ≡ head ++ (area ++ last)
  pub live : AreLive area batches

-- The batches of the halves are live in a file with this header.
pub record StandInFile (halves : Halves) (head bytes : List ℕ) : Type 0 where
  pub older : List ℕ
  pub newer : List ℕ
  pub last : List ℕ
  pub file : IsFile head halves.at older newer last bytes
  pub stands : HalvesStand halves older newer

-- The same, with the header of a line of `slaves` slaves and a complete area of `capacity` bytes.
pub record StandComplete (slaves capacity : ℕ) (halves : Halves) (bytes : List ℕ) : Type 0 where
  pub slaves_fit : slaves < 2 ^ 16
  pub is_capacity : IsCapacity capacity
  pub inside : StandInFile halves (header_bytes 2 slaves capacity) bytes
  pub half : length inside.older ≡ capacity / 2
  pub entire : capacity ≤ length inside.older + length inside.newer + length inside.last
