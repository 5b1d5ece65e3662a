-- A disk is formatted as an empty journal of version 2: a header, and an area of zeros whose halves both begin with a closed gate.
use Rattle.std.specs.Prelude.{◌≡◌, ◌⊎◌, ℕ, ◌+◌, ◌≤◌, List, ◌∷◌, ◌++◌, length, drop, replicate, Result, OnOk}
use Rattle.std.specs.Int.{div_ceil}
use Rattle.std.specs.List.{AllByRecursion}
use Rattle.site_core.specs.declared.fault.DeviceFault.{DeviceFault}
use Rattle.site_core.specs.Disk.{Disk, StopImage, IsOutside, IsSynced, overlaid, write_begun, written}
use Rattle.site_core.specs.State.{State, Pair, Moment, Seen, Leaves, EachMayLeave}
use Rattle.site_core.specs.Calls.{begin_write}
use Rattle.jrn_format.specs.Area.{IsClosed}
use Rattle.jrn_format.specs.Header.{header_bytes}
use Rattle.jrn_format.specs.Journal.{AreHalves}
use Rattle.world_law.specs.Happenings.{with_synced}
use Rattle.site_journal.specs.Runs.{MakesCalls}

-- The bytes of a formatted disk: a header for `slaves` slaves, an area of `capacity` zeros, and what the disk held after them.
abbrev pub formatted : (slaves capacity : ℕ) → List ℕ → List ℕ
formatted slaves capacity bytes = header_bytes 2 slaves capacity ++ (replicate capacity 0 ++ drop (8 + capacity) bytes)

-- Both halves of the area begin with a closed gate.
pub record HasClosedHalves (area : List ℕ) : Type 0 where
  pub first : List ℕ
  pub second : List ℕ
  pub halves : AreHalves area first second
  pub first_gate : IsClosed first
  pub second_gate : IsClosed second

-- What is written after the file gate.
abbrev pub after_gate : (slaves capacity : ℕ) → List ℕ
after_gate slaves capacity = drop 1 (header_bytes 2 slaves capacity) ++ replicate capacity 0

-- The number of pieces in which the area is written.
abbrev pub pieces : ℕ → ℕ
pieces capacity = div_ceil capacity 4096

-- ---- writes in a row

-- These bytes were written from this place on, and only their range may be unsynced that was synced before.
pub record LiesOver (old : Disk) (at : ℕ) (over : List ℕ) (new : Disk) : Type 0 where
  pub bytes : new.bytes ≡ overlaid old.bytes at over
  pub synced : (place : ℕ) → IsOutside place (record { start = at; count = length over }) → IsSynced old place → IsSynced new place
  pub synced_length : new.synced_length ≡ old.synced_length

-- The bytes were written, in at most `most` device calls. At each moment a stop could have left only what it may leave when one write
-- of all of them has begun.
pub record LaysDown (old : Seen) (at : ℕ) (bytes : List ℕ) (most : ℕ) (result : Result (Unit {0}) DeviceFault) (new : Seen) : Type 0 where
  pub runs : MakesCalls (Leaves (begin_write old.state at (length bytes))) old most result new
  pub lies : OnOk result (LiesOver old.state.disk at bytes new.state.disk)
  pub halves : OnOk result (new.state.halves ≡ old.state.halves)

-- The bytes were written and synced.
pub record PutsDown (old : Seen) (at : ℕ) (bytes : List ℕ) (most : ℕ) (result : Result (Unit {0}) DeviceFault) (new : Seen) : Type 0 where
  pub runs : MakesCalls (Leaves (begin_write old.state at (length bytes))) old most result new
  pub put : OnOk result (new.state ≡ with_synced (record old.state { disk = written old.state.disk at bytes }))

-- ---- the whole

-- What a stop may leave on the disk on the way: what it could leave before, except for the first byte; a file with a closed gate; or the
-- new journal, except for its gate.
abbrev pub IsOnTheWay : (slaves capacity : ℕ) → Disk → List ℕ → Type 0
IsOnTheWay slaves capacity old image =
    StopImage (write_begun old 0 1) image
    ⊎ (IsClosed image
    ⊎ ((gate : ℕ) × (image ≡ gate ∷ drop 1 (formatted slaves capacity old.bytes))))

-- The same of disk and slaves: of the slaves, what a stop could leave before.
abbrev pub IsPairOnTheWay : (slaves capacity : ℕ) → State → Pair → Type 0
IsPairOnTheWay slaves capacity old pair = IsOnTheWay slaves capacity old.disk pair.disk × EachMayLeave old.halves pair.words

-- If it succeeds, the disk holds the journal, and a stop leaves no other bytes. The slaves don't change.
pub record Formats (slaves capacity : ℕ) (old : Seen) (result : Result (Unit {0}) DeviceFault) (new : Seen) : Type 0 where
  pub runs : MakesCalls (IsPairOnTheWay slaves capacity old.state) old (6 + pieces capacity) result new
  pub bytes : OnOk result (new.state.disk.bytes ≡ formatted slaves capacity old.state.disk.bytes)
  pub only : OnOk result ((image : List ℕ) → StopImage new.state.disk image → image ≡ formatted slaves capacity old.state.disk.bytes)
  pub halves : OnOk result (new.state.halves ≡ old.state.halves)

-- ---- in pieces

-- A write of at most 4,096 bytes has begun.
pub record BeginsPiece (before state : State) : Type 0 where
  pub at : ℕ
  pub count : ℕ
  pub few : count ≤ 4096
  pub begun : state ≡ begin_write before at count

-- A device call that writes at most that much, or nothing.
abbrev pub IsPiece : Moment → Type 0
IsPiece moment = AllByRecursion (BeginsPiece moment.before) moment.middle

-- Each device call in between wrote at most 4,096 bytes.
pub record WritesPieces (old new : Seen) : Type 0 where
  pub calls : List Moment
  pub past : new.past ≡ old.past ++ calls
  pub pieces : AllByRecursion IsPiece calls
