-- The slaves of a world.
use Rattle.std.specs.Prelude.{◌≡◌, ℕ, ◌≤◌, Bool, true, false, List, length, Some, None, slice_get, slice_set}
use Rattle.std.specs.List.{AllByRecursion}
use Rattle.esc_model.specs.SlaveHalf.{SlaveHalf, in_flight}
use Rattle.esc_model.specs.WordAccess.{IsAt, IsIdle, IsWell, TakesWord}
use Rattle.book_model.specs.Opening.{words_in}
use Rattle.world_run.specs.declared.half.WordEnd.{WordEnd}
use Rattle.world_run.specs.Left.{ended_half}

-- The half of each slave, and whether it took the datagram of the last issue.
pub record Sides : Type 0 where
  pub halves : List SlaveHalf
  pub took : List Bool

-- The half has its station address, and it is idle while no word is in flight: nobody reads from it.
pub record StandsAt (slave : ℕ) (half : SlaveHalf) : Type 0 where
  pub here : IsAt slave half
  pub no_read : in_flight half.activity ≡ None → IsIdle half

-- The invariant of a line's slaves.
pub record SidesStand (halves : List SlaveHalf) (took : List Bool) : Type 0 where
  pub count : length took ≡ length halves
  pub some : 1 ≤ length halves
  pub most : length halves ≤ 64
  pub each : (slave : ℕ) (half : SlaveHalf) → slice_get halves slave ≡ Some half → StandsAt slave half

-- Halves that were just powered up, with these words.
pub record IsPoweredUp (contents : List (List ℕ)) (halves : List SlaveHalf) : Type 0 where
  pub words : words_in halves ≡ contents
  pub idle : AllByRecursion IsIdle halves
  pub each : (slave : ℕ) (half : SlaveHalf) → slice_get halves slave ≡ Some half → IsAt slave half

-- This slave is idle.
pub record IsIdleAt (halves : List SlaveHalf) (slave : ℕ) : Type 0 where
  pub half : SlaveHalf
  pub here : slice_get halves slave ≡ Some half
  pub idle : IsIdle half

-- This slave is idle with bits 13 and 14 clear.
pub record IsWellAt (halves : List SlaveHalf) (slave : ℕ) : Type 0 where
  pub half : SlaveHalf
  pub here : slice_get halves slave ≡ Some half
  pub well : IsWell half

-- A word is issued to a half, which takes the datagram if that is chosen and it is idle, and otherwise stays as it is.
pub record HandsTo (slave : ℕ) (takes : Bool) (word value : ℕ) (half : SlaveHalf) (taken : Bool) (later : SlaveHalf) : Type 0 where
  pub chosen : takes ≡ true → IsIdle half → taken ≡ true
  pub only : taken ≡ true → (takes ≡ true) × TakesWord slave word value half later
  pub stays : taken ≡ false → later ≡ half

-- A word is issued to the half of this slave.
pub record HandsWord (slave : ℕ) (takes : Bool) (word value : ℕ) (old new : Sides) : Type 0 where
  pub half : SlaveHalf
  pub here : slice_get old.halves slave ≡ Some half
  pub taken : Bool
  pub later : SlaveHalf
  pub hands : HandsTo slave takes word value half taken later
  pub is : new ≡ record { halves = slice_set old.halves slave later; took = slice_set old.took slave taken }

-- The slave has come to rest, if it was busy, and its word in flight has ended.
pub record ComesToRest (slave : ℕ) (end : WordEnd) (old new : Sides) : Type 0 where
  pub half : SlaveHalf
  pub here : slice_get old.halves slave ≡ Some half
  pub is : new ≡ record { halves = slice_set old.halves slave (ended_half end (in_flight half.activity) half); took = old.took }
