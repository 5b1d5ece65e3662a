-- An action that a book hands out for the disk, as the device call that carries it out.
use Rattle.std.specs.Prelude.{◌≡◌, ◌≤◌, [], ◌∷◌, length, Result, Ok}
use Rattle.site_core.specs.declared.fault.DeviceFault.{DeviceFault}
use Rattle.site_core.specs.State.{Seen}
use Rattle.site_core.specs.Calls.{WritesDisk, SyncsDisk}
use Rattle.book_model.specs.declared.next.DiskNext.{DiskNext}
use Rattle.book_model.specs.declared.next.DiskNext.TheVariants as next
use Rattle.book_model.specs.Events.{gate_byte}

-- What is written begins inside the disk, or right after its last byte.
abbrev pub BeginsInside : DiskNext → Seen → Type 0
BeginsInside (next.Write at bytes) old = at ≤ length old.state.disk.bytes
BeginsInside (next.Gate at closed) old = at ≤ length old.state.disk.bytes
BeginsInside next.Sync old = Unit {0}
BeginsInside next.Idle old = Unit {0}
BeginsInside next.Stop old = Unit {0}

-- No device call is made.
pub record DoesNothing (old : Seen) (result : Result (Unit {0}) DeviceFault) (new : Seen) : Type 0 where
  pub ok : result ≡ Ok tt
  pub same : new ≡ old

-- The one device call of each action.
abbrev pub DoesAction : DiskNext → Seen → Result (Unit {0}) DeviceFault → Seen → Type 0
DoesAction (next.Write at bytes) old result new = WritesDisk old at bytes result new
DoesAction (next.Gate at closed) old result new = WritesDisk old at (gate_byte closed ∷ []) result new
DoesAction next.Sync old result new = SyncsDisk old result new
DoesAction next.Idle old result new = DoesNothing old result new
DoesAction next.Stop old result new = DoesNothing old result new
