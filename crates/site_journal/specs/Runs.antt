-- Device calls in a row on the disk.
use Rattle.std.specs.Prelude.{◌≡◌, ◌≢◌, ◌↔◌, ℕ, ◌+◌, ◌≤◌, Result, Err, IsErrOf, IsTrue}
use Rattle.site_core.specs.declared.fault.DeviceFault.{DeviceFault}
use Rattle.site_core.specs.declared.fault.DeviceFault.TheVariants as faults
use Rattle.site_core.specs.State.{Pair, Seen, clock}
use Rattle.site_core.specs.Times.{Follows}
use Rattle.site_core.specs.Calls.{faults_of}
use Rattle.site_core.specs.Passes.{StaysWithin}

-- At most `most` device calls were made, and only the last may have failed. At each moment a stop could have left only pairs with the
-- property Q. No process data was exchanged.
pub record MakesCalls {T : Type 0} (Q : Pair → Type 0) (old : Seen) (most : ℕ) (result : Result T DeviceFault) (new : Seen) : Type 0 where
  pub stays : StaysWithin Q old new
  pub follows : Follows old new
  pub within : clock new ≤ clock old + most
  pub counted : new.faults ≡ old.faults + faults_of result
  pub stopped : IsTrue new.is_stopped ↔ IsErrOf result faults.Stopped
  pub not_lost : result ≢ Err faults.Lost
  pub turns : new.turns ≡ old.turns
