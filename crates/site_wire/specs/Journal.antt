-- What the journal's file of a device on a wire is asked in a step of the site before it.
use Rattle.std.specs.Prelude.{◌≡◌, ℕ, ◌≤◌, false, List, length, Result}
use Rattle.site_core.specs.declared.fault.DeviceFault.{DeviceFault}
use Rattle.site_core.specs.State.{Seen}
use Rattle.site_core.specs.Calls.{WritesDisk, SyncsDisk}
use Rattle.site_shadow.specs.declared.device.Passing.{Passing}
use Rattle.site_shadow.specs.Following.{GoesOn, IsReported}
use Rattle.site_file.specs.declared.files.FileDevice.{FileDevice}
use Rattle.site_file.specs.declared.asking.Call.TheVariants.{Writes as writes, Syncs as syncs}
use Rattle.site_file.specs.Device.{CallsJournal}
use Rattle.site_file.specs.Following.{ChangesNoFile}

-- One step: what the site does, and what its journal is asked in it.
pub data JournalStep {F : Type 0} (old : Seen) (before : FileDevice F) (new : Seen) (after : FileDevice F) : Type 0 where
  -- a call that changes nothing, a write whose range is unsynced and that wasn't begun for want of memory, or a stop
  goes_on : GoesOn old new → ChangesNoFile before after → JournalStep old before new after
  -- a write; where the journal passes it, the site has done it
  write : (at : ℕ) (bytes : List ℕ) (passing : Passing) (given : Result (Unit {0}) DeviceFault) → old.is_stopped ≡ false
      → at ≤ length old.state.disk.bytes → WritesDisk old at bytes given new → IsReported old.faults passing given
      → CallsJournal (writes at bytes) before passing after → JournalStep old before new after
  -- a sync; where the journal passes it, the site has done it
  sync : (passing : Passing) (given : Result (Unit {0}) DeviceFault) → old.is_stopped ≡ false
      → SyncsDisk old given new → IsReported old.faults passing given
      → CallsJournal syncs before passing after → JournalStep old before new after
