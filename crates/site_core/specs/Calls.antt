-- What each device call does to a site. Each one, also one that fails, is added to the past.
use Rattle.std.specs.Prelude.{◌≡◌, ◌≢◌, ℕ, ◌+◌, ◌↔◌, ◌++◌, List, [], ◌∷◌, length, map, slice_range, slice_get, Some, Result, Ok, Err, IsErrOf, IfOk, OnOk, OnErr, IsTrue}
use Rattle.ecat_frame.specs.Frame.{Pdu}
use Rattle.esc_model.specs.SlaveHalf.{SlaveHalf}
use Rattle.site_core.specs.declared.fault.DeviceFault.{DeviceFault}
use Rattle.site_core.specs.declared.fault.DeviceFault.TheVariants as faults
use Rattle.site_core.specs.Disk.{write_begun, written, synced, WriteFailed}
use Rattle.site_core.specs.State.{State, Seen, Stopped, with_half, last_of}
use Rattle.site_core.specs.Exchange.{GoesThrough, AreReplies}

-- `Disk` and `Lost` count as one fault each, `Stopped` as none.
abbrev pub faults_of : {T : Type 0} → Result T DeviceFault → ℕ
faults_of (Ok value) = 0
faults_of (Err faults.Disk) = 1
faults_of (Err faults.Lost) = 1
faults_of (Err faults.Stopped) = 0

-- One device call with these states in its middle. The past keeps it, with the number of faults before it. If the site stops in the
-- call, it does so after the last of these states. From then on nothing changes.
pub record Calls {T : Type 0} (old : Seen) (middle : List State) (result : Result T DeviceFault) (new : Seen) : Type 0 where
  pub past : new.past ≡ old.past ++ record { before = old.state; faults = old.faults; middle = middle } ∷ []
  pub counted : new.faults ≡ old.faults + faults_of result
  pub stopped : IsTrue new.is_stopped ↔ IsErrOf result faults.Stopped
  pub at_stop : IsErrOf result faults.Stopped → Stopped (last_of old.state middle) new.state
  pub stays_stopped : IsTrue old.is_stopped → IsErrOf result faults.Stopped × (middle ≡ []) × (new.state ≡ old.state)

-- a call that changes nothing, unless the site stops in it
pub record Reads {T : Type 0} (old : Seen) (result : Result T DeviceFault) (new : Seen) : Type 0 where
  pub call : Calls old [] result new
  pub same : result ≢ Err faults.Stopped → new.state ≡ old.state
  pub turns : new.turns ≡ old.turns

-- Gives the length of the disk, in bytes.
pub record GivesLength (old : Seen) (result : Result ℕ DeviceFault) (new : Seen) : Type 0 where
  pub reads : Reads old result new
  pub length : IfOk result (λ len. len ≡ length old.state.disk.bytes)
  pub not_lost : result ≢ Err faults.Lost

-- Gives `count` bytes of the disk from `at` on.
pub record ReadsDisk (old : Seen) (at count : ℕ) (result : Result (Unit {0}) DeviceFault) (bytes : List ℕ) (new : Seen) : Type 0 where
  pub reads : Reads old result new
  pub bytes_read : OnOk result (bytes ≡ slice_range old.state.disk.bytes at (at + count))
  pub not_lost : result ≢ Err faults.Lost

-- A write of `count` bytes to the disk begins.
abbrev pub begin_write : State → ℕ → ℕ → State
begin_write state at count = record state { disk = write_begun state.disk at count }

-- A write. In its middle it has begun, and its range is unsynced. From there it is done, or fails.
pub record WritesDisk (old : Seen) (at : ℕ) (bytes : List ℕ) (result : Result (Unit {0}) DeviceFault) (new : Seen) : Type 0 where
  pub middle : List State
  pub call : Calls old middle result new
  pub begun : ¬ IsTrue old.is_stopped → middle ≡ begin_write old.state at (length bytes) ∷ []
  pub ok : OnOk result (new.state ≡ record old.state { disk = written (write_begun old.state.disk at (length bytes)) at bytes })
  pub failed : IsErrOf result faults.Disk
      → WriteFailed (write_begun old.state.disk at (length bytes)) at (length bytes) new.state.disk × (new.state.halves ≡ old.state.halves)
  pub not_lost : result ≢ Err faults.Lost
  pub turns : new.turns ≡ old.turns

-- A sync. If it succeeds, no range is unsynced any more: a power cut leaves what a read gives. If it fails, nothing changes.
pub record SyncsDisk (old : Seen) (result : Result (Unit {0}) DeviceFault) (new : Seen) : Type 0 where
  pub call : Calls old [] result new
  pub ok : OnOk result (new.state ≡ record old.state { disk = synced old.state.disk })
  pub failed : IsErrOf result faults.Disk → new.state ≡ old.state
  pub not_lost : result ≢ Err faults.Lost
  pub turns : new.turns ≡ old.turns

-- A frame for the EEPROM half of one slave. Nothing else changes. If the frame is lost, or the site stops, the half took the first
-- datagrams of it (none, some or all), and the caller's frame is as it was sent.
pub record ExchangesFrame
    (old : Seen) (slave : ℕ) (sent : List Pdu) (result : Result (Unit {0}) DeviceFault) (answer : List Pdu) (new : Seen) : Type 0 where
  pub half : SlaveHalf
  pub here : slice_get old.state.halves slave ≡ Some half
  -- the datagrams that the half took, and those that didn't reach it
  pub passed : List Pdu
  pub left : List Pdu
  pub split : sent ≡ passed ++ left
  -- the half after each of them, and what comes back
  pub laters : List SlaveHalf
  pub replies : List Pdu
  pub through : GoesThrough half passed laters replies
  pub call : Calls old (map (with_half old.state slave) laters) result new
  pub ok : OnOk result ((left ≡ []) × (answer ≡ replies))
  pub failed : OnErr result (answer ≡ sent)
  pub kept : result ≢ Err faults.Stopped → new.state ≡ last_of old.state (map (with_half old.state slave) laters)
  pub no_disk : result ≢ Err faults.Disk
  pub turns : new.turns ≡ old.turns

-- the result of a call, with the frame that came back if it succeeded
abbrev pub reported : {A : Type 0} → Result (Unit {0}) DeviceFault → A → Result A DeviceFault
reported (Ok done) answer = Ok answer
reported (Err fault) answer = Err fault

-- A frame for the process halves of all slaves. Neither the disk nor an EEPROM changes, unless the site stops.
pub record CyclesFrame (old : Seen) (sent : List Pdu) (result : Result (Unit {0}) DeviceFault) (answer : List Pdu) (new : Seen) : Type 0 where
  pub call : Calls old [] result new
  pub same : result ≢ Err faults.Stopped → new.state ≡ old.state
  pub ok : OnOk result (AreReplies sent answer)
  pub failed : OnErr result (answer ≡ sent)
  pub no_disk : result ≢ Err faults.Disk
  pub turns : new.turns ≡ old.turns ++ record { sent = sent; answer = reported result answer } ∷ []
