-- One datagram in one frame, sent through the process halves of all slaves.
use Rattle.std.specs.Prelude.{◌≡◌, ◌≢◌, ℕ, ◌+◌, ◌<◌, ◌==◌, List, [], ◌∷◌, ◌++◌, length, Result, Ok, Err, IsTrue, if◌then◌else◌}
use Rattle.ecat_frame.specs.Frame.{Pdu}
use Rattle.site_core.specs.declared.fault.DeviceFault.{DeviceFault}
use Rattle.site_core.specs.declared.fault.DeviceFault.TheVariants as device
use Rattle.site_core.specs.State.{Moment, Seen}
use Rattle.site_core.specs.Exchange.{AreReplies}
use Rattle.site_core.specs.Times.{Follows}
use Rattle.site_core.specs.Passes.{AddsNothing}
use Rattle.cyclic.specs.declared.fault.CycleFault.{CycleFault}
use Rattle.cyclic.specs.declared.fault.CycleFault.TheVariants as cycle

-- `Ok` if the working counter that came back is the expected one, otherwise `WrongCounter`
abbrev pub compared : (expected seen : ℕ) → Result (Unit {0}) CycleFault
compared expected seen = if seen == expected then Ok tt else Err (cycle.WrongCounter seen expected)

-- The outcome of a frame of one datagram decides the result of the call.
abbrev pub Gives : (expected : ℕ) → Result (List Pdu) DeviceFault → Result (Unit {0}) CycleFault → Type 0
Gives expected (Ok (reply ∷ [])) result = result ≡ compared expected reply.counter
Gives expected (Err device.Lost) result = result ≡ Err cycle.Lost
Gives expected (Err device.Stopped) result = result ≡ Err cycle.Stopped
Gives expected answer result = ⊥

-- the lost frames among the calls that end with this result: the last one, or none
abbrev pub lost_by : CycleFault → ℕ
lost_by cycle.Lost = 1
lost_by cycle.Stopped = 0
lost_by (cycle.WrongCounter seen expected) = 0

abbrev pub lost_of : {T : Type 0} → Result T CycleFault → ℕ
lost_of (Ok value) = 0
lost_of (Err fault) = lost_by fault

-- `count` device calls that add nothing to what a power cut may leave of the disk and of the EEPROMs, and change neither, unless the site
-- stopped in the last of them. Each succeeded but the last one, which may have lost its frame or stopped.
pub record LeavesAll {T : Type 0} (count : ℕ) (old : Seen) (result : Result T CycleFault) (new : Seen) : Type 0 where
  pub calls : List Moment
  pub past : new.past ≡ old.past ++ calls
  pub clock : length calls ≡ count
  pub adds_nothing : AddsNothing old new
  pub same : result ≢ Err cycle.Stopped → new.state ≡ old.state
  pub stopped : result ≡ Err cycle.Stopped → IsTrue new.is_stopped
  -- the number of faults rose by one if a frame was lost, and not otherwise
  pub counted : new.faults ≡ old.faults + lost_of result
  pub follows : Follows old new
  pub going : 0 < count → IsTrue new.is_stopped → result ≡ Err cycle.Stopped
  pub nothing : count ≡ 0 → new ≡ old

-- A frame of one datagram is sent, and its working counter is compared with the expected one.
pub record Exchanges
    (expected : ℕ) (sent : List Pdu) (old : Seen) (result : Result (Unit {0}) CycleFault) (back : List Pdu) (new : Seen) : Type 0 where
  pub answer : Result (List Pdu) DeviceFault
  pub turn : new.turns ≡ old.turns ++ record { sent = sent; answer = answer } ∷ []
  pub gives : Gives expected answer result
  pub brings : result ≡ Ok tt → (answer ≡ Ok back) × AreReplies sent back
  pub leaves : LeavesAll 1 old result new
