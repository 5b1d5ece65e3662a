-- Sequences of device calls that access the EEPROM of one slave.
use Rattle.std.specs.Prelude.{◌≡◌, ◌⊎◌, ℕ, ◌+◌, ◌<◌, ◌≤◌, Bool, true, false, Option, Some, None, Result, Ok, Err, IsTrue}
use Rattle.ecat_frame.specs.Frame.{Pdu}
use Rattle.esc_model.specs.SlaveHalf.{SlaveHalf, MayRest}
use Rattle.esc_model.specs.Datagrams.{Receives, CountsDatagram}
use Rattle.esc_model.specs.WordAccess.{IsAt, IsIdle, HasError, IsWell}
use Rattle.site_core.specs.State.{Seen, HalfGoes, clock}
use Rattle.site_core.specs.Times.{FailsAt, Follows}
use Rattle.site_core.specs.Passes.{AddsNothing}
use Rattle.rom_steps.specs.declared.step.Stop.{Stop}
use Rattle.rom_steps.specs.declared.back.Rested.{Rested}
use Rattle.rom_steps.specs.declared.back.Rested.TheVariants.{Well, Failed}
use Rattle.esc_rom.specs.Past.{Refuses, AreLost, AreUncounted, MissesIdle, WaitsInVain}

-- At most `most` calls, at no point of which a power cut could leave what it couldn't have left before them.
pub record Quiet (old : Seen) (most : ℕ) (new : Seen) : Type 0 where
  pub adds : AddsNothing old new
  pub follows : Follows old new
  pub within : clock new ≤ clock old + most
  pub never_fewer : old.faults ≤ new.faults
  pub turns : new.turns ≡ old.turns

-- At least one call, and quiet ones. The site has not stopped, and `R` relates this slave's half before and after.
pub record Ran (R : SlaveHalf → SlaveHalf → Type 0) (old : Seen) (slave most : ℕ) (new : Seen) : Type 0 where
  pub quiet : Quiet old most new
  pub some : clock old < clock new
  pub going : ¬ IsTrue new.is_stopped
  pub half : HalfGoes R old.state slave new.state

-- Quiet calls, in which the site stopped.
pub record StopsQuietly (old : Seen) (most : ℕ) (new : Seen) : Type 0 where
  pub quiet : Quiet old most new
  pub stopped : IsTrue new.is_stopped

-- The outcome of a sequence of calls: a value, by which `R` relates the half before and after, or the site has stopped.
abbrev pub Performs : {T : Type 0} → (T → SlaveHalf → SlaveHalf → Type 0) → Seen → (slave most : ℕ) → Result T Stop
    → Seen → Type 0
Performs R old slave most (Ok value) new = Ran (R value) old slave most new
Performs R old slave most (Err stop) new = StopsQuietly old most new

-- POLLS

-- The half has the slave's station address and is idle, without an error (`Well`) or with bit 13 or 14 set (`Failed`).
abbrev pub IsSeen : (slave : ℕ) → Rested → SlaveHalf → Type 0
IsSeen slave Well half = IsAt slave half × IsWell half
IsSeen slave Failed half = IsAt slave half × IsIdle half × HasError half

-- One poll: the half may become idle, and the poll sees it idle, or doesn't.
abbrev pub Polled : Seen → (slave : ℕ) → Seen → Option Rested → SlaveHalf → SlaveHalf → Type 0
Polled old slave new None half later = MayRest half later × (clock new ≡ clock old + 1) × MissesIdle new slave (clock old)
Polled old slave new (Some rested) half later = MayRest half later × IsSeen slave rested later

-- The same for polls until one sees the half idle, at most 10,000.
abbrev pub Waited : Seen → (slave : ℕ) → Seen → Option Rested → SlaveHalf → SlaveHalf → Type 0
Waited old slave new None half later = MayRest half later × WaitsInVain old slave new
Waited old slave new (Some rested) half later = MayRest half later × IsSeen slave rested later

-- WRITES TO A REGISTER

-- The one call lost its frame, and the half took the datagram or not.
abbrev pub WasLost : Pdu → Seen → Seen → SlaveHalf → SlaveHalf → Type 0
WasLost order old new half later = (clock new ≡ clock old + 1) × FailsAt new (clock old) × ((later ≡ half) ⊎ Receives order half later)

-- The datagram was sent once: the half added 1 to its working counter, or 0, or the frame was lost.
abbrev pub Wrote : (order : Pdu) → Seen → Seen → Bool → SlaveHalf → SlaveHalf → Type 0
Wrote order old new true half later = CountsDatagram order half later
Wrote order old new false half later = WasLost order old new half later ⊎ Refuses order half later

-- The half took the datagram any number of times.
pub data Tries (order : Pdu) (half : SlaveHalf) : SlaveHalf → Type 0 where
  never : Tries order half half
  again : {mid later : SlaveHalf} → Tries order half mid → Receives order mid later → Tries order half later

-- The half took the datagram any number of times, and then once added 0 to its working counter.
pub record OnceRefused (order : Pdu) (half : SlaveHalf) : Type 0 where
  pub mid : SlaveHalf
  pub later : SlaveHalf
  pub tried : Tries order half mid
  pub refuses : Refuses order mid later

-- The datagram was sent until the half added 1 to its working counter. Or it was given up, once it was sent three times and never
-- counted: all three frames were lost, or the half once added 0.
abbrev pub Insists : (order : Pdu) → Seen → (slave : ℕ) → Seen → Bool → SlaveHalf → SlaveHalf → Type 0
Insists order old slave new true half later = (mid : SlaveHalf) × Tries order half mid × CountsDatagram order mid later
Insists order old slave new false half later =
    Tries order half later × (clock new ≡ clock old + 3) × AreUncounted order new slave (clock old) 3
    × (AreLost new (clock old) 3 ⊎ OnceRefused order half)
