-- What each call of word access does: what a power cut may leave (pairs), and what becomes of the slave's EEPROM half (states).
use Rattle.std.specs.Prelude.{◌≡◌, ◌⊎◌, ◌↔◌, ℕ, ◌+◌, ◌*◌, ◌/◌, ◌≤◌, List, Bool, true, false, Some, Result, Ok, Err, IfErr, IsTrue, slice_get, slice_set}
use Rattle.esc_model.specs.SlaveHalf.{SlaveHalf, MayRest}
use Rattle.esc_model.specs.Registers.{access_byte}
use Rattle.esc_model.specs.WordAccess.{IsAt, IsIdle, IsWell, OnlyRests, IsWritingOrInError, TakesWord, IsWritten}
use Rattle.site_core.specs.declared.fault.DeviceFault.{DeviceFault}
use Rattle.site_core.specs.declared.fault.DeviceFault.TheVariants as device
use Rattle.site_core.specs.declared.answers.Issued.{Issued}
use Rattle.site_core.specs.declared.answers.Issued.TheVariants as issued
use Rattle.site_core.specs.declared.answers.Settled.{Settled}
use Rattle.site_core.specs.declared.answers.Settled.TheVariants as settled
use Rattle.site_core.specs.State.{Pair, Seen, HalfGoes, Leaves, clock}
use Rattle.site_core.specs.Times.{FailsAt, Follows}
use Rattle.site_core.specs.Passes.{StaysWithin}
use Rattle.esc_rom.specs.declared.fault.RomFault.{RomFault}
use Rattle.esc_rom.specs.declared.fault.RomFault.TheVariants as rom
use Rattle.esc_rom.specs.Past.{RestsInError, ClearsErrors, WaitsInVain, NeverIdle, NeverCounted, GivesUpReading}
use Rattle.esc_rom.specs.Runs.{Quiet}

-- ISSUE

-- The pairs are the same, but for this word of this slave.
abbrev pub DiffersAtWord : Pair → (slave word : ℕ) → Pair → Type 0
DiffersAtWord before slave word pair =
    (pair.disk ≡ before.disk)
    × ((pair.words ≡ before.words)
    ⊎ ((words : List ℕ) × (held : ℕ) × (slice_get before.words slave ≡ Some words)
    × (pair.words ≡ slice_set before.words slave (slice_set words word held))))

-- A pair that a power cut could have left before, except that this word of this slave may hold anything.
abbrev pub WordMayDiffer : Seen → (slave word : ℕ) → Pair → Type 0
WordMayDiffer old slave word pair = (before : Pair) × Leaves old.state before × DiffersAtWord before slave word pair

-- What becomes of the half, by the answer of `issue`; it may also have become idle. `Taken`: it took the word. `NotTaken`: it was
-- busy, or is at another station address. `Lost`: the call lost its frame, and the half took the word or not.
abbrev pub BecomesIssued : Seen → (slave word value : ℕ) → Seen → Issued → SlaveHalf → SlaveHalf → Type 0
BecomesIssued old slave word value new issued.Taken half later = TakesWord slave word value half later
BecomesIssued old slave word value new issued.NotTaken half later = MayRest half later × (¬ IsIdle half ⊎ (¬ IsAt slave half))
BecomesIssued old slave word value new issued.Lost half later =
    (MayRest half later ⊎ TakesWord slave word value half later) × FailsAt new (clock old)

-- `issue`: one device call, at no point of which a power cut leaves a change but in this word.
pub record IssuesWord (old : Seen) (slave word value : ℕ) (result : Result Issued DeviceFault) (new : Seen) : Type 0 where
  pub stays : StaysWithin (WordMayDiffer old slave word) old new
  pub half : (issued : Issued) → result ≡ Ok issued
      → HalfGoes (BecomesIssued old slave word value new issued) old.state slave new.state
  pub follows : Follows old new
  pub clock : clock new ≡ clock old + 1
  pub never_fewer : old.faults ≤ new.faults
  pub turns : new.turns ≡ old.turns
  pub stopped : IsTrue new.is_stopped ↔ (result ≡ Err device.Stopped)
  pub only_stopped : IfErr result (λ fault. fault ≡ device.Stopped)

-- SETTLE

-- What becomes of the half, by the answer of `settle`; it may also have become idle. `Written`: the word was taken, and a word that
-- the half was writing has its new value. `Again`: the half is idle, and the last call cleared its errors; if the word was taken, the
-- half had become idle with an error. `Dead`: 10,000 polls didn't see it idle.
abbrev pub BecomesSettled : Seen → (slave : ℕ) → (taken : Bool) → Seen → Settled → SlaveHalf → SlaveHalf → Type 0
BecomesSettled old slave taken new settled.Written half later =
    IsTrue taken × MayRest half later × IsWell later
    × ((word value : ℕ) → IsWritingOrInError word value half → IsWritten word value half later)
BecomesSettled old slave taken new settled.Again half later =
    OnlyRests half later × IsIdle later × (IsTrue taken → RestsInError old slave new half) × ClearsErrors old slave new later
BecomesSettled old slave taken new settled.Dead half later = MayRest half later × WaitsInVain old slave new

-- `settle`: at most 10,001 device calls, at no point of which a power cut leaves anything new.
pub record SettlesSlave (old : Seen) (slave : ℕ) (taken : Bool) (result : Result Settled DeviceFault) (new : Seen) : Type 0 where
  pub quiet : Quiet old 10001 new
  pub half : (settled : Settled) → result ≡ Ok settled
      → HalfGoes (BecomesSettled old slave taken new settled) old.state slave new.state
  pub stopped : IsTrue new.is_stopped ↔ (result ≡ Err device.Stopped)
  pub only_stopped : IfErr result (λ fault. fault ≡ device.Stopped)

-- OPEN

-- What becomes of the half, by whether it was opened; it may also have become idle. If it was, it is idle without an error, and 0x0500
-- is 0: the EEPROM isn't offered to the PDI. If it wasn't, 10,000 polls in a row didn't see it idle, or one datagram was sent three
-- times in a row and never counted.
abbrev pub BecomesOpen : Seen → (slave : ℕ) → Seen → Bool → SlaveHalf → SlaveHalf → Type 0
BecomesOpen old slave new true half later = OnlyRests half later × IsWell later × (access_byte later.registers ≡ 0)
BecomesOpen old slave new false half later = OnlyRests half later × (NeverIdle old slave new ⊎ NeverCounted old slave new half)

-- `open_slave`: at most 10,009 device calls, at no point of which a power cut leaves anything new.
pub record OpensSlave (old : Seen) (slave : ℕ) (result : Result (Unit {0}) RomFault) (new : Seen) : Type 0 where
  pub quiet : Quiet old 10009 new
  pub opened : result ≡ Ok tt → HalfGoes (BecomesOpen old slave new true) old.state slave new.state
  pub dead : result ≡ Err (rom.SlaveDead slave) → HalfGoes (BecomesOpen old slave new false) old.state slave new.state
  pub stopped : IsTrue new.is_stopped ↔ (result ≡ Err rom.Stopped)
  pub faults : IfErr result (λ fault. (fault ≡ rom.Stopped) ⊎ (fault ≡ rom.SlaveDead slave))

-- READ

-- All words were read. The half is idle and has these words; so a power cut leaves no others.
abbrev pub BecomesRead : List ℕ → SlaveHalf → SlaveHalf → Type 0
BecomesRead words half later = OnlyRests half later × IsIdle later × (later.words ≡ words)

-- The slave was given up: 10,000 polls in a row didn't see it idle, or three tries in a row to read two words failed.
abbrev pub BecomesUnread : Seen → (slave size : ℕ) → Seen → SlaveHalf → SlaveHalf → Type 0
BecomesUnread old slave size new half later = OnlyRests half later × GivesUpReading old slave size new

-- `read_all` of `size` words. At no point does a power cut leave anything new. If memory is refused, nothing was sent.
pub record ReadsWords (old : Seen) (slave size : ℕ) (result : Result (List ℕ) RomFault) (new : Seen) : Type 0 where
  pub quiet : Quiet old (10000 + 30006 * (size / 2)) new
  pub read : (words : List ℕ) → result ≡ Ok words → HalfGoes (BecomesRead words) old.state slave new.state
  pub dead : result ≡ Err (rom.SlaveDead slave) → HalfGoes (BecomesUnread old slave size new) old.state slave new.state
  pub memory : result ≡ Err rom.Memory → new ≡ old
  pub stopped : result ≡ Err rom.Stopped → IsTrue new.is_stopped
  pub going : IsTrue new.is_stopped → (result ≡ Err rom.Stopped) ⊎ (result ≡ Err rom.Memory)
  pub faults : IfErr result (λ fault. (fault ≡ rom.Memory) ⊎ ((fault ≡ rom.Stopped) ⊎ (fault ≡ rom.SlaveDead slave)))
