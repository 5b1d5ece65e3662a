-- The fault that a stopped site is reported as.
use Rattle.std.proofs.Common.{◌≡◌, Result, Ok, Err, IsErrAnd, ap, ◌∙◌}
use Rattle.site_core.specs.declared.fault.DeviceFault.{DeviceFault}
use Rattle.site_core.specs.declared.fault.DeviceFault.TheVariants as device
use Rattle.esc_rom.specs.declared.fault.RomFault.{RomFault}
use Rattle.esc_rom.specs.declared.fault.RomFault.TheVariants as rom

pub device_stopped : {T : Type 0} (result : Result T DeviceFault) → IsErrAnd result (λ fault. fault ≡ device.Stopped) → result ≡ Err device.Stopped
device_stopped (Ok value) is = absurd is
device_stopped (Err fault) is = ap Err is

pub rom_stopped : {T : Type 0} (result : Result T RomFault) → IsErrAnd result (λ fault. fault ≡ rom.Stopped) → result ≡ Err rom.Stopped
rom_stopped (Ok value) is = absurd is
rom_stopped (Err fault) is = ap Err is

-- a fault that is handed on
pub rom_memory : {T : Type 0} (result : Result T RomFault) (given : RomFault) → IsErrAnd result (λ fault. fault ≡ given) → given ≡ rom.Memory → result ≡ Err rom.Memory
rom_memory (Ok value) given is memory = absurd is
rom_memory (Err fault) given is memory = ap Err (is ∙ memory)
