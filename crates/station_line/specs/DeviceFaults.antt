-- The program's faults for those of device calls.
use Rattle.site_core.specs.declared.fault.DeviceFault.{DeviceFault}
use Rattle.site_core.specs.declared.fault.DeviceFault.TheVariants as device
use Rattle.station_files.specs.declared.faults.Fault.{Fault}
use Rattle.station_files.specs.declared.faults.Fault.TheVariants as faults

-- the program's fault for a fault of a device call
abbrev pub of_device : DeviceFault → Fault
of_device device.Disk = faults.Disk
of_device device.Lost = faults.Lost
of_device device.Stopped = faults.Stopped
