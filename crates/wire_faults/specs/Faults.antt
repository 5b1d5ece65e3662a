-- Which faults of work on a wire come from a file, a stream or memory.
use Rattle.station_files.specs.Faults as station
use Rattle.wire_faults.specs.declared.faults.WireFault.{WireFault}
use Rattle.wire_faults.specs.declared.faults.WireFault.TheVariants.{Station}

-- a file or stream failed, or memory was refused
abbrev pub IsOfStream : WireFault → Type 0
IsOfStream (Station fault) = station.IsOfStream fault
IsOfStream fault = ⊥
