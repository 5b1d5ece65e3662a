-- A law about what the datagrams of a configuration do to the process half of a slave.
use Rattle.std.specs.Prelude.{◌≡◌, ℕ, ◌≤◌, List, length, fold}
use Rattle.ecat_frame.specs.Frame.{Pdu}
use Rattle.ecat_frame.specs.Command.{command_of}
use Rattle.esc_model.specs.ProcessHalf.{ProcessMemory, processed}
use Rattle.sii_image.specs.declared.process_image.Segment.{Segment}
use Rattle.cyclic.specs.Configuration.{configuring, reconfiguring}

-- the half after a datagram
abbrev pub after_one : ProcessMemory → Pdu → ProcessMemory
after_one half order = (processed half (command_of order.command) order.address order.content).memory

-- the half after these datagrams
abbrev pub after : ProcessMemory → List Pdu → ProcessMemory
after half orders = fold after_one half orders

-- After a configuration for the old segments, reconfiguring leaves each process half as configuring for the new segments would.
abbrev pub ReconfiguresAsConfigured : Type 0
ReconfiguresAsConfigured = (slaves : ℕ) (old new : List Segment) (half : ProcessMemory) → slaves ≤ 64 → length half.bytes ≡ 65536
    → let configured = after half (configuring slaves old) in
    after configured (reconfiguring slaves old new) ≡ after configured (configuring slaves new)
