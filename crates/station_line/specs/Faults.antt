-- The program's fault for each fault of opening and recovering a line.
use Rattle.std.specs.Prelude.{Option, Some, None}
use Rattle.esc_rom.specs.declared.fault.RomFault.{RomFault}
use Rattle.esc_rom.specs.declared.fault.RomFault.TheVariants as slaves
use Rattle.jrn_format.specs.declared.fault.JournalFault.{JournalFault}
use Rattle.jrn_format.specs.declared.fault.JournalFault.TheVariants as journals
use Rattle.site_journal.specs.declared.fault.ReadFault.TheVariants as read
use Rattle.station_alone.specs.declared.fault.OpenFault.{OpenFault}
use Rattle.station_alone.specs.declared.fault.OpenFault.TheVariants as why
use Rattle.station_line.specs.DeviceFaults.{of_device}
use Rattle.station_files.specs.declared.faults.Fault.{Fault}
use Rattle.station_files.specs.declared.faults.Fault.TheVariants.{Memory, Stopped, SlaveDead, NotAJournal, BadVersion, BadJournal, WrongLine}
use Rattle.book_model.specs.declared.fault.Fault.{Fault as BookFault}
use Rattle.book_model.specs.declared.fault.Fault.TheVariants as books
use Rattle.station_files.specs.declared.faults.Fault.TheVariants as faults

-- the fault for a file that is no journal, or a journal that can't be read
abbrev pub of_journal : JournalFault → Fault
of_journal journals.Memory = Memory
of_journal journals.NotAJournal = NotAJournal
of_journal (journals.BadVersion found) = BadVersion found
of_journal journals.WrongLine = WrongLine
of_journal (journals.BadJournal at) = BadJournal at

-- the fault for a slave that can't be opened or read
abbrev pub of_slave : RomFault → Fault
of_slave slaves.Memory = Memory
of_slave (slaves.SlaveDead slave) = SlaveDead slave
of_slave slaves.Stopped = Stopped

-- the fault for a station that can't be opened or recovered
abbrev pub of_open : OpenFault → Fault
of_open why.Memory = Memory
of_open (why.Journal (read.Device fault)) = of_device fault
of_open (why.Journal (read.Journal fault)) = of_journal fault
of_open (why.Slave fault) = of_slave fault

-- the fault that tells why a desk isn't closed: that of its book, or `Unserved` where work is left or something isn't handed in
abbrev pub fault_of_book : Option BookFault → Fault
fault_of_book (Some books.Disk) = faults.Disk
fault_of_book (Some books.Stopped) = faults.Stopped
fault_of_book (Some (books.SlaveDead slave)) = faults.SlaveDead slave
fault_of_book None = faults.Unserved
