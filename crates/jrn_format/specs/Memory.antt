-- Refused memory may be reported in place of any other fault.
use Rattle.jrn_format.specs.declared.fault.JournalFault.{JournalFault}
use Rattle.jrn_format.specs.declared.fault.JournalFault.TheVariants.{Memory, NotAJournal, BadVersion, WrongLine, BadJournal}

-- P holds, unless the fault is Memory.
abbrev pub UnlessMemory : JournalFault → Type 0 → Type 0
UnlessMemory Memory P = Unit {0}
UnlessMemory NotAJournal P = P
UnlessMemory (BadVersion found) P = P
UnlessMemory WrongLine P = P
UnlessMemory (BadJournal at) P = P
