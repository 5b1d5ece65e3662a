-- The program's fault for each fault of a crate below.
use Rattle.std.specs.Prelude.{◌≡◌, ◌⊎◌, ⊤, ℕ}
use Rattle.sii_edit.specs.declared.refusal.Cause.{Cause}
use Rattle.sii_edit.specs.declared.refusal.Cause.TheVariants as causes
use Rattle.sii_image.specs.declared.fault.ImageFault.{ImageFault}
use Rattle.sii_image.specs.declared.fault.ImageFault.TheVariants as images
use Rattle.sii_words.specs.declared.fault.WordsFault.{WordsFault}
use Rattle.sii_words.specs.declared.fault.WordsFault.TheVariants as words
use Rattle.station_listing.specs.declared.codes.Code.{Code}
use Rattle.station_listing.specs.declared.codes.Code.TheVariants as codes
use Rattle.station_text.specs.declared.hexadecimal.HexFault.{HexFault}
use Rattle.station_text.specs.declared.hexadecimal.HexFault.TheVariants as digits
use Rattle.station_text.specs.declared.line_file.LineFault.{LineFault}
use Rattle.station_text.specs.declared.line_file.LineFault.TheVariants as lines
use Rattle.station_files.specs.declared.faults.ExitStatus.{ExitStatus}
use Rattle.station_files.specs.declared.faults.ExitStatus.TheVariants.{Done, Refused}
use Rattle.station_files.specs.declared.faults.ExitStatus.TheVariants as ends
use Rattle.station_files.specs.declared.faults.Fault.{Fault}
use Rattle.station_files.specs.declared.faults.Fault.TheVariants.{OddLength, BadSize, ImageOverLimit, Memory, Disk, Lost, Stopped, SlaveDead}
use Rattle.station_files.specs.declared.faults.Fault.TheVariants.{Unserved, File, BadHex, BadLine, Busy}
use Rattle.station_files.specs.declared.store.LockFault.{LockFault}
use Rattle.station_files.specs.declared.store.LockFault.TheVariants as locks

-- a file or stream failed, or memory was refused
abbrev pub IsOfStream : Fault → Type 0
IsOfStream fault = (fault ≡ File) ⊎ (fault ≡ Memory)

-- the fault for a lock that wasn't taken
abbrev pub IsOfLock : LockFault → Fault → Type 0
IsOfLock locks.Busy fault = fault ≡ Busy
IsOfLock (locks.Io error) fault = IsOfStream fault

-- the fault for bytes that are not the words of an image or a device
abbrev pub of_words : WordsFault → Fault
of_words words.OddLength = OddLength
of_words words.BadSize = BadSize
of_words words.Memory = Memory

-- the fault for a line without a process image
abbrev pub of_process_image : ImageFault → Fault
of_process_image images.ImageOverLimit = ImageOverLimit
of_process_image images.Memory = Memory

-- the fault for a text that is not hexadecimal
abbrev pub of_hex : HexFault → Fault
of_hex digits.BadHex = BadHex
of_hex digits.Memory = Memory

-- the fault for a text that is not a line file
abbrev pub of_line : LineFault → Fault
of_line (lines.BadLine trouble) = BadLine
of_line lines.Memory = Memory

-- no fault ended the work: everything was done, or at most commands were refused
abbrev pub IsFaultless : ExitStatus → Type 0
IsFaultless Done = ⊤
IsFaultless Refused = ⊤
IsFaultless status = ⊥

-- the code that a refused command is printed with
abbrev pub code_of : Cause → Code
code_of (causes.BadCategory kind) = codes.BadCategory
code_of causes.NoRoom = codes.NoRoom
code_of causes.NoSlave = codes.NoSlave
code_of causes.SameSlave = codes.SameSlave
code_of causes.EmptyGroup = codes.EmptyGroup
code_of causes.GroupTooLong = codes.GroupTooLong
code_of causes.ImageTooLong = codes.ImageTooLong
code_of causes.BadCheck = codes.BadCheck
code_of causes.NoSuchCategory = codes.NoSuchCategory
code_of causes.SeveralCategories = codes.SeveralCategories
code_of causes.BadChain = codes.BadChain
code_of causes.ImageOverLimit = codes.ImageOverLimit
code_of causes.Memory = codes.Memory
code_of causes.WrongIdentity = codes.WrongIdentity

-- The status that a fault ends the program with: 5 where memory was refused, 4 where the disk or a slave failed, 3 for everything else.
abbrev pub status_of : Fault → ExitStatus
status_of Memory = ends.Memory
status_of Disk = ends.Device
status_of Lost = ends.Device
status_of Stopped = ends.Device
status_of (SlaveDead slave) = ends.Device
status_of Unserved = ends.Device
status_of fault = ends.File

-- the number of an exit status
abbrev pub number_of : ExitStatus → ℕ
number_of ends.Done = 0
number_of ends.Refused = 1
number_of ends.Usage = 2
number_of ends.File = 3
number_of ends.Device = 4
number_of ends.Memory = 5
