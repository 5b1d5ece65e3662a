-- The calls that a device makes on the open files of a line.
use Rattle.std.specs.Prelude.{ℕ, ◌*◌, Bool}
use Rattle.std.specs.Int.{w16, to_le_bytes}
use Rattle.site_file.specs.declared.asking.LineFile.{LineFile}
-- what is asked of a file (POSIX: fstat, pread, pwrite, fdatasync)
pub use Rattle.site_file.specs.declared.asking.Call.{Call}
pub use Rattle.site_file.specs.declared.asking.Call.TheVariants.{TellsLength as tells_length, Reads as reads, Writes as writes, Syncs as syncs}
-- one call: which file it was made on, what was asked, and whether it succeeded
pub use Rattle.site_file.specs.declared.asking.Asked.{Asked}

abbrev pub asked : LineFile → Call → Bool → Asked
asked file call succeeded = record { file = file; call = call; succeeded = succeeded }

-- A word is written to an EEPROM image: its two bytes at its place, the low byte first.
abbrev pub writes_word : (word value : ℕ) → Call
writes_word word value = writes (word * 2) (to_le_bytes w16 value)
