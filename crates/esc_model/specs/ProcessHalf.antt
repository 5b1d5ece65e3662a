-- The process half of a slave (ETG.1000.4): 0x10000 bytes, registers below 0x1000 and process data memory from there on, read and
-- written by address, or through FMMUs.
use Rattle.std.specs.Prelude.{ℕ, ◌+◌, Bool, ◌&&◌, ◌||◌, ◌==◌, List, [], ◌∷◌, length, replicate, slice_range, if◌then◌else◌}
use Rattle.sii_words.specs.Words.{bytes_of, alias_of}
use Rattle.ecat_frame.specs.declared.Command.{Command}
use Rattle.ecat_frame.specs.declared.Command.TheVariants.{Fprd, Fpwr, Lrw, Other}
use Rattle.esc_model.specs.Bytes.{overlaid, lies_in, station_of, register_of}
use Rattle.esc_model.specs.Fmmu.{fmmus, counter_of, all_read, all_written}

-- the station address, and the bytes of registers and memory
pub record ProcessMemory : Type 0 where
  pub station : ℕ
  pub bytes : List ℕ

-- this number of zero bytes
unfoldable pub zeros : ℕ → List ℕ
zeros count = replicate count 0

-- At power-up all bytes are 0, except that the station address and the alias (word 4) stand at 0x0010.
abbrev pub powered_up : List ℕ → ℕ → ProcessMemory
powered_up words station = record { station = station; bytes = overlaid (zeros 0x10000) 0x0010 (bytes_of (station ∷ alias_of words ∷ [])) }

-- the memory after a datagram, the datagram's content, and what was added to its working counter
pub record Processed : Type 0 where
  pub memory : ProcessMemory
  pub content : List ℕ
  pub added : ℕ

-- a datagram that changes nothing, and is not counted
abbrev pub passed_on : ProcessMemory → List ℕ → Processed
passed_on memory content = record { memory = memory; content = content; added = 0 }

-- Bytes may be written if they lie wholly in the FMMUs, in the sync managers or in the memory.
abbrev pub is_writable : ℕ → ℕ → Bool
is_writable start count = lies_in 0x0600 0x0680 start count || lies_in 0x0800 0x0880 start count || lies_in 0x1000 0x10000 start count

-- Bytes may be read if they may be written, or lie wholly in the station address and the alias.
abbrev pub is_readable : ℕ → ℕ → Bool
is_readable start count = lies_in 0x0010 0x0014 start count || is_writable start count

-- An FPRD reads if it is for this station and its bytes may be read.
abbrev pub read_for : ProcessMemory → ℕ → List ℕ → Processed
read_for memory address content =
    if station_of address == memory.station && is_readable (register_of address) (length content)
    then record { memory = memory; content = slice_range memory.bytes (register_of address) (register_of address + length content); added = 1 }
    else passed_on memory content

-- An FPWR writes if it is for this station and its bytes may be written.
abbrev pub written_for : ProcessMemory → ℕ → List ℕ → Processed
written_for memory address content =
    if station_of address == memory.station && is_writable (register_of address) (length content)
    then record { memory = record memory { bytes = overlaid memory.bytes (register_of address) content }; content = content; added = 1 }
    else passed_on memory content

-- An LRW reads and writes through the FMMUs. All reads come before all writes.
abbrev pub exchanged : ProcessMemory → ℕ → List ℕ → Processed
exchanged memory start content = record {
  memory = record memory { bytes = all_written content (fmmus memory.bytes) start memory.bytes };
  content = all_read memory.bytes (fmmus memory.bytes) start content;
  added = counter_of (fmmus memory.bytes) start (length content);
}

-- the outcome of a datagram with this command, address and content
unfoldable pub processed : ProcessMemory → Command → ℕ → List ℕ → Processed
processed memory Fprd address content = read_for memory address content
processed memory Fpwr address content = written_for memory address content
processed memory Lrw address content = exchanged memory address content
processed memory (Other code) address content = passed_on memory content
