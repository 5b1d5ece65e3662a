-- What is compared of an answer, and what it shows (ETG.1000.4, slave information interface).
use Rattle.std.specs.Prelude.{◌≡◌, ℕ, ◌+◌, ◌-◌, ◌<◌, ◌/◌, ◌%◌, ◌==◌, ◌&&◌, nat_lt, nat_le, Bool, List, length}
use Rattle.std.specs.Prelude.{slice_index, Option, Some, None}
use Rattle.std.specs.Prelude.{if◌then◌else◌}
use Rattle.ecat_frame.specs.Frame.{Pdu}
use Rattle.esc_model.specs.Bytes.{register_of}

-- What is compared of a byte that was read at this register: of 0x0500 who has access, bits 0 and 1; and of 0x0503 busy and the errors,
-- bits 5 to 7.
abbrev pub compared : (register byte : ℕ) → ℕ
compared register byte =
    if register == 0x0500 then byte % 4
    else if register == 0x0503 then byte / 0x20
    else 0

-- The bytes that were read from this register on are the same in what is compared.
abbrev pub ReadAlike : (register : ℕ) → (given found : List ℕ) → Type 0
ReadAlike register given found =
    (k : ℕ) → k < length given → compared (register + k) (slice_index given k) ≡ compared (register + k) (slice_index found k)

-- The answers are to the same datagram, with the same working counter, and what was read (code 4, FPRD) is the same in what is compared.
pub record AnswersAlike (given found : Pdu) : Type 0 where
  pub command : found.command ≡ given.command
  pub index : found.index ≡ given.index
  pub address : found.address ≡ given.address
  pub length : length found.content ≡ length given.content
  pub counter : found.counter ≡ given.counter
  pub read : given.command ≡ 4 → ReadAlike (register_of given.address) given.content found.content

-- The answer is to an FPRD that one slave counted, and has the byte at 0x0503.
abbrev pub has_status : Pdu → Bool
has_status found =
    found.command == 4 && found.counter == 1
    && nat_le (register_of found.address) 0x0503 && nat_lt 0x0503 (register_of found.address + length found.content)

-- the byte at 0x0503 that an answer shows
abbrev pub shown_status : Pdu → Option ℕ
shown_status found = if has_status found then Some (slice_index found.content (0x0503 - register_of found.address)) else None
