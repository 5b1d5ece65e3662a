-- What came back of a datagram, beside the answer of the shadow (ETG.1000.4, slave information interface).
use Rattle.std.specs.Prelude.{◌≡◌, ℕ, ◌+◌, ◌/◌, ◌<◌, ◌≤◌, ◌==◌, ◌&&◌, nat_le, Bool, true, false, List, length, take, min}
use Rattle.std.specs.Prelude.{slice_index, slice_get}
use Rattle.std.specs.Prelude.{Option, Some, None, IsTrue, if◌then◌else◌}
use Rattle.ecat_frame.specs.Frame.{Pdu}
use Rattle.ecat_frame.specs.Command.{code_of}
use Rattle.esc_model.specs.Bytes.{register_of}
use Rattle.esc_model.specs.SlaveHalf.{SlaveHalf, is_busy}
use Rattle.site_wire.specs.declared.device.Reaction.{Reaction}
use Rattle.site_wire.specs.declared.device.Reaction.TheVariants as next
use Rattle.site_wire.specs.Due.{WritesControl}
use Rattle.site_wire.specs.Answers.{compared, ReadAlike, AnswersAlike}
use Rattle.site_wire.specs.declared.answers.Answer.{Answer}
use Rattle.site_wire.specs.declared.answers.AccessState.{AccessState}
use Rattle.site_wire.specs.declared.answers.AccessState.TheVariants as shown
use Rattle.site_wire.specs.declared.faults.Difference.{Difference}
use Rattle.site_wire.specs.declared.faults.Difference.TheVariants as difference

-- what came back, as a datagram, of which the first 16 bytes are kept
abbrev pub found_of : Answer → Pdu
found_of answer = record {
  command = code_of answer.command;
  index = answer.index;
  address = answer.address;
  content = take (min answer.length 16) answer.front;
  counter = answer.counter;
}

-- One slave counted the datagram, and it came back with these bytes.
pub record ShowsPair (found : Pdu) (pair : List ℕ) : Type 0 where
  pub counter : found.counter ≡ 1
  pub content : found.content ≡ pair

-- what the byte at 0x0503 shows of a slave: bit 7 is busy, bits 5 and 6 are the errors
abbrev pub shown_by : Option ℕ → AccessState
shown_by None = shown.Nothing
shown_by (Some status) = if nat_le 0x80 status then shown.Busy else if nat_le 0x20 status then shown.Failed else shown.Well

-- What is done after an answer of a slave that writes a word, which shows this: a busy slave stays so; one that ended its command in error,
-- or wasn't seen busy with it, is told it again; and a word that is shown as written is read back.
abbrev pub next_by : AccessState → Bool → Reaction
next_by shown.Nothing unconfirmed = next.Stays
next_by shown.Busy unconfirmed = next.Stays
next_by shown.Failed unconfirmed = next.Again
next_by shown.Well true = next.Again
next_by shown.Well false = next.ReadsBack

-- It is the answer to this datagram, of 16 bytes at most; what was written comes back as it was.
pub record IsAnswer (given : Pdu) (answer : Answer) : Type 0 where
  pub command : code_of answer.command ≡ given.command
  pub index : answer.index ≡ given.index
  pub address : answer.address ≡ given.address
  pub length : answer.length ≡ length given.content
  pub short : answer.length ≤ 16
  pub written : given.command ≡ 5 → (found_of answer).content ≡ given.content

-- the address of what came back at `found` of a datagram that was to go to `asked` and went to `sent`
abbrev pub address_back : (asked sent found : ℕ) → ℕ
address_back asked sent found = if found == sent then asked else if found == asked then sent else found

-- It came back of a datagram that went to this address: the same command and index, at this address, with as many bytes.
abbrev pub is_back : (asked : Pdu) → (sent : ℕ) → (found : Pdu) → Bool
is_back asked sent found =
    found.command == asked.command && found.index == asked.index && found.address == sent && length found.content == length asked.content

-- what is told of `found`, which came back of a datagram that was to go to its own address and went to `sent`: what isn't its answer, as not taken
abbrev pub answer_of : (asked : Pdu) → (sent : ℕ) → (found : Pdu) → Pdu
answer_of asked sent found = record {
  command = found.command;
  index = found.index;
  address = address_back asked.address sent found.address;
  content = take (min (length found.content) 16) found.content;
  counter = if is_back asked sent found then found.counter else 0;
}

-- an answer, of a slave that may have taken the datagram before
abbrev pub marked : Answer → Answer
marked answer = record answer { again = true }

-- This is the answer to a datagram, and no slave counted it.
pub record IsUncounted (asked : Pdu) (answer : Answer) : Type 0 where
  pub is_answer : IsAnswer asked answer
  pub counter : answer.counter ≡ 0

-- in what a byte that was read at this register is another
abbrev pub difference_at : (register given found : ℕ) → Option Difference
difference_at register given found =
    if compared register given == compared register found then None
    else Some (if register == 0x0500 then difference.Access
    else if given / 0x80 == found / 0x80 then difference.Errors
    else difference.Busy)

-- This is in what the first byte differs that was read from this register on.
pub record FirstDiffers (register : ℕ) (given found : List ℕ) (what : Difference) : Type 0 where
  pub place : ℕ
  pub inside : place < length given
  pub before : (k : ℕ) → k < place → compared (register + k) (slice_index given k) ≡ compared (register + k) (slice_index found k)
  pub differs : difference_at (register + place) (slice_index given place) (slice_index found place) ≡ Some what

-- It is the answer, counted as the shadow counts it, and what was read is the same in what is compared.
pub record IsAlike (given : Pdu) (answer : Answer) : Type 0 where
  pub is_answer : IsAnswer given answer
  pub counter : answer.counter ≡ given.counter
  pub read : given.command ≡ 4 → ReadAlike (register_of given.address) given.content (found_of answer).content

-- It is the answer to a command that was sent again. The shadow is busy with it and counts it; the slave doesn't.
pub record IsUnconfirmed (half : SlaveHalf) (given : Pdu) (answer : Answer) : Type 0 where
  pub is_answer : IsAnswer given answer
  pub again : answer.again ≡ true
  pub busy : IsTrue (is_busy half.activity)
  pub writes : WritesControl given
  pub given_counter : given.counter ≡ 1
  pub found_counter : answer.counter ≡ 0

-- The answer is the shadow's, in what is compared. Or it is to a command with which the shadow is busy now, and doesn't count it.
pub data Agrees (shadow : SlaveHalf) (given found : Pdu) : Type 0 where
  alike : AnswersAlike given found → Agrees shadow given found
  unconfirmed : IsTrue (is_busy shadow.activity) → WritesControl given → given.counter ≡ 1 → found.counter ≡ 0 → Agrees shadow given found

-- What came back agrees with the first datagram of the shadow's answer.
pub record AgreesWith (half : SlaveHalf) (frame : List Pdu) (answer : Answer) : Type 0 where
  pub given : Pdu
  pub first : slice_get frame 0 ≡ Some given
  pub agrees : Agrees half given (found_of answer)
