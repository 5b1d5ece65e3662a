-- Datagrams that may go to a half, and a command that it takes again.
use Rattle.std.proofs.Common.{◌≡◌, ◌⊎◌, ℕ, ◌+◌, ◌-◌, ◌<◌, ◌≤◌, true, false, nat_le, List, length, slice_index, refl, inl, inr, arith}
use Rattle.std.specs.Prelude.{IsTrue}
use Rattle.std.proofs.lemmas.Bool.{and_parts, leb-true, le-leb}
use Rattle.std.proofs.lemmas.Bool.Decides.{leb_tells}
use Rattle.ecat_frame.specs.Command.{command_of}
use Rattle.ecat_frame.specs.Frame.{Pdu}
use Rattle.esc_model.specs.Bytes.{register_of}
use Rattle.esc_model.specs.SlaveHalf.{SlaveHalf, Idle, is_busy}
use Rattle.esc_model.proofs.Status.{idle_not_busy}
use Rattle.site_wire.specs.Due.{WritesControl, is_command, IsFit, NamesInside, none as names_none, reads as names_reads, writes as names_writes}
use Rattle.site_wire.proofs.Stored.{offered_again, forced_again}
use Rattle.site_wire.proofs.Validated.{validated, SameCommand, Needs, none as no_command, reads as a_read, writes as a_write, validated_same}
use Rattle.site_wire.proofs.Taking.{true_or_false, HasAll, writes_code, writes_inside, writes_here}

-- WHAT IS SENT

-- nothing is sent to a busy half that writes to control and status
abbrev pub MaySend : SlaveHalf → Pdu → Type 0
MaySend half d = IsTrue (is_busy half.activity) → ¬ WritesControl d

-- where a datagram stands in the registers
abbrev pub place_of : Pdu → ℕ
place_of d = register_of d.address - 0x0500

-- a write to an idle half, or one before control and status
pub quiet_or_idle : (half : SlaveHalf) (d : Pdu) → MaySend half d → writes_here half (command_of d.command) d.address d.content ≡ true
    → (place_of d + length d.content ≤ 2) ⊎ (half.activity ≡ Idle)
quiet_or_idle half d may writes = by (true_or_false (is_busy half.activity)) (leb_tells (place_of d + length d.content) 2)
  where
    inside : 0x0500 ≤ register_of d.address
    inside = writes_inside half (command_of d.command) d.address d.content writes

    by : (is_busy half.activity ≡ true) ⊎ (is_busy half.activity ≡ false)
        → ((nat_le (place_of d + length d.content) 2 ≡ true) × (place_of d + length d.content ≤ 2))
        ⊎ ((nat_le (place_of d + length d.content) 2 ≡ false) × (2 < place_of d + length d.content))
        → (place_of d + length d.content ≤ 2) ⊎ (half.activity ≡ Idle)
    by (inr vacant) _ = inr (idle_not_busy half.activity vacant)
    by (inl busy) (inl quiet) = inl quiet.1
    by (inl busy) (inr past) = absurd (may busy (record { write = writes_code half d writes; afterwards = omega (arith, inside, past.1) }))

-- what is fit has all that its command needs
pub fit_all : (shadow : SlaveHalf) (d : Pdu) → IsFit shadow d → (half : SlaveHalf) → writes_here half (command_of d.command) d.address d.content ≡ true
    → HasAll (place_of d) d.content
fit_all shadow d fits half writes covers =
    let inside : 0x0500 ≤ register_of d.address = writes_inside half (command_of d.command) d.address d.content writes in
    let parts = and_parts (nat_le (place_of d) 2) (nat_le 4 (place_of d + length d.content)) covers in
    let low : place_of d ≤ 2 = leb-true (place_of d) 2 parts.0 in
    let high : 4 ≤ place_of d + length d.content = leb-true 4 (place_of d + length d.content) parts.1 in
    let code : d.command ≡ 5 = writes_code half d writes in
    let is : is_command d ≡ true =
    rw (code, le-leb (register_of d.address) 0x0502 (omega arith), le-leb 0x0504 (register_of d.address + length d.content) (omega arith)) refl in
    (let e = fits.from is in omega arith, needed (fits.names is))
  where
    needed : NamesInside shadow d.content → Needs d.content
    needed (names_none covers is) = no_command covers is
    needed (names_reads covers is inside) = a_read covers is
    needed (names_writes covers is inside) = a_write covers is

-- AGAIN

-- a command that is judged again
module _ (half : SlaveHalf) (over : List ℕ) (bytes : (k : ℕ) → slice_index over k < 256) (needs : Needs over) where
  -- a half that has the access bits that the command left
  pub command_again : (other : SlaveHalf) → other.station ≡ half.station
      → other.registers.offered ≡ (validated half 2 over).registers.offered
      → other.registers.forced ≡ (validated half 2 over).registers.forced
      → length other.words ≡ length half.words
      → SameCommand (validated half 2 over) (validated other 2 over)
  command_again other station offered forced count =
      validated_same half other over needs station
      (offered_again half other 2 over bytes offered forced) (forced_again half other 2 over bytes offered forced) count
