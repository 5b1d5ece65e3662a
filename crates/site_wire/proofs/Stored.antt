-- The registers after a write, by what they were before.
use Rattle.std.proofs.Common.{◌≡◌, ℕ, ◌+◌, ◌-◌, ◌*◌, ◌/◌, ◌%◌, ◌<◌, ◌≤◌, Bool, true, false, List, length}
use Rattle.std.proofs.Common.{slice_index, refl, sym, ap, ◌∙◌, arith}
use Rattle.std.specs.Prelude.{◌==◌, if◌then◌else◌}
use Rattle.std.proofs.lemmas.Bool.Decides.{nat_tests}
use Rattle.esc_model.specs.Bytes.{overlaid}
use Rattle.esc_model.specs.Registers.{Registers, access_byte, status_byte}
use Rattle.esc_model.specs.SlaveHalf.{SlaveHalf, is_busy, shown_bytes, with_stored}
use Rattle.site_wire.proofs.Storing.{byte_after, Lies, before, within, afterwards, lies, after_before, after_after, overlaid_at, after_within}
use Rattle.site_wire.proofs.Storing.{after_covered}
use Rattle.esc_model.proofs.WordTaking.{offered_again as offered_bit}

-- a word that stands at a place, after the write
pub word_after : (old at : ℕ) → List ℕ → ℕ → ℕ
word_after old at over i = byte_after (old % 256) at over i + 256 * byte_after (old / 256) at over (i + 1)

word_covered : (old other at i : ℕ) (over : List ℕ) → at ≤ i → i + 1 < at + length over → word_after old at over i ≡ word_after other at over i
unfolding word_after
word_covered old other at i over from h =
    rw (after_covered (old % 256) (other % 256) at i over from (omega arith), after_covered (old / 256) (other / 256) at (i + 1) over (omega arith) (omega arith)) refl

-- the number of a word, after the write
pub address_after : (old at : ℕ) → List ℕ → ℕ
address_after old at over = word_after (old % 65536) at over 4 + 65536 * word_after (old / 65536) at over 6

-- bits 0 and 1 of a byte, which the registers keep of the access byte
abbrev kept_bits : ℕ → ℕ
kept_bits n = (if n % 2 == 1 then 1 else 0) + (if n / 2 % 2 == 1 then 2 else 0)

kept_bits-mod : (n : ℕ) → kept_bits n ≡ n % 4
kept_bits-mod n = grind (arith, nat_tests)

module _ (half : SlaveHalf) (at : ℕ) (over : List ℕ) where
  abbrev after : Registers
  after = (with_stored half at over).registers

  byte_is : (i : ℕ) → i < 16 → slice_index (overlaid (shown_bytes half) at over) i ≡ byte_after (slice_index (shown_bytes half) i) at over i
  byte_is i inside = overlaid_at (shown_bytes half) over at i inside

  pub offered_is : after.offered ≡ (byte_after (access_byte half.registers) at over 0 % 2 == 1)
  offered_is = ap (λ (b : ℕ). b % 2 == 1) (byte_is 0 (omega arith))

  pub forced_is : after.forced ≡ (byte_after (access_byte half.registers) at over 0 / 2 % 2 == 1)
  forced_is = ap (λ (b : ℕ). b / 2 % 2 == 1) (byte_is 0 (omega arith))

  pub control_is : after.control ≡ byte_after half.registers.control at over 2
  control_is = byte_is 2 (omega arith)

  pub command_is : after.command ≡ byte_after (status_byte half.registers (is_busy half.activity)) at over 3 % 8
  command_is = ap (λ (b : ℕ). b % 8) (byte_is 3 (omega arith))

  pub address_is : after.address ≡ address_after half.registers.address at over
  unfolding address_after word_after
  address_is = rw (byte_is 4 (omega arith), byte_is 5 (omega arith), byte_is 6 (omega arith), byte_is 7 (omega arith)) refl

  pub first_is : after.first ≡ word_after half.registers.first at over 8
  unfolding word_after
  first_is = rw (byte_is 8 (omega arith), byte_is 9 (omega arith)) refl

-- THE SAME REGISTERS GIVE THE SAME

access_same : (r s : Registers) → s.offered ≡ r.offered → s.forced ≡ r.forced → access_byte s ≡ access_byte r
access_same r s offered forced = rw (offered, forced) refl

module _ (a b : SlaveHalf) (at : ℕ) (over : List ℕ) where
  pub offered_same : b.registers.offered ≡ a.registers.offered → b.registers.forced ≡ a.registers.forced
      → (with_stored b at over).registers.offered ≡ (with_stored a at over).registers.offered
  offered_same o f =
      offered_is b at over ∙ ap (λ (n : ℕ). byte_after n at over 0 % 2 == 1) (access_same a.registers b.registers o f) ∙ sym (offered_is a at over)

  pub forced_same : b.registers.offered ≡ a.registers.offered → b.registers.forced ≡ a.registers.forced
      → (with_stored b at over).registers.forced ≡ (with_stored a at over).registers.forced
  forced_same o f =
      forced_is b at over ∙ ap (λ (n : ℕ). byte_after n at over 0 / 2 % 2 == 1) (access_same a.registers b.registers o f) ∙ sym (forced_is a at over)

  -- of what the content covers only the content counts
  pub control_same : at ≤ 2 → 4 ≤ at + length over → (with_stored b at over).registers.control ≡ (with_stored a at over).registers.control
  control_same from covers =
      control_is b at over
      ∙ after_covered b.registers.control a.registers.control at 2 over from (omega arith)
      ∙ sym (control_is a at over)

  pub command_same : at ≤ 2 → 4 ≤ at + length over → (with_stored b at over).registers.command ≡ (with_stored a at over).registers.command
  command_same from covers =
      command_is b at over
      ∙ ap (λ (n : ℕ). n % 8) (after_covered (status_byte b.registers (is_busy b.activity)) (status_byte a.registers (is_busy a.activity)) at 3 over (omega arith) (omega arith))
      ∙ sym (command_is a at over)

  pub address_covered : at ≤ 2 → 8 ≤ at + length over → (with_stored b at over).registers.address ≡ (with_stored a at over).registers.address
  unfolding address_after
  address_covered from covers =
      address_is b at over
      ∙ (rw (
        word_covered (b.registers.address % 65536) (a.registers.address % 65536) at 4 over (omega arith) (omega arith),
        word_covered (b.registers.address / 65536) (a.registers.address / 65536) at 6 over (omega arith) (omega arith),
      ) refl)
      ∙ sym (address_is a at over)

  pub first_covered : at ≤ 2 → 10 ≤ at + length over → (with_stored b at over).registers.first ≡ (with_stored a at over).registers.first
  first_covered from covers =
      first_is b at over ∙ word_covered b.registers.first a.registers.first at 8 over (omega arith) (omega arith) ∙ sym (first_is a at over)

  -- the command that the content has
  pub command_given : at ≡ 2 → 2 ≤ length over → (with_stored a at over).registers.command ≡ slice_index over 1 % 8
  command_given from covers =
      command_is a at over
      ∙ ap (λ (n : ℕ). n % 8)
      (after_within (status_byte a.registers (is_busy a.activity)) at 3 over (omega arith) (omega arith) ∙ ap (λ (n : ℕ). slice_index over (3 - n)) from)

-- WHAT KEEPS THE ACCESS

forced_bit : (offered forced : Bool) → (((if offered then 1 else 0) + (if forced then 2 else 0)) / 2 % 2 == 1) ≡ forced
forced_bit true true = refl
forced_bit true false = refl
forced_bit false true = refl
forced_bit false false = refl

-- a write from control and status on keeps the access
module _ (half : SlaveHalf) (over : List ℕ) where
  pub offered_kept : (with_stored half 2 over).registers.offered ≡ half.registers.offered
  offered_kept =
      offered_is half 2 over ∙ ap (λ (n : ℕ). n % 2 == 1) (after_before (access_byte half.registers) 2 0 over (omega arith))
      ∙ offered_bit half.registers.offered half.registers.forced

  pub forced_kept : (with_stored half 2 over).registers.forced ≡ half.registers.forced
  forced_kept =
      forced_is half 2 over ∙ ap (λ (n : ℕ). n / 2 % 2 == 1) (after_before (access_byte half.registers) 2 0 over (omega arith))
      ∙ forced_bit half.registers.offered half.registers.forced

-- WRITTEN AGAIN

mod_twice : (n : ℕ) → n % 4 % 4 ≡ n % 4
mod_twice n = omega arith

-- bits 0 and 1 of a byte that was written, written again
module _ (old at : ℕ) (over : List ℕ) where
  again_mod : byte_after (byte_after old at over 0 % 4) at over 0 % 4 ≡ byte_after old at over 0 % 4
  again_mod = by (lies at 0 over)
    where
      by : Lies at 0 over → byte_after (byte_after old at over 0 % 4) at over 0 % 4 ≡ byte_after old at over 0 % 4
      by (before h) = ap (λ (n : ℕ). n % 4) (after_before (byte_after old at over 0 % 4) at 0 over h) ∙ mod_twice (byte_after old at over 0)
      by (within from h) = ap (λ (n : ℕ). n % 4) (after_covered (byte_after old at over 0 % 4) old at 0 over from h)
      by (afterwards from past) = ap (λ (n : ℕ). n % 4) (after_after (byte_after old at over 0 % 4) at 0 over from past) ∙ mod_twice (byte_after old at over 0)

low_by : (n m : ℕ) → n % 4 ≡ m % 4 → (n % 2 == 1) ≡ (m % 2 == 1)
low_by n m e = let same : n % 2 ≡ m % 2 = omega arith in ap (λ (k : ℕ). k == 1) same

high_by : (n m : ℕ) → n % 4 ≡ m % 4 → (n / 2 % 2 == 1) ≡ (m / 2 % 2 == 1)
high_by n m e = let same : n / 2 % 2 ≡ m / 2 % 2 = omega arith in ap (λ (k : ℕ). k == 1) same

-- a half whose registers are as the write left them
module _ (a b : SlaveHalf) (at : ℕ) (over : List ℕ) (bytes : (k : ℕ) → slice_index over k < 256) where
  access_again : b.registers.offered ≡ (with_stored a at over).registers.offered → b.registers.forced ≡ (with_stored a at over).registers.forced
      → byte_after (access_byte b.registers) at over 0 % 4 ≡ byte_after (access_byte a.registers) at over 0 % 4
  access_again o f =
      let byte = byte_after (access_byte a.registers) at over 0 in
      let kept : access_byte b.registers ≡ byte % 4 = (rw (o ∙ offered_is a at over, f ∙ forced_is a at over) refl) ∙ kept_bits-mod byte in
      ap (λ (n : ℕ). byte_after n at over 0 % 4) kept ∙ again_mod (access_byte a.registers) at over

  pub offered_again : b.registers.offered ≡ (with_stored a at over).registers.offered → b.registers.forced ≡ (with_stored a at over).registers.forced
      → (with_stored b at over).registers.offered ≡ (with_stored a at over).registers.offered
  offered_again o f = offered_is b at over ∙ low_by _ _ (access_again o f) ∙ sym (offered_is a at over)

  pub forced_again : b.registers.offered ≡ (with_stored a at over).registers.offered → b.registers.forced ≡ (with_stored a at over).registers.forced
      → (with_stored b at over).registers.forced ≡ (with_stored a at over).registers.forced
  forced_again o f = forced_is b at over ∙ high_by _ _ (access_again o f) ∙ sym (forced_is a at over)
