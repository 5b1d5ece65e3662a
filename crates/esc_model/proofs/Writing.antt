-- What a write to its registers does to a half.
use Rattle.std.proofs.Common.{◌≡◌, ◌⊎◌, ℕ, ◌+◌, ◌%◌, ◌<◌, ◌||◌, ◌&&◌, Bool, true, false, nat_le, nat_lt, List, [], ◌∷◌, length, refl, sym, ap, subst, ◌∙◌, inl, inr, arith, ◌/◌}
use Rattle.std.specs.Prelude.{◌==◌, if◌then◌else◌}
use Rattle.std.proofs.lemmas.Bool.Decides.{nat_tests}
use Rattle.ecat_frame.specs.Frame.{sent}
use Rattle.ecat_frame.specs.declared.command.Command.TheVariants.{Fpwr}
use Rattle.esc_model.specs.Bytes.{lies_in}
use Rattle.esc_model.specs.SlaveHalf.{SlaveHalf, Outcome, is_busy, in_flight, passed_on, written, after_write, begun, with_command_errors, with_stored, fetching, writing}
use Rattle.esc_model.specs.Registers.{access_byte}
use Rattle.esc_model.specs.Datagrams.{served_datagram}
use Rattle.esc_model.specs.Orders.{address_of, access_order, clear_order}
use Rattle.esc_model.specs.WordAccess.{IsAt, IsIdle, OnlyRests, IsGentle}
use Rattle.esc_model.proofs.Addressing.{here_or_elsewhere, write_here, write_elsewhere}

-- The half passed a write on, being at another station or busy, or it took it, where it may, and is this afterwards.
pub data Writes (half : SlaveHalf) (slave : ℕ) (may : Type 0) (after : SlaveHalf) (t : Outcome) : Type 0 where
  elsewhere : (IsAt slave half → ⊥) → t.half ≡ half → t.added ≡ 0 → Writes half slave may after t
  busy : is_busy half.activity ≡ true → t.half ≡ half → t.added ≡ 0 → Writes half slave may after t
  done : IsAt slave half → may → t.half ≡ after → t.added ≡ 1 → Writes half slave may after t

pub true_or_false : (b : Bool) → (b ≡ true) ⊎ (b ≡ false)
true_or_false true = inl refl
true_or_false false = inr refl

module _ (half : SlaveHalf) (content : List ℕ) where
  written_busy : is_busy half.activity ≡ true → nat_lt 2 (2 + length content) ≡ true → written half 2 content ≡ passed_on half content
  written_busy b touches = rw (b, touches) (refl {a = passed_on half content})

  abbrev counted : Outcome
  counted = record { half = begun (with_command_errors (with_stored half 2 content)); content = content; added = 1 }

  written_free : is_busy half.activity ≡ false → nat_le 4 (2 + length content) ≡ true → written half 2 content ≡ counted
  written_free vacant covers =
      let e : (is_busy half.activity && nat_lt 2 (2 + length content)) ≡ false = rw vacant refl in
      ap (λ (b : Bool). if b then passed_on half content else record { half = after_write half 2 content; content = content; added = 1 }) e
      ∙ ap (λ (b : Bool). record { half = if b then begun (with_command_errors (with_stored half 2 content)) else with_stored half 2 content; content = content; added = 1 }) covers

-- a write of control and status, and perhaps of what is after them
pub control_writes : (half : SlaveHalf) (slave : ℕ) (content : List ℕ) → slave < 64
    → lies_in 0x0500 0x0510 0x0502 (length content) ≡ true → nat_lt 2 (2 + length content) ≡ true → nat_le 4 (2 + length content) ≡ true
    → Writes half slave (is_busy half.activity ≡ false) (begun (with_command_errors (with_stored half 2 content))) (served_datagram half (sent Fpwr 0 (address_of slave 0x0502) content))
control_writes half slave content near inside touches covers = elim (here_or_elsewhere slave half) [
  | inr not ↦
      let e = write_elsewhere half slave 0x0502 content near not in
      elsewhere not (ap (λ (t : Outcome). t.half) e) (ap (λ (t : Outcome). t.added) e)
  | inl here ↦
      let e = write_here half slave 0x0502 content near here inside in
      elim (true_or_false (is_busy half.activity)) [
        | inl b ↦
            let is = written_busy half content b touches in
            busy b (ap (λ (t : Outcome). t.half) (e ∙ is)) (ap (λ (t : Outcome). t.added) (e ∙ is))
        | inr b ↦
            let is = written_free half content b covers in
            done here b (ap (λ (t : Outcome). t.half) (e ∙ is)) (ap (λ (t : Outcome). t.added) (e ∙ is))
      ]
]

-- the byte that says who has access is written also while the half is busy
access_written : (half : SlaveHalf) (value : ℕ) → written half 0 (value ∷ []) ≡ record { half = with_stored half 0 (value ∷ []); content = value ∷ []; added = 1 }
access_written half value = elim (true_or_false (is_busy half.activity)) [ inl b ↦ rw b refl | inr b ↦ rw b refl ]

-- a write of the byte that says who has access
pub access_writes : (half : SlaveHalf) (slave value : ℕ) → slave < 64
    → Writes half slave (Unit {0}) (with_stored half 0 (value ∷ [])) (served_datagram half (access_order slave value))
access_writes half slave value near = elim (here_or_elsewhere slave half) [
  | inr not ↦
      let e = write_elsewhere half slave 0x0500 (value ∷ []) near not in
      elsewhere not (ap (λ (t : Outcome). t.half) e) (ap (λ (t : Outcome). t.added) e)
  | inl here ↦
      let e = write_here half slave 0x0500 (value ∷ []) near here refl in
      let is = access_written half value in
      done here tt (ap (λ (t : Outcome). t.half) (e ∙ is)) (ap (λ (t : Outcome). t.added) (e ∙ is))
]

-- what a command begins, once it is judged
pub begun_refused : (half : SlaveHalf) → (half.registers.command_error || half.registers.enable_error) ≡ true → begun half ≡ half
begun_refused half error = rw error refl

begun_idle : (half : SlaveHalf) → half.registers.command ≡ 0 → begun half ≡ half
begun_idle half none = elim (true_or_false (half.registers.command_error || half.registers.enable_error)) [
  | inl error ↦ begun_refused half error
  | inr well ↦ rw (well, none) refl
]

pub begun_read : (half : SlaveHalf) → (half.registers.command_error || half.registers.enable_error) ≡ false → half.registers.command ≡ 1 → begun half ≡ fetching half
begun_read half well read = rw (well, read) refl

pub begun_write : (half : SlaveHalf) → (half.registers.command_error || half.registers.enable_error) ≡ false → half.registers.command ≡ 2 → begun half ≡ writing half
begun_write half well write = rw (well, write) refl

-- CLEARING

clear_writes : (half : SlaveHalf) (slave : ℕ) → slave < 64 → Writes half slave (is_busy half.activity ≡ false) (with_command_errors (with_stored half 2 (0 ∷ 0 ∷ []))) (served_datagram half (clear_order slave))
clear_writes half slave near =
    subst (λ (h : SlaveHalf). Writes half slave (is_busy half.activity ≡ false) h (served_datagram half (clear_order slave))) (begun_idle (with_command_errors (with_stored half 2 (0 ∷ 0 ∷ []))) refl)
    (control_writes half slave (0 ∷ 0 ∷ []) near refl refl refl)

-- What a write that changes only registers keeps: words, station, activity and, where it is 0, the access byte.
pub record OnlyRegisters (half later : SlaveHalf) : Type 0 where
  pub words : later.words ≡ half.words
  pub station : later.station ≡ half.station
  pub activity : later.activity ≡ half.activity

OnlyRegisters-same : (half later : SlaveHalf) → later ≡ half → OnlyRegisters half later
OnlyRegisters-same half later same = record {
  words = ap (λ (h : SlaveHalf). h.words) same;
  station = ap (λ (h : SlaveHalf). h.station) same;
  activity = ap (λ (h : SlaveHalf). h.activity) same;
}

pub OnlyRegisters-rests : (half later : SlaveHalf) → OnlyRegisters half later → OnlyRests half later
OnlyRegisters-rests half later only = record { station = only.station; words = inl (only.words, ap in_flight only.activity) }

-- by the cases of a write
writes_registers : (half : SlaveHalf) (slave : ℕ) (may : Type 0) (after : SlaveHalf) (t : Outcome) → OnlyRegisters half after → Writes half slave may after t → OnlyRegisters half t.half
writes_registers half slave may after t only (elsewhere not same none) = OnlyRegisters-same half t.half same
writes_registers half slave may after t only (busy b same none) = OnlyRegisters-same half t.half same
writes_registers half slave may after t only (done here b is one) = subst (λ (h : SlaveHalf). OnlyRegisters half h) (sym is) only

pub clear_only : (half : SlaveHalf) (slave : ℕ) → slave < 64 → OnlyRegisters half (served_datagram half (clear_order slave)).half
clear_only half slave near =
    writes_registers half slave (is_busy half.activity ≡ false) (with_command_errors (with_stored half 2 (0 ∷ 0 ∷ []))) (served_datagram half (clear_order slave)) (record { words = refl; station = refl; activity = refl }) (clear_writes half slave near)

pub clear_gentle : (slave : ℕ) → slave < 64 → IsGentle (clear_order slave)
clear_gentle slave near half = OnlyRegisters-rests half (served_datagram half (clear_order slave)).half (clear_only half slave near)

-- bits 0 and 1 of a byte, which the registers keep of the access byte
abbrev kept_bits : ℕ → ℕ
kept_bits n = (if n % 2 == 1 then 1 else 0) + (if n / 2 % 2 == 1 then 2 else 0)

kept_bits-mod : (n : ℕ) → kept_bits n ≡ n % 4
kept_bits-mod n = grind (arith, nat_tests)

-- an access byte of 0 stays
pub clear_access : (half : SlaveHalf) (slave : ℕ) → slave < 64 → access_byte half.registers ≡ 0 → access_byte (served_datagram half (clear_order slave)).half.registers ≡ 0
clear_access half slave near zero = by (clear_writes half slave near)
  where
    by : Writes half slave (is_busy half.activity ≡ false) (with_command_errors (with_stored half 2 (0 ∷ 0 ∷ []))) (served_datagram half (clear_order slave)) → access_byte (served_datagram half (clear_order slave)).half.registers ≡ 0
    by (elsewhere not same none) = ap (λ (h : SlaveHalf). access_byte h.registers) same ∙ zero
    by (busy b same none) = ap (λ (h : SlaveHalf). access_byte h.registers) same ∙ zero
    by (done here b is one) = ap (λ (h : SlaveHalf). access_byte h.registers) is ∙ ap kept_bits zero

-- an idle half at the station takes it
pub clear_refused : (half : SlaveHalf) (slave : ℕ) → slave < 64 → IsIdle half → (served_datagram half (clear_order slave)).added ≡ 0 → IsAt slave half → ⊥
clear_refused half slave near idle refused here = by (clear_writes half slave near)
  where
    by : Writes half slave (is_busy half.activity ≡ false) (with_command_errors (with_stored half 2 (0 ∷ 0 ∷ []))) (served_datagram half (clear_order slave)) → ⊥
    by (elsewhere not same none) = not here
    by (busy b same none) = let e : is_busy half.activity ≡ false = ap is_busy idle in absurd cc
    by (done _ b is one) = absurd (omega arith)

-- ACCESS

pub access_only : (half : SlaveHalf) (slave value : ℕ) → slave < 64 → OnlyRegisters half (served_datagram half (access_order slave value)).half
access_only half slave value near =
    writes_registers half slave (Unit {0}) (with_stored half 0 (value ∷ [])) (served_datagram half (access_order slave value)) (record { words = refl; station = refl; activity = refl }) (access_writes half slave value near)

pub access_gentle : (slave value : ℕ) → slave < 64 → IsGentle (access_order slave value)
access_gentle slave value near half = OnlyRegisters-rests half (served_datagram half (access_order slave value)).half (access_only half slave value near)

-- once it is taken the byte is there
pub access_taken : (half : SlaveHalf) (slave value : ℕ) → slave < 64 → (served_datagram half (access_order slave value)).added ≡ 1
    → access_byte (served_datagram half (access_order slave value)).half.registers ≡ value % 4
access_taken half slave value near served = by (access_writes half slave value near)
  where
    by : Writes half slave (Unit {0}) (with_stored half 0 (value ∷ [])) (served_datagram half (access_order slave value)) → access_byte (served_datagram half (access_order slave value)).half.registers ≡ value % 4
    by (elsewhere not same none) = absurd (omega arith)
    by (busy b same none) = absurd (omega arith)
    by (done here b is one) = ap (λ (h : SlaveHalf). access_byte h.registers) is ∙ kept_bits-mod value

-- a half at the station takes it, busy or not
pub access_refused : (half : SlaveHalf) (slave value : ℕ) → slave < 64 → (served_datagram half (access_order slave value)).added ≡ 0 → IsAt slave half → ⊥
access_refused half slave value near refused here =
    let e : (served_datagram half (access_order slave value)).added ≡ 1 =
    ap (λ (t : Outcome). t.added) (write_here half slave 0x0500 (value ∷ []) near here refl ∙ access_written half value) in
    absurd (omega arith)
