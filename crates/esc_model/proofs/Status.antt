-- What the byte 0x0503 shows of a half.
use Rattle.std.proofs.Common.{◌≡◌, ℕ, ◌+◌, ◌%◌, ◌<◌, ◌≤◌, ◌||◌, Bool, true, false, if◌then◌else◌, refl, ap, subst, arith}
use Rattle.esc_model.specs.Registers.{status_byte}
use Rattle.esc_model.specs.SlaveHalf.{SlaveHalf, Activity, Idle, Reading, Writing, is_busy}
use Rattle.esc_model.specs.WordAccess.{IsIdle, HasError, IsWell}

pub idle_not_busy : (activity : Activity) → is_busy activity ≡ false → activity ≡ Idle
idle_not_busy Idle is = refl
idle_not_busy Reading is = absurd cc
idle_not_busy (Writing word value) is = absurd cc

pub no_error : (a b : Bool) → a ≡ false → b ≡ false → (a || b) ≡ true → ⊥
no_error true b first second error = absurd cc
no_error false b first second error = absurd cc

not_busy : (low : ℕ) (busy : Bool) → low + (if busy then 0x80 else 0) < 0x80 → busy ≡ false
not_busy low true small = absurd (omega arith)
not_busy low false small = refl

no_command_error : (low enable busy : ℕ) (error : Bool) → low + (if error then 0x20 else 0) + enable + busy < 0x20 → error ≡ false
no_command_error low enable busy true small = absurd (omega arith)
no_command_error low enable busy false small = refl

no_enable_error : (low busy : ℕ) (error : Bool) → low + (if error then 0x40 else 0) + busy < 0x20 → error ≡ false
no_enable_error low busy true small = absurd (omega arith)
no_enable_error low busy false small = refl

idle_byte : (command : ℕ) (loading first second : Bool)
    → 0x80 ≤ command % 8 + (if loading then 0x18 else 0) + (if first then 0x20 else 0) + (if second then 0x40 else 0) + 0 → ⊥
idle_byte command true true true high = omega arith
idle_byte command true true false high = omega arith
idle_byte command true false true high = omega arith
idle_byte command true false false high = omega arith
idle_byte command false true true high = omega arith
idle_byte command false true false high = omega arith
idle_byte command false false true high = omega arith
idle_byte command false false false high = omega arith

error_byte : (command : ℕ) (loading first second : Bool)
    → 0x20 ≤ command % 8 + (if loading then 0x18 else 0) + (if first then 0x20 else 0) + (if second then 0x40 else 0) + 0 → (first || second) ≡ true
error_byte command loading true second high = refl
error_byte command loading false true high = refl
error_byte command true false false high = absurd (omega arith)
error_byte command false false false high = absurd (omega arith)

module _ (half : SlaveHalf) where
  pub shows_idle : status_byte half.registers (is_busy half.activity) < 0x80 → IsIdle half
  shows_idle small = idle_not_busy half.activity (not_busy _ (is_busy half.activity) small)

  pub shows_well : status_byte half.registers (is_busy half.activity) < 0x20 → IsWell half
  shows_well small = record {
    idle = shows_idle (omega arith);
    command_error = no_command_error _ _ _ half.registers.command_error small;
    enable_error = no_enable_error _ _ half.registers.enable_error small;
  }

  pub shows_busy : 0x80 ≤ status_byte half.registers (is_busy half.activity) → IsIdle half → ⊥
  shows_busy high idle =
      idle_byte half.registers.command half.registers.loading_error half.registers.command_error half.registers.enable_error
      (subst (λ (b : Bool). 0x80 ≤ status_byte half.registers b) (ap is_busy idle) high)

  pub shows_error : IsIdle half → 0x20 ≤ status_byte half.registers (is_busy half.activity) → HasError half
  shows_error idle high =
      error_byte half.registers.command half.registers.loading_error half.registers.command_error half.registers.enable_error
      (subst (λ (b : Bool). 0x20 ≤ status_byte half.registers b) (ap is_busy idle) high)
