-- What taking a datagram leaves of a half.
use Rattle.std.proofs.Common.{◌≡◌, ℕ, ◌+◌, ◌-◌, ◌<◌, ◌≤◌, ◌⊎◌, inl, inr, Bool, true, false, ◌&&◌, ◌||◌, List, length, refl, arith}
use Rattle.std.specs.Prelude.{◌==◌, nat_le, nat_lt}
use Rattle.std.proofs.lemmas.Bool.{cond_both, leb-true, ltb-false, and_parts}
use Rattle.ecat_frame.specs.declared.Command.{Command}
use Rattle.ecat_frame.specs.declared.Command.TheVariants.{Fprd, Fpwr, Lrw, Other}
use Rattle.esc_model.specs.Bytes.{register_of}
use Rattle.esc_model.specs.SlaveHalf.{SlaveHalf, Activity, Idle, Reading, Writing, is_busy, Outcome, concerns, with_command_errors, begun, with_stored, after_write, written, served}
use Rattle.esc_model.proofs.Status.{idle_not_busy}

-- What the half is doing goes on, or a command has begun: a read, or the write of the word that its registers name.
pub record Goes (half later : SlaveHalf) : Type 0 where
  pub words : later.words ≡ half.words
  pub station : later.station ≡ half.station
  pub activity : (later.activity ≡ half.activity) ⊎ ((half.activity ≡ Idle) × ((later.activity ≡ Reading) ⊎ (later.activity ≡ Writing later.registers.address later.registers.first)))

pub Goes-same : (half : SlaveHalf) → Goes half half
Goes-same half = record { words = refl; station = refl; activity = inl refl }

Goes-begun : (half : SlaveHalf) → half.activity ≡ Idle → Goes half (begun half)
Goes-begun half idle =
    cond_both (half.registers.command_error || half.registers.enable_error) _ _ (Goes half) (λ _. Goes-same half)
    (λ _. cond_both (half.registers.command == 1) _ _ (Goes half) (λ _. record { words = refl; station = refl; activity = inr (idle, inl refl) })
    (λ _. cond_both (half.registers.command == 2) _ _ (Goes half) (λ _. record { words = refl; station = refl; activity = inr (idle, inr refl) }) (λ _. Goes-same half)))

busy_from_heard : (busy : Bool) (end : ℕ) → (busy && nat_lt 2 end) ≡ false → 2 < end → busy ≡ false
busy_from_heard true end heard past = absurd (omega (arith, ltb-false 2 end heard))
busy_from_heard false end heard past = refl

Goes-after_write : (half : SlaveHalf) (at : ℕ) (content : List ℕ) → (is_busy half.activity && nat_lt 2 (at + length content)) ≡ false → Goes half (after_write half at content)
Goes-after_write half at content heard =
    cond_both (nat_le at 2 && nat_le 4 (at + length content)) _ _ (Goes half)
    (λ covers.
    let ends : 4 ≤ at + length content = leb-true 4 (at + length content) (and_parts (nat_le at 2) (nat_le 4 (at + length content)) covers).1 in
    let idle : half.activity ≡ Idle = idle_not_busy half.activity (busy_from_heard (is_busy half.activity) (at + length content) heard (omega arith)) in
    let goes = Goes-begun (with_command_errors (with_stored half at content)) idle in
    record { words = goes.words; station = goes.station; activity = goes.activity })
    (λ _. record { words = refl; station = refl; activity = inl refl })

Goes-written : (half : SlaveHalf) (at : ℕ) (content : List ℕ) → Goes half (written half at content).half
Goes-written half at content =
    cond_both (is_busy half.activity && nat_lt 2 (at + length content)) _ _ (λ (t : Outcome). Goes half t.half) (λ _. Goes-same half) (Goes-after_write half at content)

-- a datagram changes no word, and brings no word into flight but the one that its command names
pub Goes-served : (half : SlaveHalf) (command : Command) (address : ℕ) (content : List ℕ) → Goes half (served half command address content).half
unfolding served
Goes-served half Fprd address content =
    cond_both (concerns half address (length content)) _ _ (λ (t : Outcome). Goes half t.half) (λ _. Goes-same half) (λ _. Goes-same half)
Goes-served half Fpwr address content =
    cond_both (concerns half address (length content)) _ _ (λ (t : Outcome). Goes half t.half) (λ _. Goes-written half (register_of address - 0x0500) content) (λ _. Goes-same half)
Goes-served half Lrw address content = Goes-same half
Goes-served half (Other code) address content = Goes-same half
