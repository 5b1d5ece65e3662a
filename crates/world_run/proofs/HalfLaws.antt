-- What a datagram makes of an idle half.
use Rattle.std.proofs.Common.{◌≡◌, inl, inr, ℕ, ◌^◌, ◌<◌, ◌≤◌, [], ◌∷◌, slice_index, nat_lt, IsTrue, refl, ap, subst, arith}
use Rattle.std.specs.Prelude.{◌↔◌}
use Rattle.std.proofs.lemmas.Bool.Decides.{nat_tests, leb_tells}
use Rattle.esc_model.specs.Registers.{status_byte}
use Rattle.esc_model.specs.SlaveHalf.{SlaveHalf, Outcome, is_busy}
use Rattle.esc_model.specs.Datagrams.{served_datagram}
use Rattle.esc_model.specs.Orders.{write_order, poll_order}
use Rattle.esc_model.specs.WordAccess.{IsAt, IsIdle, IsWell, TakesWord}
use Rattle.esc_model.proofs.Addressing.{read_here}
use Rattle.esc_model.proofs.Status.{no_error, shows_well, shows_error}
use Rattle.esc_model.proofs.WordTaking.{Issues, passed, has, word_issues}

-- an idle half at its station takes a word
pub takes-word : (slave word value : ℕ) (half : SlaveHalf) → slave < 64 → word < 2 ^ 16 → value < 2 ^ 16 → IsAt slave half → IsIdle half
    → TakesWord slave word value half (served_datagram half (write_order slave word value)).half
takes-word slave word value half near word_fits value_fits here idle = by (word_issues slave word value half half near word_fits value_fits (inl refl))
  where
    by : Issues slave word value half half → TakesWord slave word value half (served_datagram half (write_order slave word value)).half
    by (has takes one) = takes
    by (passed same none (inl busy)) = absurd (busy idle)
    by (passed same none (inr elsewhere)) = absurd (elsewhere here)

-- what a poll gives of it
abbrev pub polled : SlaveHalf → ℕ → Outcome
polled half slave = served_datagram half (poll_order slave)

pub polls : (slave : ℕ) (half : SlaveHalf) → slave < 64 → IsAt slave half → ((polled half slave).half ≡ half) × (slice_index (polled half slave).content 1 ≡ status_byte half.registers (is_busy half.activity))
polls slave half near here =
    let e = read_here half slave 0x0502 (0 ∷ 0 ∷ []) near here refl in
    (ap (λ (o : Outcome). o.half) e, ap (λ (o : Outcome). slice_index o.content 1) e)

pub shows-well : (half : SlaveHalf) (byte : ℕ) → IsIdle half → byte ≡ status_byte half.registers (is_busy half.activity) → IsTrue (nat_lt byte 0x20) ↔ IsWell half
shows-well half byte idle is = (there, back)
  where
    there : IsTrue (nat_lt byte 0x20) → IsWell half
    there low = shows_well half (subst (λ (b : ℕ). b < 0x20) is (grind (arith, nat_tests)))

    back : IsWell half → IsTrue (nat_lt byte 0x20)
    back well = elim (leb_tells 0x20 byte) [
      | inl high ↦ absurd (no_error half.registers.command_error half.registers.enable_error well.command_error well.enable_error
          (shows_error half idle (subst (λ (b : ℕ). 0x20 ≤ b) is high.1)))
      | inr low ↦ (let fact : byte < 0x20 = low.1 in grind (arith, nat_tests))
    ]
