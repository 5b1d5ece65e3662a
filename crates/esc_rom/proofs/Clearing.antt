-- What is left of a half's errors once it took the datagram that clears them.
use Rattle.std.proofs.Common.{◌≡◌, ◌⊎◌, ℕ, ◌<◌, ◌||◌, Bool, true, false, IsTrue, [], ◌∷◌, refl, sym, ap, subst, ◌∙◌, inl, inr, arith}
use Rattle.esc_model.specs.Registers.{access_byte}
use Rattle.esc_model.specs.SlaveHalf.{SlaveHalf, is_busy, begun, with_command_errors, with_stored}
use Rattle.esc_model.specs.Datagrams.{served_datagram, CountsDatagram}
use Rattle.esc_model.specs.Orders.{clear_order}
use Rattle.esc_model.specs.WordAccess.{IsAt, IsIdle, IsWell}
use Rattle.esc_model.proofs.Resting.{MayRest-idle, MayRest-station}
use Rattle.esc_model.proofs.Writing.{Writes, elsewhere, busy, done, true_or_false, control_writes, begun_refused, clear_refused}
use Rattle.site_core.specs.State.{Seen, clock}
use Rattle.esc_rom.specs.Past.{LosesDatagram}
use Rattle.esc_rom.specs.Runs.{Wrote}

-- the half once the command 000 is judged
abbrev validated : SlaveHalf → SlaveHalf
validated half = with_command_errors (with_stored half 2 (0 ∷ 0 ∷ []))

-- it begins nothing
validated_begun : (half : SlaveHalf) → begun (validated half) ≡ validated half
validated_begun half = elim (true_or_false ((validated half).registers.command_error || (validated half).registers.enable_error)) [
  | inl error ↦ begun_refused (validated half) error
  | inr well ↦ rw well refl
]

-- an EEPROM that isn't offered to the PDI is an error no more
validated_well : (half : SlaveHalf) → IsIdle half → IsWell (validated half) ⊎ IsTrue (validated half).registers.offered
validated_well half idle = elim (true_or_false (validated half).registers.offered) [
  | inl offered ↦ inr offered
  | inr vacant ↦ inl (record { idle = idle; command_error = rw vacant refl; enable_error = refl })
]

clear_leaves : (half : SlaveHalf) (slave : ℕ) → slave < 64 → IsIdle half → (served_datagram half (clear_order slave)).added ≡ 1
    → IsWell (served_datagram half (clear_order slave)).half ⊎ IsTrue (served_datagram half (clear_order slave)).half.registers.offered
clear_leaves half slave near idle counted = by (control_writes half slave (0 ∷ 0 ∷ []) near refl refl refl)
  where
    by : Writes half slave (is_busy half.activity ≡ false) (begun (validated half)) (served_datagram half (clear_order slave))
        → IsWell (served_datagram half (clear_order slave)).half ⊎ IsTrue (served_datagram half (clear_order slave)).half.registers.offered
    by (elsewhere not same none) = absurd (omega arith)
    by (busy b same none) = absurd (omega arith)
    by (done here b is one) = subst (λ (h : SlaveHalf). IsWell h ⊎ IsTrue h.registers.offered) (sym (is ∙ validated_begun half)) (validated_well half idle)

-- what an idle half is once it counted the datagram
pub clear_counted : (slave : ℕ) → slave < 64 → (half later : SlaveHalf) → IsIdle half → CountsDatagram (clear_order slave) half later → IsWell later ⊎ IsTrue later.registers.offered
clear_counted slave near half later idle counts =
    subst (λ (h : SlaveHalf). IsWell h ⊎ IsTrue h.registers.offered) (sym counts.is)
    (clear_leaves counts.rested slave near (ap (λ (h : SlaveHalf). h.activity) (MayRest-idle half counts.rested idle counts.rests) ∙ idle) counts.counted)

-- it isn't offered to the PDI where 0x0500 is 0
pub clear_well : (later : SlaveHalf) → access_byte later.registers ≡ 0 → IsWell later ⊎ IsTrue later.registers.offered → IsWell later
clear_well later zero (inl well) = well
clear_well later zero (inr offered) = absurd (let one = rw offered at zero in omega arith)

-- an idle half at the station took the datagram, or its frame was lost
pub clears_errors : (slave : ℕ) → slave < 64 → (b c : Seen) (value : Bool) (half later : SlaveHalf) → IsAt slave half → IsIdle half → Wrote (clear_order slave) b c value half later
    → LosesDatagram (clear_order slave) c (clock b) half later ⊎ (CountsDatagram (clear_order slave) half later × (IsWell later ⊎ IsTrue later.registers.offered))
clears_errors slave near b c true half later at idle counts = inr (counts, clear_counted slave near half later idle counts)
clears_errors slave near b c false half later at idle (inl lost) = inl (lost.1, lost.2)
clears_errors slave near b c false half later at idle (inr refuses) = absurd (
    clear_refused refuses.rested slave near (ap (λ (h : SlaveHalf). h.activity) (MayRest-idle half refuses.rested idle refuses.rests) ∙ idle) refuses.refused
    (MayRest-station half refuses.rested refuses.rests ∙ at)
    )
