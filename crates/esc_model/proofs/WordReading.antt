-- What the command to read two words does to a half.
use Rattle.std.proofs.Common.{◌≡◌, ◌⊎◌, ℕ, ◌+◌, ◌^◌, ◌<◌, ◌||◌, true, false, ◌++◌, None, slice_index, refl, sym, ap, subst, ◌∙◌, inl, inr, arith}
use Rattle.std.specs.Int.{w16, w32, to_le_bytes}
use Rattle.esc_model.specs.SlaveHalf.{SlaveHalf, Reading, is_busy, in_flight, begun, with_command_errors, with_stored}
use Rattle.esc_model.specs.Datagrams.{served_datagram}
use Rattle.esc_model.specs.Orders.{read_order}
use Rattle.esc_model.specs.WordAccess.{IsAt, IsIdle, HasError, OnlyRests, IsGentle}
use Rattle.esc_model.proofs.OnlyResting.{OnlyRests-same}
use Rattle.esc_model.proofs.Status.{idle_not_busy}
use Rattle.esc_model.proofs.Writing.{Writes, elsewhere, busy, done, control_writes, begun_refused, begun_read, true_or_false}
use Rattle.esc_model.proofs.WordTaking.{number_back, or_first}

-- An idle half that took the command to read: it is fetching the two words, or it refused, with bit 13 or 14 set.
pub record IsAsked (word : ℕ) (half later : SlaveHalf) : Type 0 where
  pub words : later.words ≡ half.words
  pub station : later.station ≡ half.station
  pub reads : (IsIdle later × HasError later)
      ⊎ ((later.activity ≡ Reading) × (later.registers.first ≡ slice_index half.words word) × (later.registers.second ≡ slice_index half.words (word + 1)))

module _ (half : SlaveHalf) (word : ℕ) (word_fits : word < 2 ^ 16) where
  abbrev asked : SlaveHalf
  asked = with_command_errors (with_stored half 2 (to_le_bytes w16 0x0100 ++ to_le_bytes w32 word))

  asked_address : asked.registers.address ≡ word
  asked_address = number_back word word_fits

  pub asked_idle : IsIdle half → IsAsked word half (begun asked)
  asked_idle idle = elim (true_or_false asked.registers.command_error) [
    | inl error ↦
        let either : (asked.registers.command_error || asked.registers.enable_error) ≡ true = or_first asked.registers.command_error asked.registers.enable_error error in
        subst (λ (h : SlaveHalf). IsAsked word half h) (sym (begun_refused asked either)) (record { words = refl; station = refl; reads = inl (idle, either) })
    | inr fine ↦
        let neither : (asked.registers.command_error || asked.registers.enable_error) ≡ false = rw fine refl in
        subst (λ (h : SlaveHalf). IsAsked word half h) (sym (begun_read asked neither refl)) (record {
          words = refl;
          station = refl;
          reads = inr (refl, ap (λ (a : ℕ). slice_index half.words a) asked_address, ap (λ (a : ℕ). slice_index half.words (a + 1)) asked_address);
        })
  ]

read_writes : (half : SlaveHalf) (slave word : ℕ) → slave < 64
    → Writes half slave (is_busy half.activity ≡ false) (begun (with_command_errors (with_stored half 2 (to_le_bytes w16 0x0100 ++ to_le_bytes w32 word)))) (served_datagram half (read_order slave word))
read_writes half slave word near = control_writes half slave (to_le_bytes w16 0x0100 ++ to_le_bytes w32 word) near refl refl refl

asked_only : (word : ℕ) (half later : SlaveHalf) → IsIdle half → IsAsked word half later → OnlyRests half later
asked_only word half later idle a = record { station = a.station; words = inl (a.words, flight a.reads) }
  where
    none : in_flight half.activity ≡ None
    none = ap in_flight idle

    flight : (IsIdle later × HasError later) ⊎ ((later.activity ≡ Reading) × (later.registers.first ≡ slice_index half.words word) × (later.registers.second ≡ slice_index half.words (word + 1)))
        → in_flight later.activity ≡ in_flight half.activity
    flight (inl refused) = ap in_flight refused.0 ∙ sym none
    flight (inr reads) = ap in_flight reads.0 ∙ sym none

pub read_gentle : (slave word : ℕ) → slave < 64 → word < 2 ^ 16 → IsGentle (read_order slave word)
read_gentle slave word near word_fits half = by (read_writes half slave word near)
  where
    by : Writes half slave (is_busy half.activity ≡ false) (begun (with_command_errors (with_stored half 2 (to_le_bytes w16 0x0100 ++ to_le_bytes w32 word)))) (served_datagram half (read_order slave word))
        → OnlyRests half (served_datagram half (read_order slave word)).half
    by (elsewhere not same none) = subst (λ (h : SlaveHalf). OnlyRests half h) (sym same) (OnlyRests-same half)
    by (busy b same none) = subst (λ (h : SlaveHalf). OnlyRests half h) (sym same) (OnlyRests-same half)
    by (done here b is one) =
        let idle : IsIdle half = idle_not_busy half.activity b in
        subst (λ (h : SlaveHalf). OnlyRests half h) (sym is) (asked_only word half _ idle (asked_idle half word word_fits idle))

-- one that counted the command was idle, and has taken it
pub read_taken : (half : SlaveHalf) (slave word : ℕ) → slave < 64 → word < 2 ^ 16 → (served_datagram half (read_order slave word)).added ≡ 1
    → IsIdle half × IsAsked word half (served_datagram half (read_order slave word)).half
read_taken half slave word near word_fits counted = by (read_writes half slave word near)
  where
    by : Writes half slave (is_busy half.activity ≡ false) (begun (with_command_errors (with_stored half 2 (to_le_bytes w16 0x0100 ++ to_le_bytes w32 word)))) (served_datagram half (read_order slave word))
        → IsIdle half × IsAsked word half (served_datagram half (read_order slave word)).half
    by (elsewhere not same none) = absurd (omega arith)
    by (busy b same none) = absurd (omega arith)
    by (done here b is one) =
        let idle : IsIdle half = idle_not_busy half.activity b in
        (idle, subst (λ (h : SlaveHalf). IsAsked word half h) (sym is) (asked_idle half word word_fits idle))

-- one that didn't count it stays as it is, and is at another station, or busy
pub read_refused : (half : SlaveHalf) (slave word : ℕ) → slave < 64 → (served_datagram half (read_order slave word)).added ≡ 0
    → ((served_datagram half (read_order slave word)).half ≡ half) × ((IsAt slave half → ⊥) ⊎ (is_busy half.activity ≡ true))
read_refused half slave word near refused = by (read_writes half slave word near)
  where
    by : Writes half slave (is_busy half.activity ≡ false) (begun (with_command_errors (with_stored half 2 (to_le_bytes w16 0x0100 ++ to_le_bytes w32 word)))) (served_datagram half (read_order slave word))
        → ((served_datagram half (read_order slave word)).half ≡ half) × ((IsAt slave half → ⊥) ⊎ (is_busy half.activity ≡ true))
    by (elsewhere not same none) = (same, inl not)
    by (busy b same none) = (same, inr b)
    by (done here b is one) = absurd (omega arith)
