-- What a half does with a read, by its address.
use Rattle.std.proofs.Common.{◌≡◌, ◌⊎◌, ℕ, ◌-◌, ◌<◌, true, false, List, [], ◌∷◌, length, eq-eqb, refl, sym, ap, inl, inr, arith}
use Rattle.std.proofs.lemmas.Bool.Decides.{eqb_tells}
use Rattle.ecat_frame.specs.declared.command.Command.TheVariants.{Fprd, Fpwr}
use Rattle.esc_model.specs.Bytes.{lies_in, station_of, register_of}
use Rattle.esc_model.specs.SlaveHalf.{SlaveHalf, Outcome, served, concerns, replied, passed_on, written}
use Rattle.esc_model.specs.Datagrams.{served_datagram}
use Rattle.esc_model.specs.Orders.{station, address_of, poll_order, fetch_order}
use Rattle.esc_model.specs.WordAccess.{IsAt}

-- ADDRESSES

station_is : (slave register : ℕ) → slave < 64 → station_of (address_of slave register) ≡ station slave
station_is slave register near = omega arith

pub register_is : (slave register : ℕ) → slave < 64 → register_of (address_of slave register) ≡ register
register_is slave register near = omega arith

concerns-here : (half : SlaveHalf) (slave register count : ℕ) → slave < 64 → IsAt slave half → lies_in 0x0500 0x0510 register count ≡ true
    → concerns half (address_of slave register) count ≡ true
concerns-here half slave register count near here inside =
    rw (station_is slave register near, register_is slave register near, here, eq-eqb (station slave) (station slave) refl, inside) refl

concerns-elsewhere : (half : SlaveHalf) (slave register count : ℕ) → slave < 64 → (IsAt slave half → ⊥)
    → concerns half (address_of slave register) count ≡ false
concerns-elsewhere half slave register count near elsewhere =
    elim (eqb_tells (station slave) half.station) [
      | inl same ↦ absurd (elsewhere (sym same.1))
      | inr other ↦ rw (station_is slave register near, other.0) refl
    ]

pub here_or_elsewhere : (slave : ℕ) (half : SlaveHalf) → IsAt slave half ⊎ (IsAt slave half → ⊥)
here_or_elsewhere slave half = elim (eqb_tells half.station (station slave)) [ inl same ↦ inl same.1 | inr other ↦ inr other.1 ]

-- READS

module _ (half : SlaveHalf) (slave register : ℕ) (content : List ℕ) (near : slave < 64) where
  pub read_here : IsAt slave half → lies_in 0x0500 0x0510 register (length content) ≡ true
      → served half Fprd (address_of slave register) content ≡ replied half (register - 0x0500) content
  unfolding served
  read_here here inside = rw (concerns-here half slave register (length content) near here inside, register_is slave register near) refl

  pub read_elsewhere : (IsAt slave half → ⊥) → served half Fprd (address_of slave register) content ≡ passed_on half content
  unfolding served
  read_elsewhere elsewhere = rw (concerns-elsewhere half slave register (length content) near elsewhere) refl

  pub write_here : IsAt slave half → lies_in 0x0500 0x0510 register (length content) ≡ true
      → served half Fpwr (address_of slave register) content ≡ written half (register - 0x0500) content
  unfolding served
  write_here here inside = rw (concerns-here half slave register (length content) near here inside, register_is slave register near) refl

  pub write_elsewhere : (IsAt slave half → ⊥) → served half Fpwr (address_of slave register) content ≡ passed_on half content
  unfolding served
  write_elsewhere elsewhere = rw (concerns-elsewhere half slave register (length content) near elsewhere) refl

-- a poll
pub poll_here : (half : SlaveHalf) (slave : ℕ) → slave < 64 → IsAt slave half → served_datagram half (poll_order slave) ≡ replied half 2 (0 ∷ 0 ∷ [])
poll_here half slave near here = read_here half slave 0x0502 (0 ∷ 0 ∷ []) near here refl

pub poll_elsewhere : (half : SlaveHalf) (slave : ℕ) → slave < 64 → (IsAt slave half → ⊥) → served_datagram half (poll_order slave) ≡ passed_on half (0 ∷ 0 ∷ [])
poll_elsewhere half slave near elsewhere = read_elsewhere half slave 0x0502 (0 ∷ 0 ∷ []) near elsewhere

pub poll-same : (half : SlaveHalf) (slave : ℕ) → slave < 64 → (served_datagram half (poll_order slave)).half ≡ half
poll-same half slave near = elim (here_or_elsewhere slave half) [
  | inl here ↦ ap (λ (t : Outcome). t.half) (poll_here half slave near here)
  | inr elsewhere ↦ ap (λ (t : Outcome). t.half) (poll_elsewhere half slave near elsewhere)
]

-- the two words of content are asked for
pub fetch_here : (half : SlaveHalf) (slave : ℕ) → slave < 64 → IsAt slave half → served_datagram half (fetch_order slave) ≡ replied half 8 (0 ∷ 0 ∷ 0 ∷ 0 ∷ [])
fetch_here half slave near here = read_here half slave 0x0508 (0 ∷ 0 ∷ 0 ∷ 0 ∷ []) near here refl

pub fetch_elsewhere : (half : SlaveHalf) (slave : ℕ) → slave < 64 → (IsAt slave half → ⊥) → served_datagram half (fetch_order slave) ≡ passed_on half (0 ∷ 0 ∷ 0 ∷ 0 ∷ [])
fetch_elsewhere half slave near elsewhere = read_elsewhere half slave 0x0508 (0 ∷ 0 ∷ 0 ∷ 0 ∷ []) near elsewhere

pub fetch-same : (half : SlaveHalf) (slave : ℕ) → slave < 64 → (served_datagram half (fetch_order slave)).half ≡ half
fetch-same half slave near = elim (here_or_elsewhere slave half) [
  | inl here ↦ ap (λ (t : Outcome). t.half) (fetch_here half slave near here)
  | inr elsewhere ↦ ap (λ (t : Outcome). t.half) (fetch_elsewhere half slave near elsewhere)
]
