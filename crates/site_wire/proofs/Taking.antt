-- How a half takes a datagram.
use Rattle.std.proofs.Common.{◌≡◌, ◌⊎◌, ℕ, ◌+◌, ◌-◌, ◌<◌, ◌≤◌, ◌&&◌, Bool, true, false, nat_lt, nat_le, List}
use Rattle.std.proofs.Common.{length, refl, ap, ◌∙◌, inl, inr, arith}
use Rattle.std.specs.Prelude.{◌==◌, if◌then◌else◌}
use Rattle.std.proofs.lemmas.Bool.{and_parts, leb-true, lt-ltb, lt-leb, eqb-true}
use Rattle.ecat_frame.specs.declared.Command.{Command}
use Rattle.ecat_frame.specs.declared.Command.TheVariants.{Fprd, Fpwr, Lrw, Other}
use Rattle.ecat_frame.specs.Command.{command_of}
use Rattle.ecat_frame.specs.Frame.{Pdu}
use Rattle.esc_model.specs.Bytes.{lies_in, station_of, register_of}
use Rattle.esc_model.specs.SlaveHalf.{SlaveHalf, Idle, is_busy, concerns, replied, passed_on, with_stored, begun, after_write, written, served}
use Rattle.site_wire.proofs.Validated.{validated, Needs}

pub true_or_false : (b : Bool) → (b ≡ true) ⊎ (b ≡ false)
true_or_false true = inl refl
true_or_false false = inr refl

-- WHETHER IT WRITES

-- a write for this station's EEPROM registers
pub writes_here : SlaveHalf → Command → ℕ → List ℕ → Bool
writes_here half Fprd address content = false
writes_here half Fpwr address content = concerns half address (length content)
writes_here half Lrw address content = false
writes_here half (Other code) address content = false

pub writes_same : (a b : SlaveHalf) (command : Command) (address : ℕ) (content : List ℕ) → b.station ≡ a.station
    → writes_here b command address content ≡ writes_here a command address content
unfolding writes_here
writes_same a b Fprd address content same = refl
writes_same a b Fpwr address content same = ap (λ (s : ℕ). station_of address == s && lies_in 0x0500 0x0510 (register_of address) (length content)) same
writes_same a b Lrw address content same = refl
writes_same a b (Other code) address content same = refl

pub writes_code : (half : SlaveHalf) (d : Pdu) → writes_here half (command_of d.command) d.address d.content ≡ true → d.command ≡ 5
unfolding writes_here
writes_code half d writes = eqb-true d.command 5 (by (d.command == 4) (d.command == 5) (d.command == 12) writes)
  where
    by : (reads is logical : Bool)
        → writes_here half (if reads then Fprd else if is then Fpwr else if logical then Lrw else Other d.command) d.address d.content ≡ true → is ≡ true
    by true is logical writes = absurd cc
    by false true logical writes = refl
    by false false true writes = absurd cc
    by false false false writes = absurd cc

writes_concerns : (half : SlaveHalf) (command : Command) (address : ℕ) (content : List ℕ) → writes_here half command address content ≡ true
    → concerns half address (length content) ≡ true
unfolding writes_here
writes_concerns half Fprd address content writes = absurd cc
writes_concerns half Fpwr address content writes = writes
writes_concerns half Lrw address content writes = absurd cc
writes_concerns half (Other code) address content writes = absurd cc

-- its place is one of the registers
pub writes_inside : (half : SlaveHalf) (command : Command) (address : ℕ) (content : List ℕ) → writes_here half command address content ≡ true
    → 0x0500 ≤ register_of address
writes_inside half command address content writes =
    let here = and_parts (station_of address == half.station) (lies_in 0x0500 0x0510 (register_of address) (length content))
    (writes_concerns half command address content writes) in
    let outer = and_parts (nat_lt 0 (length content) && nat_le 0x0500 (register_of address)) (nat_le (register_of address + length content) 0x0510) here.1 in
    leb-true 0x0500 (register_of address) (and_parts (nat_lt 0 (length content)) (nat_le 0x0500 (register_of address)) outer.0).1

-- any other datagram changes nothing
pub served_other : (half : SlaveHalf) (command : Command) (address : ℕ) (content : List ℕ) → writes_here half command address content ≡ false
    → (served half command address content).half ≡ half
unfolding served writes_here
served_other half Fprd address content other = by (concerns half address (length content))
  where
    by : (b : Bool) → (if b then replied half (register_of address - 0x0500) content else passed_on half content).half ≡ half
    by true = refl
    by false = refl
served_other half Fpwr address content other = rw other refl
served_other half Lrw address content other = refl
served_other half (Other code) address content other = refl

pub served_write : (half : SlaveHalf) (command : Command) (address : ℕ) (content : List ℕ) → writes_here half command address content ≡ true
    → (served half command address content).half ≡ (written half (register_of address - 0x0500) content).half
unfolding served writes_here
served_write half Fprd address content writes = absurd cc
served_write half Fpwr address content writes = rw writes refl
served_write half Lrw address content writes = absurd cc
served_write half (Other code) address content writes = absurd cc

-- what a write does
module _ (half : SlaveHalf) (at : ℕ) (over : List ℕ) where
  heard : (is_busy half.activity && nat_lt 2 (at + length over)) ≡ false → (written half at over).half ≡ after_write half at over
  heard e = ap (λ (b : Bool). (if b then passed_on half over else record { half = after_write half at over; content = over; added = 1 }).half) e

  pub validates : (nat_le at 2 && nat_le 4 (at + length over)) ≡ true → after_write half at over ≡ begun (validated half at over)
  validates e = ap (λ (b : Bool). if b then begun (validated half at over) else with_stored half at over) e

  pub stores : (nat_le at 2 && nat_le 4 (at + length over)) ≡ false → after_write half at over ≡ with_stored half at over
  stores e = ap (λ (b : Bool). if b then begun (validated half at over) else with_stored half at over) e

  pub written_quiet : at + length over ≤ 2 → (written half at over).half ≡ with_stored half at over
  written_quiet quiet =
      heard (never (is_busy half.activity) (nat_lt 2 (at + length over)) (lt-leb 3 (at + length over) (omega arith)))
      ∙ stores (never (nat_le at 2) (nat_le 4 (at + length over)) (lt-leb 4 (at + length over) (omega arith)))
    where
      never : (a b : Bool) → b ≡ false → (a && b) ≡ false
      never true b e = e
      never false b e = refl

  pub written_idle : half.activity ≡ Idle → (written half at over).half ≡ after_write half at over
  written_idle idle = heard (rw idle refl)

  pub written_ignored : is_busy half.activity ≡ true → 2 < at + length over → (written half at over).half ≡ half
  written_ignored busy past =
      let e : (is_busy half.activity && nat_lt 2 (at + length over)) ≡ true = rw (busy, lt-ltb 2 (at + length over) past) refl in
      ap (λ (b : Bool). (if b then passed_on half over else record { half = after_write half at over; content = over; added = 1 }).half) e

-- What covers control and status begins there, and has all that its command needs.
abbrev pub HasAll : (at : ℕ) → List ℕ → Type 0
HasAll at over = (nat_le at 2 && nat_le 4 (at + length over)) ≡ true → (at ≡ 2) × Needs over
