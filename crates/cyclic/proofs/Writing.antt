-- Datagrams that write to the registers of one slave, and what they do to a process half.
use Rattle.std.proofs.Common.{◌≡◌, ◌≢◌, ◌⊎◌, ℕ, ◌+◌, ◌-◌, ◌*◌, ◌<◌, ◌≤◌, ◌==◌, Bool, true, false, ◌&&◌, cond, List, [], ◌∷◌, ◌++◌, length, take, drop, get_or, refl, sym, ap, subst, ◌∙◌, inl, inr, arith, length-append, length-drop}
use Rattle.std.specs.List.{AllByRecursion, enumerate_from, flat_map}
use Rattle.std.proofs.lemmas.List.{length-take, get_or-take, get_or-drop, get_or-append_right, get_or_append_left}
use Rattle.std.proofs.lemmas.List.{ext_get_or}
use Rattle.std.proofs.lemmas.Bool.{ne_eqb}
use Rattle.std.proofs.lemmas.Bool.Decides.{nat_tests, leb_tells}
use Rattle.std.proofs.lemmas.Bool.{and_parts}
use Rattle.ecat_frame.specs.Frame.{Pdu}
use Rattle.ecat_frame.specs.Command.{command_of}
use Rattle.esc_model.specs.Bytes.{overlaid, station_of, register_of}
use Rattle.esc_model.specs.Orders.{address_of, station}
use Rattle.esc_model.specs.ProcessHalf.{ProcessMemory, processed, is_writable, passed_on}
use Rattle.sii_image.specs.declared.process_image.Segment.{Segment}
use Rattle.cyclic.specs.Configuration.{segment_orders, slave_orders}
use Rattle.cyclic.specs.Laws.{after_one, after}

-- ---- For one slave.

-- a write for the slave at this place
pub record IsWriteTo (slave : ℕ) (order : Pdu) : Type 0 where
  pub command : order.command ≡ 5
  pub station_is : station_of order.address ≡ 0x1001 + slave

station_holds : (slave register : ℕ) → slave < 64 → station_of (address_of slave register) ≡ 0x1001 + slave
station_holds slave register near = omega arith

mapped_to : (slave : ℕ) → slave < 64 → (pairs : List (ℕ × Segment)) → AllByRecursion (IsWriteTo slave) (flat_map (segment_orders slave) pairs)
mapped_to slave near [] = tt
mapped_to slave near (p ∷ pairs) = (
  record { command = refl; station_is = station_holds slave (0x0800 + 8 * p.1.manager) near },
  (record { command = refl; station_is = station_holds slave (0x0600 + 16 * p.0) near }, mapped_to slave near pairs),
)

pub orders_to : (slave : ℕ) (segments : List Segment) → slave < 64 → AllByRecursion (IsWriteTo slave) (slave_orders segments slave)
orders_to slave segments near = (record { command = refl; station_is = station_holds slave 0x0600 near }, mapped_to slave near (enumerate_from 0 (take 8 _)))

-- ---- One write.

-- whether a half of this station takes it
takes : ℕ → Pdu → Bool
takes at order = station_of order.address == at && is_writable (register_of order.address) (length order.content)

with_order : ProcessMemory → Pdu → Bool → ProcessMemory
with_order half order b = cond b (record half { bytes = overlaid half.bytes (register_of order.address) order.content }) half

memory_of : (b : Bool) (half over : ProcessMemory) (content : List ℕ)
    → (cond b (record { memory = over; content = content; added = 1 }) (passed_on half content)).memory ≡ cond b over half
memory_of true half over content = refl
memory_of false half over content = refl

after_write : (half : ProcessMemory) (order : Pdu) → order.command ≡ 5 → after_one half order ≡ with_order half order (takes half.station order)
unfolding takes with_order processed
after_write half order is =
    ap (λ n. (processed half (command_of n) order.address order.content).memory) is
    ∙ memory_of (takes half.station order) half (record half { bytes = overlaid half.bytes (register_of order.address) order.content }) order.content

le_or_lt : (a b : ℕ) → (a ≤ b) ⊎ (b < a)
le_or_lt a b = elim (leb_tells a b) [ inl low ↦ inl low.1 | inr high ↦ inr high.1 ]

-- a half of this station
pub record IsHalf (at : ℕ) (half : ProcessMemory) : Type 0 where
  pub station_is : half.station ≡ at
  pub length_is : length half.bytes ≡ 65536

inside_end : (start count : ℕ) → is_writable start count ≡ true → start + count ≤ 65536
inside_end start count is = grind (arith, nat_tests)

taken_inside : (at : ℕ) (order : Pdu) → takes at order ≡ true → register_of order.address + length order.content ≤ 65536
unfolding takes
taken_inside at order is = inside_end (register_of order.address) (length order.content) ((and_parts (station_of order.address == at) _ is).1)

length-overlaid : (bytes over : List ℕ) (at : ℕ) → at + length over ≤ length bytes → length (overlaid bytes at over) ≡ length bytes
length-overlaid bytes over at inside =
    simp (length-append, length-take, length-drop) (omega arith)

-- ---- What a byte is after a write.

below_it : (bytes over : List ℕ) (at i : ℕ) → at + length over ≤ length bytes → i < at → get_or (overlaid bytes at over) i 0 ≡ get_or bytes i 0
below_it bytes over at i inside low =
    let first : i < length (take at bytes) = omega (arith, length-take at bytes) in
    let both : i < length (take at bytes ++ over) = omega (arith, length-append (take at bytes) over) in
    get_or_append_left (take at bytes ++ over) (drop (at + length over) bytes) 0 i both ∙ get_or_append_left (take at bytes) over 0 i first ∙ get_or-take at bytes i 0 low

within_it : (bytes over : List ℕ) (at i : ℕ) → at + length over ≤ length bytes → at ≤ i → i < at + length over → get_or (overlaid bytes at over) i 0 ≡ get_or over (i - at) 0
within_it bytes over at i inside low high =
    let count : length (take at bytes) ≡ at = omega (arith, length-take at bytes) in
    let both : i < length (take at bytes ++ over) = omega (arith, length-append (take at bytes) over) in
    get_or_append_left (take at bytes ++ over) (drop (at + length over) bytes) 0 i both ∙ get_or-append_right (take at bytes) over at i 0 count low

after_it : (bytes over : List ℕ) (at i : ℕ) → at + length over ≤ length bytes → at + length over ≤ i → get_or (overlaid bytes at over) i 0 ≡ get_or bytes i 0
after_it bytes over at i inside high =
    let count : length (take at bytes ++ over) ≡ at + length over = omega (arith, length-append (take at bytes) over, length-take at bytes) in
    let place : (at + length over) + (i - (at + length over)) ≡ i = omega arith in
    get_or-append_right (take at bytes ++ over) (drop (at + length over) bytes) (at + length over) i 0 count high
    ∙ get_or-drop (at + length over) bytes (i - (at + length over)) 0 ∙ ap (λ k. get_or bytes k 0) place

-- ---- A write leaves a half of its station and length.

with_order-half : (at : ℕ) (half : ProcessMemory) (order : Pdu) (b : Bool) → takes at order ≡ b → IsHalf at half → IsHalf at (with_order half order b)
unfolding with_order
with_order-half at half order false not is = is
with_order-half at half order true taken is =
    let end : register_of order.address + length order.content ≤ 65536 = taken_inside at order taken in
    let count : length half.bytes ≡ 65536 = is.length_is in
    record { station_is = is.station_is; length_is = length-overlaid half.bytes order.content (register_of order.address) (omega arith) ∙ is.length_is }

after_one_is : (at : ℕ) (half : ProcessMemory) (order : Pdu) → order.command ≡ 5 → IsHalf at half → after_one half order ≡ with_order half order (takes at order)
after_one_is at half order command is = after_write half order command ∙ ap (λ t. with_order half order (takes t order)) is.station_is

after_one-half : (at : ℕ) (half : ProcessMemory) (order : Pdu) → order.command ≡ 5 → IsHalf at half → IsHalf at (after_one half order)
after_one-half at half order command is =
    subst (λ (h : ProcessMemory). IsHalf at h) (sym (after_one_is at half order command is)) (with_order-half at half order (takes at order) refl is)

pub after-half : (at slave : ℕ) (orders : List Pdu) (half : ProcessMemory) → AllByRecursion (IsWriteTo slave) orders → IsHalf at half → IsHalf at (after half orders)
after-half at slave [] half all is = is
after-half at slave (order ∷ orders) half all is = after-half at slave orders (after_one half order) all.1 (after_one-half at half order all.0.command is)

-- ---- After them a byte is what it was, or what they make it.

abbrev Same : ℕ → ℕ → List Pdu → Type 0
Same at i orders = (half : ProcessMemory) → IsHalf at half → get_or (after half orders).bytes i 0 ≡ get_or half.bytes i 0

abbrev Set : ℕ → ℕ → List Pdu → Type 0
Set at i orders = (value : ℕ) × ((half : ProcessMemory) → IsHalf at half → get_or (after half orders).bytes i 0 ≡ value)

-- a byte after one of them
SameOne : ℕ → ℕ → Pdu → Type 0
SameOne at i order = (half : ProcessMemory) → IsHalf at half → get_or (after_one half order).bytes i 0 ≡ get_or half.bytes i 0

SetOne : ℕ → ℕ → Pdu → Type 0
SetOne at i order = (value : ℕ) × ((half : ProcessMemory) → IsHalf at half → get_or (after_one half order).bytes i 0 ≡ value)

byte_of : (at i : ℕ) (order : Pdu) → order.command ≡ 5 → (b : Bool) → takes at order ≡ b → (half : ProcessMemory) → IsHalf at half
    → get_or (after_one half order).bytes i 0 ≡ get_or (with_order half order b).bytes i 0
byte_of at i order command b taken half is =
    ap (λ (h : ProcessMemory). get_or h.bytes i 0) (after_one_is at half order command is ∙ ap (with_order half order) taken)

one_order : (at i : ℕ) (order : Pdu) → order.command ≡ 5 → (b : Bool) → takes at order ≡ b → SameOne at i order ⊎ SetOne at i order
unfolding with_order SameOne SetOne
one_order at i order command false not = inl (λ half is. byte_of at i order command false not half is)
one_order at i order command true taken =
    let register = register_of order.address in
    let end : register + length order.content ≤ 65536 = taken_inside at order taken in
    elim (le_or_lt register i) [
      | inr low ↦ inl (λ half is. byte_of at i order command true taken half is
          ∙ below_it half.bytes order.content register i (let n : length half.bytes ≡ 65536 = is.length_is in omega arith) low)
      | inl high ↦ elim (le_or_lt (register + length order.content) i) [
        | inl afterwards ↦ inl (λ half is. byte_of at i order command true taken half is
            ∙ after_it half.bytes order.content register i (let n : length half.bytes ≡ 65536 = is.length_is in omega arith) afterwards)
        | inr inner ↦ inr (
          get_or order.content (i - register) 0,
          λ half is. byte_of at i order command true taken half is
              ∙ within_it half.bytes order.content register i (let n : length half.bytes ≡ 65536 = is.length_is in omega arith) high inner,
        )
      ]
    ]

kind_of : (at slave i : ℕ) (orders : List Pdu) → AllByRecursion (IsWriteTo slave) orders → Same at i orders ⊎ Set at i orders
unfolding SameOne SetOne
kind_of at slave i [] all = inl (λ half is. refl)
kind_of at slave i (order ∷ orders) all =
    elim (kind_of at slave i orders all.1) [
      | inr set ↦ inr (set.0, λ half is. set.1 (after_one half order) (after_one-half at half order all.0.command is))
      | inl same ↦ elim (one_order at i order all.0.command (takes at order) refl) [
        | inl kept ↦ inl (λ half is. same (after_one half order) (after_one-half at half order all.0.command is) ∙ kept half is)
        | inr made ↦ inr (made.0, λ half is. same (after_one half order) (after_one-half at half order all.0.command is) ∙ made.1 half is)
      ]
    ]

same_half : (a b : ProcessMemory) → a.station ≡ b.station → a.bytes ≡ b.bytes → a ≡ b
same_half a b station bytes = ap (λ t. record a { station = t }) station ∙ ap (λ (l : List ℕ). record b { bytes = l }) bytes

-- so doing them again changes nothing
pub after_twice : (at slave : ℕ) (orders : List Pdu) (half : ProcessMemory) → AllByRecursion (IsWriteTo slave) orders → IsHalf at half
    → after (after half orders) orders ≡ after half orders
after_twice at slave orders half all is =
    let once : IsHalf at (after half orders) = after-half at slave orders half all is in
    let twice : IsHalf at (after (after half orders) orders) = after-half at slave orders (after half orders) all once in
    let bytes : (after (after half orders) orders).bytes ≡ (after half orders).bytes =
    ext_get_or 0 (after (after half orders) orders).bytes (after half orders).bytes (twice.length_is ∙ sym once.length_is)
    (λ i lt. elim (kind_of at slave i orders all) [
      | inl same ↦ same (after half orders) once
      | inr set ↦ set.1 (after half orders) once ∙ sym (set.1 half is)
    ]) in
    let stations : (after (after half orders) orders).station ≡ (after half orders).station = twice.station_is ∙ sym once.station_is in
    same_half (after (after half orders) orders) (after half orders) stations bytes

-- ---- Those for another slave change nothing.

takes_none : (at slave : ℕ) (order : Pdu) → at ≢ 0x1001 + slave → IsWriteTo slave order → takes at order ≡ false
unfolding takes
takes_none at slave order other is =
    ap (λ b. b && is_writable (register_of order.address) (length order.content)) (ne_eqb (station_of order.address) at (λ e. other (sym e ∙ is.station_is)))

pub after-elsewhere : (at slave : ℕ) → at ≢ 0x1001 + slave → (orders : List Pdu) (half : ProcessMemory) → AllByRecursion (IsWriteTo slave) orders → IsHalf at half
    → after half orders ≡ half
unfolding with_order
after-elsewhere at slave other [] half all is = refl
after-elsewhere at slave other (order ∷ orders) half all is =
    let passed : after_one half order ≡ half = after_one_is at half order all.0.command is ∙ ap (with_order half order) (takes_none at slave order other all.0) in
    ap (λ (h : ProcessMemory). after h orders) passed ∙ after-elsewhere at slave other orders half all.1 is
