-- What the answer to a read shows of a half.
use Rattle.std.proofs.Common.{◌≡◌, ◌⊎◌, ℕ, ◌+◌, ◌-◌, ◌/◌, ◌%◌, ◌<◌, ◌≤◌, ◌&&◌, Bool, true, false, nat_lt}
use Rattle.std.proofs.Common.{nat_le, List, length, drop, slice_index, slice_range, refl, sym, ap, subst, ◌∙◌, inl, inr, arith, get_or-drop}
use Rattle.std.proofs.Common.{get_or-take, length-take}
use Rattle.std.specs.Prelude.{◌==◌, if◌then◌else◌}
use Rattle.std.proofs.lemmas.Bool.{and_parts, leb-true, ltb-true, eqb-true}
use Rattle.ecat_frame.specs.Command.{command_of}
use Rattle.ecat_frame.specs.Frame.{Pdu}
use Rattle.esc_model.specs.Bytes.{lies_in, station_of, register_of}
use Rattle.esc_model.specs.Registers.{status_byte}
use Rattle.esc_model.specs.SlaveHalf.{SlaveHalf, Outcome, is_busy, concerns, shown_bytes, replied, passed_on, served}
use Rattle.esc_model.specs.Datagrams.{served_datagram, reply_of}
use Rattle.site_wire.specs.Answers.{compared, AnswersAlike, has_status}
use Rattle.site_wire.proofs.Taking.{true_or_false, writes_here, writes_code}

-- BITS 5 TO 7

abbrev pub flags : (command_error enable_error busy : Bool) → ℕ
flags command_error enable_error busy = (if command_error then 1 else 0) + (if enable_error then 2 else 0) + (if busy then 4 else 0)

status_flags : (command : ℕ) (loading c e b : Bool)
    → (command % 8 + (if loading then 0x18 else 0) + (if c then 0x20 else 0) + (if e then 0x40 else 0) + (if b then 0x80 else 0)) / 0x20 ≡ flags c e b
status_flags command true true true true = omega arith
status_flags command true true true false = omega arith
status_flags command true true false true = omega arith
status_flags command true true false false = omega arith
status_flags command true false true true = omega arith
status_flags command true false true false = omega arith
status_flags command true false false true = omega arith
status_flags command true false false false = omega arith
status_flags command false true true true = omega arith
status_flags command false true true false = omega arith
status_flags command false true false true = omega arith
status_flags command false true false false = omega arith
status_flags command false false true true = omega arith
status_flags command false false true false = omega arith
status_flags command false false false true = omega arith
status_flags command false false false false = omega arith

first_flag : (c e b : Bool) → (flags c e b % 2 == 1) ≡ c
first_flag true true true = refl
first_flag true true false = refl
first_flag true false true = refl
first_flag true false false = refl
first_flag false true true = refl
first_flag false true false = refl
first_flag false false true = refl
first_flag false false false = refl

second_flag : (c e b : Bool) → (flags c e b / 2 % 2 == 1) ≡ e
second_flag true true true = refl
second_flag true true false = refl
second_flag true false true = refl
second_flag true false false = refl
second_flag false true true = refl
second_flag false true false = refl
second_flag false false true = refl
second_flag false false false = refl

third_flag : (c e b : Bool) → nat_le 4 (flags c e b) ≡ b
third_flag true true true = refl
third_flag true true false = refl
third_flag true false true = refl
third_flag true false false = refl
third_flag false true true = refl
third_flag false true false = refl
third_flag false false true = refl
third_flag false false false = refl

pub same_flags : (c e b d f g : Bool) → flags c e b ≡ flags d f g → (c ≡ d) × (e ≡ f) × (b ≡ g)
same_flags c e b d f g same = (
  sym (first_flag c e b) ∙ ap (λ (n : ℕ). n % 2 == 1) same ∙ first_flag d f g,
  sym (second_flag c e b) ∙ ap (λ (n : ℕ). n / 2 % 2 == 1) same ∙ second_flag d f g,
  sym (third_flag c e b) ∙ ap (λ (n : ℕ). nat_le 4 n) same ∙ third_flag d f g,
)

-- THE ANSWER TO A READ

pub record ShowsStatus (found : Pdu) : Type 0 where
  pub command : found.command ≡ 4
  pub counter : found.counter ≡ 1
  pub from : register_of found.address ≤ 0x0503
  pub covers : 0x0503 < register_of found.address + length found.content

pub shows_status : (found : Pdu) → has_status found ≡ true → ShowsStatus found
shows_status found has =
    let register = register_of found.address in
    let count = register_of found.address + length found.content in
    let a = and_parts (found.command == 4 && found.counter == 1 && nat_le register 0x0503) (nat_lt 0x0503 count) has in
    let b = and_parts (found.command == 4 && found.counter == 1) (nat_le register 0x0503) a.0 in
    let c = and_parts (found.command == 4) (found.counter == 1) b.0 in
    record {
      command = eqb-true found.command 4 c.0;
      counter = eqb-true found.counter 1 c.1;
      from = leb-true register 0x0503 b.1;
      covers = ltb-true 0x0503 count a.1;
    }

-- the byte at 0x0503 in an answer
abbrev pub status_in : Pdu → ℕ
status_in found = slice_index found.content (0x0503 - register_of found.address)

pub reads_only : (half : SlaveHalf) (d : Pdu) → d.command ≡ 4 → writes_here half (command_of d.command) d.address d.content ≡ false
reads_only half d reads = elim (true_or_false (writes_here half (command_of d.command) d.address d.content)) [
  | inr other ↦ other
  | inl writes ↦ absurd (let e : d.command ≡ 5 = writes_code half d writes in omega arith)
]

-- a read that was counted returned the registers
abbrev read_or_passed : Bool → SlaveHalf → Pdu → Outcome
read_or_passed here half d = if here then replied half (register_of d.address - 0x0500) d.content else passed_on half d.content

is_read : (half : SlaveHalf) (d : Pdu) → d.command ≡ 4 → served_datagram half d ≡ read_or_passed (concerns half d.address (length d.content)) half d
unfolding served
is_read half d reads = ap (λ (n : ℕ). served half (command_of n) d.address d.content) reads

pub read_replied : (half : SlaveHalf) (d : Pdu) → d.command ≡ 4 → d.counter ≡ 0 → (d.counter + (served_datagram half d).added) % 65536 ≡ 1
    → (concerns half d.address (length d.content) ≡ true) × (served_datagram half d ≡ replied half (register_of d.address - 0x0500) d.content)
read_replied half d reads fresh counted = by (true_or_false (concerns half d.address (length d.content)))
  where
    by : (concerns half d.address (length d.content) ≡ true) ⊎ (concerns half d.address (length d.content) ≡ false)
        → (concerns half d.address (length d.content) ≡ true) × (served_datagram half d ≡ replied half (register_of d.address - 0x0500) d.content)
    by (inl here) = (here, is_read half d reads ∙ ap (λ (b : Bool). read_or_passed b half d) here)
    by (inr other) =
        let nothing : (served_datagram half d).added ≡ 0 = ap (λ (t : Outcome). t.added) (is_read half d reads ∙ ap (λ (b : Bool). read_or_passed b half d) other) in
        absurd (omega (arith, fresh, counted, nothing))

at_place : (bytes : List ℕ) (at count k : ℕ) → k < count → slice_index (slice_range bytes at (at + count)) k ≡ slice_index bytes (at + k)
at_place bytes at count k inside =
    get_or-take (at + count - at) (drop at bytes) k 0 (omega arith) ∙ get_or-drop at bytes k 0

range_length : (bytes : List ℕ) (at count : ℕ) → length (slice_range bytes at (at + count)) ≤ count
range_length bytes at count = omega (arith, length-take (at + count - at) (drop at bytes))

-- bits 5 to 7 of what was read are those of the half
pub status_shown : (half : SlaveHalf) (d found : Pdu) → d.counter ≡ 0 → AnswersAlike (reply_of d (served_datagram half d)) found → ShowsStatus found
    → flags half.registers.command_error half.registers.enable_error (is_busy half.activity) ≡ status_in found / 0x20
status_shown half d found fresh alike shows =
    let reads : d.command ≡ 4 = sym alike.command ∙ shows.command in
    let r = read_replied half d reads fresh (sym alike.counter ∙ shows.counter) in
    let at = register_of d.address - 0x0500 in
    let k = 0x0503 - register_of d.address in
    let given = (served_datagram half d).content in
    let inner = and_parts (nat_lt 0 (length d.content) && nat_le 0x0500 (register_of d.address)) (nat_le (register_of d.address + length d.content) 0x0510)
    (and_parts (station_of d.address == half.station) (lies_in 0x0500 0x0510 (register_of d.address) (length d.content)) r.0).1 in
    let inside : 0x0500 ≤ register_of d.address =
    leb-true 0x0500 (register_of d.address) (and_parts (nat_lt 0 (length d.content)) (nat_le 0x0500 (register_of d.address)) inner.0).1 in
    let same : register_of found.address ≡ register_of d.address = ap register_of alike.address in
    let from : register_of d.address ≤ 0x0503 = subst (λ (n : ℕ). n ≤ 0x0503) same shows.from in
    let covers : 0x0503 < register_of d.address + length given = subst (λ (n : ℕ). 0x0503 < n + length given) same (subst (λ (n : ℕ). 0x0503 < register_of found.address + n) alike.length shows.covers) in
    let is : given ≡ slice_range (shown_bytes half) at (at + length d.content) = ap (λ (t : Outcome). t.content) r.1 in
    let short : length given ≤ length d.content = subst (λ (l : List ℕ). length l ≤ length d.content) (sym is) (range_length (shown_bytes half) at (length d.content)) in
    let here : register_of d.address + k ≡ 0x0503 = omega arith in
    let third : at + k ≡ 3 = omega arith in
    let byte : slice_index given k ≡ status_byte half.registers (is_busy half.activity) =
    ap (λ (l : List ℕ). slice_index l k) is ∙ at_place (shown_bytes half) at (length d.content) k (omega arith) ∙ ap (λ (n : ℕ). slice_index (shown_bytes half) n) third in
    let read : slice_index given k / 0x20 ≡ slice_index found.content k / 0x20 =
    subst (λ (n : ℕ). compared n (slice_index given k) ≡ compared n (slice_index found.content k)) here (alike.read reads k (omega arith)) in
    sym (status_flags half.registers.command half.registers.loading_error half.registers.command_error half.registers.enable_error (is_busy half.activity))
    ∙ ap (λ (n : ℕ). n / 0x20) (sym byte) ∙ read ∙ ap (λ (n : ℕ). slice_index found.content (0x0503 - n) / 0x20) (sym same)
