-- What a write leaves of each byte of the registers.
use Rattle.std.proofs.Common.{◌≡◌, ℕ, ◌+◌, ◌-◌, ◌<◌, ◌≤◌, nat_lt, List, ◌++◌, length, take, drop, slice_index, refl}
use Rattle.std.proofs.Common.{sym, ap, ◌∙◌, inl, inr, arith, get_or-drop, get_or-take, append_assoc, length-take}
use Rattle.std.specs.Prelude.{if◌then◌else◌}
use Rattle.std.proofs.lemmas.List.{get_or-append_right, get_or_append_left}
use Rattle.std.proofs.lemmas.Bool.{lt-ltb}
use Rattle.std.proofs.lemmas.Bool.Decides.{leb_tells, nat_tests}
use Rattle.esc_model.specs.Bytes.{overlaid}

-- the byte at a place, overwritten where the content covers it
pub byte_after : (old at : ℕ) → List ℕ → ℕ → ℕ
byte_after old at over i = if nat_lt i at then old else if nat_lt i (at + length over) then slice_index over (i - at) else old

-- where a place lies: before the content, within it, or after it
pub data Lies (at i : ℕ) (over : List ℕ) : Type 0 where
  before : i < at → Lies at i over
  within : at ≤ i → i < at + length over → Lies at i over
  afterwards : at ≤ i → at + length over ≤ i → Lies at i over

pub lies : (at i : ℕ) (over : List ℕ) → Lies at i over
lies at i over = elim (leb_tells at i) [
  | inr b ↦ before b.1
  | inl not ↦ elim (leb_tells (at + length over) i) [ inl past ↦ afterwards not.1 past.1 | inr in_it ↦ within not.1 in_it.1 ]
]

module _ (old at i : ℕ) (over : List ℕ) where
  pub after_before : i < at → byte_after old at over i ≡ old
  unfolding byte_after
  after_before h = rw (lt-ltb i at h) refl

  pub after_within : at ≤ i → i < at + length over → byte_after old at over i ≡ slice_index over (i - at)
  unfolding byte_after
  after_within from h = grind (arith, nat_tests)

  pub after_after : at ≤ i → at + length over ≤ i → byte_after old at over i ≡ old
  unfolding byte_after
  after_after from past = grind (arith, nat_tests)

-- bytes that are overwritten
module _ (bytes over : List ℕ) (at i : ℕ) (inside : i < length bytes) where
  regrouped : slice_index (overlaid bytes at over) i ≡ slice_index (take at bytes ++ (over ++ drop (at + length over) bytes)) i
  regrouped = ap (λ (l : List ℕ). slice_index l i) (append_assoc (take at bytes) over (drop (at + length over) bytes))

  over_before : i < at → slice_index (overlaid bytes at over) i ≡ slice_index bytes i
  over_before h =
      regrouped
      ∙ get_or_append_left (take at bytes) (over ++ drop (at + length over) bytes) 0 i (omega (arith, length-take at bytes))
      ∙ get_or-take at bytes i 0 h

  over_rest : at ≤ i → slice_index (overlaid bytes at over) i ≡ slice_index (over ++ drop (at + length over) bytes) (i - at)
  over_rest from = regrouped ∙ get_or-append_right (take at bytes) (over ++ drop (at + length over) bytes) at i 0 (omega (arith, length-take at bytes)) from

  over_within : at ≤ i → i < at + length over → slice_index (overlaid bytes at over) i ≡ slice_index over (i - at)
  over_within from h = over_rest from ∙ get_or_append_left over (drop (at + length over) bytes) 0 (i - at) (omega arith)

  over_after : at ≤ i → at + length over ≤ i → slice_index (overlaid bytes at over) i ≡ slice_index bytes i
  over_after from past =
      over_rest from
      ∙ get_or-append_right over (drop (at + length over) bytes) (length over) (i - at) 0 refl (omega arith)
      ∙ get_or-drop (at + length over) bytes (i - at - length over) 0
      ∙ ap (λ (k : ℕ). slice_index bytes k) (let e : at + length over + (i - at - length over) ≡ i = omega arith in e)

  pub overlaid_at : slice_index (overlaid bytes at over) i ≡ byte_after (slice_index bytes i) at over i
  overlaid_at = by (lies at i over)
    where
      by : Lies at i over → slice_index (overlaid bytes at over) i ≡ byte_after (slice_index bytes i) at over i
      by (before h) = over_before h ∙ sym (after_before (slice_index bytes i) at i over h)
      by (within from h) = over_within from h ∙ sym (after_within (slice_index bytes i) at i over from h)
      by (afterwards from past) = over_after from past ∙ sym (after_after (slice_index bytes i) at i over from past)

-- overwritten twice is the same as once
pub after_twice : (old at i : ℕ) (over : List ℕ) → byte_after (byte_after old at over i) at over i ≡ byte_after old at over i
after_twice old at i over = by (lies at i over)
  where
    by : Lies at i over → byte_after (byte_after old at over i) at over i ≡ byte_after old at over i
    by (before h) = after_before (byte_after old at over i) at i over h
    by (within from h) = after_within (byte_after old at over i) at i over from h ∙ sym (after_within old at i over from h)
    by (afterwards from past) = after_after (byte_after old at over i) at i over from past

-- where the content covers a place, the old byte doesn't matter
pub after_covered : (old other at i : ℕ) (over : List ℕ) → at ≤ i → i < at + length over → byte_after old at over i ≡ byte_after other at over i
after_covered old other at i over from h = after_within old at i over from h ∙ sym (after_within other at i over from h)
