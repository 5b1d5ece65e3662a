-- What configuring a whole line does to one process half: what the datagrams for its own slave do to it.
use Rattle.std.proofs.Common.{◌≡◌, ◌≢◌, ◌⊎◌, ℕ, zero, suc, ◌+◌, ◌-◌, ◌<◌, ◌≤◌, Bool, true, false, not, cond, List, [], ◌∷◌, ◌++◌, take, refl, sym, ap, ◌∙◌, inl, inr, add-one, arith}
use Rattle.std.specs.Bool.{beq}
use Rattle.std.specs.List.{AllByRecursion, enumerate_from, flat_map}
use Rattle.std.specs.Cmp.Lexicographic.{pointwise}
use Rattle.std.proofs.lemmas.List.Sums.{fold-append}
use Rattle.std.proofs.lemmas.List.{append-nil}
use Rattle.std.proofs.lemmas.Bool.{and_parts, eqb-true}
use Rattle.std.proofs.lemmas.Bool.Decides.{eqb_tells, leb_tells}
use Rattle.ecat_frame.specs.Frame.{Pdu}
use Rattle.esc_model.specs.ProcessHalf.{ProcessMemory}
use Rattle.sii_image.specs.declared.process_image.Segment.{Segment}
use Rattle.cyclic.specs.Configuration.{write_to, no_fmmus, is_same, segments_of, segment_orders, slave_orders, configuring, differs, reconfiguring}
use Rattle.cyclic.specs.Laws.{after_one, after, ReconfiguresAsConfigured}
use Rattle.cyclic.proofs.Listing.{configuring-more, reconfiguring-more, reconfiguring-same}
use Rattle.cyclic.proofs.Writing.{IsWriteTo, orders_to, IsHalf, after-half, after_twice, after-elsewhere}

-- ---- A list of datagrams, slave by slave.

record BySlave (entire : ℕ → List Pdu) (part : ℕ → List Pdu) : Type 0 where
  none : entire 0 ≡ []
  more : (n : ℕ) → entire (suc n) ≡ entire n ++ part n
  own : (slave : ℕ) → slave < 64 → AllByRecursion (IsWriteTo slave) (part slave)

configuring_by_slave : (segments : List Segment) → BySlave (λ n. configuring n segments) (slave_orders segments)
configuring_by_slave segments = record {
  none = refl;
  more = λ n. ap (λ k. configuring k segments) (sym (add-one n)) ∙ configuring-more segments n;
  own = λ slave near. orders_to slave segments near;
}

-- what reconfiguring sends to one slave
part_of : List Segment → List Segment → ℕ → Bool → List Pdu
part_of old new slave b = cond b (slave_orders new slave) []

reconfiguring_so : (old new : List Segment) (n : ℕ) (b : Bool) → differs old new n ≡ b → reconfiguring (n + 1) old new ≡ reconfiguring n old new ++ part_of old new n b
unfolding part_of
reconfiguring_so old new n true is = reconfiguring-more old new n is
reconfiguring_so old new n false is = reconfiguring-same old new n is ∙ sym (append-nil (reconfiguring n old new))

part_to : (old new : List Segment) (slave : ℕ) → slave < 64 → (b : Bool) → AllByRecursion (IsWriteTo slave) (part_of old new slave b)
unfolding part_of
part_to old new slave near true = orders_to slave new near
part_to old new slave near false = tt

reconfiguring_by_slave : (old new : List Segment) → BySlave (λ n. reconfiguring n old new) (λ slave. part_of old new slave (differs old new slave))
reconfiguring_by_slave old new = record {
  none = refl;
  more = λ n. ap (λ k. reconfiguring k old new) (sym (add-one n)) ∙ reconfiguring_so old new n (differs old new n) refl;
  own = λ slave near. part_to old new slave near (differs old new slave);
}

-- ---- What it makes of one half.

after-append : (half : ProcessMemory) (a b : List Pdu) → after half (a ++ b) ≡ after (after half a) b
after-append half a b = fold-append after_one half a b

after_next : (entire part : ℕ → List Pdu) → BySlave entire part → (n : ℕ) (half : ProcessMemory) → after half (entire (suc n)) ≡ after (after half (entire n)) (part n)
after_next entire part by n half = ap (λ (l : List Pdu). after half l) (by.more n) ∙ after-append half (entire n) (part n)

-- a half of none of these slaves stays as it is
far : (entire part : ℕ → List Pdu) → BySlave entire part → (at n : ℕ) → n ≤ 64 → ((slave : ℕ) → slave < n → at ≢ 0x1001 + slave) → (half : ProcessMemory) → IsHalf at half
    → after half (entire n) ≡ half
far entire part by at zero few other half is = ap (λ (l : List Pdu). after half l) by.none
far entire part by at (suc n) few other half is =
    let before : after half (entire n) ≡ half = far entire part by at n (omega arith) (λ slave low. other slave (omega arith)) half is in
    after_next entire part by n half ∙ ap (λ (h : ProcessMemory). after h (part n)) before
    ∙ after-elsewhere at n (other n (omega arith)) (part n) half (by.own n (omega arith)) is

-- that of one of them goes through its own part
near : (entire part : ℕ → List Pdu) → BySlave entire part → (at slave n : ℕ) → n ≤ 64 → slave < n → at ≡ 0x1001 + slave → (half : ProcessMemory) → IsHalf at half
    → after half (entire n) ≡ after half (part slave)
near entire part by at slave zero few low here half is = absurd (omega arith)
near entire part by at slave (suc n) few low here half is =
    elim (eqb_tells slave n) [
      | inl last ↦
          let same : slave ≡ n = last.1 in
          let before : after half (entire n) ≡ half = far entire part by at n (omega arith) (λ k below e. let clash : 0x1001 + slave ≡ 0x1001 + k = sym here ∙ e in absurd (omega arith)) half is in
          after_next entire part by n half ∙ ap (λ (h : ProcessMemory). after h (part n)) before ∙ ap (λ k. after half (part k)) (sym same)
      | inr earlier ↦
          let separate : slave ≢ n = earlier.1 in
          let other : at ≢ 0x1001 + n = λ e. let clash : 0x1001 + slave ≡ 0x1001 + n = sym here ∙ e in separate (omega arith) in
          let before : after half (entire n) ≡ after half (part slave) = near entire part by at slave n (omega arith) (omega arith) here half is in
          let half_is : IsHalf at (after half (part slave)) = after-half at slave (part slave) half (by.own slave (omega arith)) is in
          after_next entire part by n half ∙ ap (λ (h : ProcessMemory). after h (part n)) before
          ∙ after-elsewhere at n other (part n) (after half (part slave)) (by.own n (omega arith)) half_is
    ]

-- ---- Slaves whose segments are the same.

made : ℕ → ℕ → Bool → ℕ → ℕ → ℕ → ℕ → ℕ → Segment
made slave manager output offset size bits start control =
    record { slave = slave; manager = manager; output = output; offset = offset; size = size; bits = bits; start = start; control = control }

same_bool : (x y : Bool) → beq x y ≡ true → x ≡ y
same_bool true true is = refl
same_bool true false is = absurd cc
same_bool false true is = absurd cc
same_bool false false is = refl

same_segment : (a b : Segment) → is_same a b ≡ true → a ≡ b
unfolding made
same_segment a b is =
    let h = and_parts _ _ is in
    let g = and_parts _ _ h.0 in
    let f = and_parts _ _ g.0 in
    let e = and_parts _ _ f.0 in
    let d = and_parts _ _ e.0 in
    let c = and_parts _ _ d.0 in
    let s = and_parts _ _ c.0 in
    let slave : a.slave ≡ b.slave = eqb-true a.slave b.slave s.0 in
    let manager : a.manager ≡ b.manager = eqb-true a.manager b.manager s.1 in
    let output : a.output ≡ b.output = same_bool a.output b.output c.1 in
    let offset : a.offset ≡ b.offset = eqb-true a.offset b.offset d.1 in
    let size : a.size ≡ b.size = eqb-true a.size b.size e.1 in
    let bits : a.bits ≡ b.bits = eqb-true a.bits b.bits f.1 in
    let start : a.start ≡ b.start = eqb-true a.start b.start g.1 in
    let control : a.control ≡ b.control = eqb-true a.control b.control h.1 in
    let all : made a.slave a.manager a.output a.offset a.size a.bits a.start a.control ≡ made b.slave b.manager b.output b.offset b.size b.bits b.start b.control =
    λ i. made (slave i) (manager i) (output i) (offset i) (size i) (bits i) (start i) (control i) in
    all

same_segments : (xs ys : List Segment) → pointwise is_same xs ys ≡ true → xs ≡ ys
same_segments [] [] is = refl
same_segments [] (y ∷ ys) is = absurd cc
same_segments (x ∷ xs) [] is = absurd cc
same_segments (x ∷ xs) (y ∷ ys) is =
    let both = and_parts (is_same x y) (pointwise is_same xs ys) is in
    let first = same_segment x y both.0 in
    let others = same_segments xs ys both.1 in
    λ i. first i ∷ others i

not_false : (b : Bool) → not b ≡ false → b ≡ true
not_false true is = refl
not_false false is = absurd cc

same_orders : (old new : List Segment) (slave : ℕ) → differs old new slave ≡ false → slave_orders new slave ≡ slave_orders old slave
same_orders old new slave is =
    let same = same_segments (segments_of slave old) (segments_of slave new) (not_false (pointwise is_same (segments_of slave old) (segments_of slave new)) is) in
    ap (λ (l : List Segment). write_to slave 0x0600 no_fmmus ∷ flat_map (segment_orders slave) (enumerate_from 0 (take 8 l))) (sym same)

-- ---- The law.

part_is : (old new : List Segment) (slave at : ℕ) → slave < 64 → (half : ProcessMemory) → IsHalf at half → (b : Bool) → differs old new slave ≡ b
    → after (after half (slave_orders old slave)) (part_of old new slave b) ≡ after (after half (slave_orders old slave)) (slave_orders new slave)
unfolding part_of
part_is old new slave at low half is true differ = refl
part_is old new slave at low half is false differ =
    let again : after (after half (slave_orders old slave)) (slave_orders old slave) ≡ after half (slave_orders old slave) =
    after_twice at slave (slave_orders old slave) half (orders_to slave old low) is in
    sym (ap (λ (l : List Pdu). after (after half (slave_orders old slave)) l) (same_orders old new slave differ) ∙ again)

where_is : (at n : ℕ) → ((slave : ℕ) × (slave < n) × (at ≡ 0x1001 + slave)) ⊎ ((slave : ℕ) → slave < n → at ≢ 0x1001 + slave)
where_is at n =
    elim (leb_tells 0x1001 at) [
      | inr low ↦ let below : at < 0x1001 = low.1 in inr (λ slave lt e. let is : at ≡ 0x1001 + slave = e in absurd (omega arith))
      | inl high ↦
          let above : 0x1001 ≤ at = high.1 in
          elim (leb_tells (0x1001 + n) at) [
            | inl past ↦ let beyond : 0x1001 + n ≤ at = past.1 in inr (λ slave lt e. let is : at ≡ 0x1001 + slave = e in absurd (omega arith))
            | inr inside ↦ let within : at < 0x1001 + n = inside.1 in inl (at - 0x1001, omega arith, omega arith)
          ]
    ]

pub reconfigured_is : ReconfiguresAsConfigured
reconfigured_is slaves old new half few size =
    let at : ℕ = half.station in
    let is : IsHalf at half = record { station_is = refl; length_is = size } in
    let by_old = configuring_by_slave old in
    let by_new = configuring_by_slave new in
    let by_both = reconfiguring_by_slave old new in
    let first : List Pdu = configuring slaves old in
    elim (where_is at slaves) [
      | inr other ↦
          let before : after half first ≡ half = far (λ n. configuring n old) (slave_orders old) by_old at slaves few other half is in
          ap (λ (h : ProcessMemory). after h (reconfiguring slaves old new)) before
          ∙ far (λ n. reconfiguring n old new) (λ slave. part_of old new slave (differs old new slave)) by_both at slaves few other half is
          ∙ sym (ap (λ (h : ProcessMemory). after h (configuring slaves new)) before
          ∙ far (λ n. configuring n new) (slave_orders new) by_new at slaves few other half is)
      | inl own ↦
          let slave : ℕ = own.0 in
          let low : slave < slaves = own.1 in
          let here : at ≡ 0x1001 + slave = own.2 in
          let near_by : slave < 64 = omega arith in
          let middle : ProcessMemory = after half (slave_orders old slave) in
          let before : after half first ≡ middle = near (λ n. configuring n old) (slave_orders old) by_old at slave slaves few low here half is in
          let middle_is : IsHalf at middle = after-half at slave (slave_orders old slave) half (orders_to slave old near_by) is in
          ap (λ (h : ProcessMemory). after h (reconfiguring slaves old new)) before
          ∙ near (λ n. reconfiguring n old new) (λ k. part_of old new k (differs old new k)) by_both at slave slaves few low here middle middle_is
          ∙ part_is old new slave at near_by half is (differs old new slave) refl
          ∙ sym (ap (λ (h : ProcessMemory). after h (configuring slaves new)) before
          ∙ near (λ n. configuring n new) (slave_orders new) by_new at slave slaves few low here middle middle_is)
    ]
