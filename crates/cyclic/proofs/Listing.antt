-- The lists of datagrams of a configuration, split at a place.
use Rattle.std.proofs.Common.{◌≡◌, ◌≢◌, ℕ, zero, suc, ◌+◌, ◌-◌, ◌<◌, ◌≤◌, Bool, true, false, cond, not, List, [], ◌∷◌, ◌++◌, length, take, drop, get_or, sym, ap, ◌∙◌, length-append, add-zero, zero-add, eq-eqb, arith}
use Rattle.std.specs.List.{enumerate_from, filter, flat_map, range_with_len}
use Rattle.std.proofs.lemmas.List.{append-nil, take-append-drop, take_more, take_all, length-take}
use Rattle.std.proofs.lemmas.Bool.{ne_eqb}
use Rattle.std.proofs.lemmas.List.Elements.{filter-append}
use Rattle.std.proofs.lemmas.Grind.{flat_map-append}
use Rattle.ecat_frame.specs.Frame.{Pdu}
use Rattle.sii_image.specs.declared.process_image.Segment.{Segment}
use Rattle.cyclic.specs.Configuration.{write_to, no_fmmus, is_of, segments_of, segment_orders, slave_orders, configuring, differs, reconfiguring}

-- ---- Numbers in order, and lists with their places.

pub range-append : (a m n : ℕ) → range_with_len a (m + n) ≡ range_with_len a m ++ range_with_len (a + m) n
range-append a zero n = ap (λ k. range_with_len a k) (zero-add n) ∙ ap (λ k. range_with_len k n) (sym (add-zero a))
range-append a (suc m) n =
    let more : suc m + n ≡ suc (m + n) = omega arith in
    let place : (a + 1) + m ≡ a + suc m = omega arith in
    ap (λ k. range_with_len a k) more ∙ ap (λ (t : List ℕ). a ∷ t) (range-append (a + 1) m n ∙ ap (λ k. range_with_len (a + 1) m ++ range_with_len k n) place)

enumerate-append : {X : Type 0} (k : ℕ) (xs ys : List X) → enumerate_from k (xs ++ ys) ≡ enumerate_from k xs ++ enumerate_from (k + length xs) ys
enumerate-append k [] ys = ap (λ n. enumerate_from n ys) (sym (add-zero k))
enumerate-append k (x ∷ xs) ys =
    let place : (k + 1) + length xs ≡ k + suc (length xs) = omega arith in
    ap (λ (t : List (ℕ × _)). (k, x) ∷ t) (enumerate-append (k + 1) xs ys ∙ ap (λ n. enumerate_from (k + 1) xs ++ enumerate_from n ys) place)

take-append : {X : Type 0} (n : ℕ) (xs ys : List X) → take n (xs ++ ys) ≡ take n xs ++ take (n - length xs) ys
take-append zero xs ys = let none : 0 ≡ 0 - length xs = omega arith in ap (λ n. take n ys) none
take-append (suc n) [] ys = let all : suc n ≡ suc n - 0 = omega arith in ap (λ k. take k ys) all
take-append (suc n) (x ∷ xs) ys =
    let less : n - length xs ≡ suc n - suc (length xs) = omega arith in
    ap (λ (t : List _). x ∷ t) (take-append n xs ys ∙ ap (λ k. take n xs ++ take k ys) less)

-- ---- The datagrams of one slave.

-- how many FMMUs are set for these segments
abbrev pub units_of : ℕ → List Segment → ℕ
units_of slave segments = length (take 8 (segments_of slave segments))

-- the segments among the later ones that find an FMMU
abbrev pub found : ℕ → List Segment → List Segment → List Segment
found slave xs ys = take (8 - length (segments_of slave xs)) (segments_of slave ys)

slave_orders-append : (slave : ℕ) (xs ys : List Segment)
    → slave_orders (xs ++ ys) slave ≡ slave_orders xs slave ++ flat_map (segment_orders slave) (enumerate_from (units_of slave xs) (found slave xs ys))
slave_orders-append slave xs ys =
    let f : ℕ × Segment → List Pdu = segment_orders slave in
    let a : List Segment = take 8 (segments_of slave xs) in
    let b : List Segment = found slave xs ys in
    ap (λ (t : List Pdu). write_to slave 0x0600 no_fmmus ∷ t)
    (ap (λ (l : List Segment). flat_map f (enumerate_from 0 (take 8 l))) (filter-append (is_of slave) xs ys)
    ∙ ap (λ (l : List Segment). flat_map f (enumerate_from 0 l)) (take-append 8 (segments_of slave xs) (segments_of slave ys))
    ∙ ap (λ (l : List (ℕ × Segment)). flat_map f l) (enumerate-append 0 a b)
    ∙ flat_map-append f (enumerate_from 0 a) (enumerate_from (0 + length a) b)
    ∙ ap (λ k. flat_map f (enumerate_from 0 a) ++ flat_map f (enumerate_from k b)) (zero-add (length a)))

-- a segment that finds no FMMU changes nothing
orders-none : (slave : ℕ) (xs ys : List Segment) → found slave xs ys ≡ [] → slave_orders (xs ++ ys) slave ≡ slave_orders xs slave
orders-none slave xs ys none =
    slave_orders-append slave xs ys
    ∙ ap (λ (l : List Segment). slave_orders xs slave ++ flat_map (segment_orders slave) (enumerate_from (units_of slave xs) l)) none
    ∙ append-nil (slave_orders xs slave)

-- and one that finds one is after the others
orders-one : (slave : ℕ) (xs : List Segment) (x : Segment) → found slave xs (x ∷ []) ≡ x ∷ []
    → slave_orders (xs ++ x ∷ []) slave ≡ slave_orders xs slave ++ segment_orders slave (units_of slave xs, x)
orders-one slave xs x one =
    slave_orders-append slave xs (x ∷ [])
    ∙ ap (λ (l : List Segment). slave_orders xs slave ++ flat_map (segment_orders slave) (enumerate_from (units_of slave xs) l)) one

units-append : (slave : ℕ) (xs ys : List Segment) → units_of slave (xs ++ ys) ≡ units_of slave xs + length (found slave xs ys)
units-append slave xs ys =
    ap (λ (l : List Segment). length (take 8 l)) (filter-append (is_of slave) xs ys)
    ∙ ap length (take-append 8 (segments_of slave xs) (segments_of slave ys))
    ∙ length-append (take 8 (segments_of slave xs)) (found slave xs ys)

own_segment : (slave : ℕ) (x : Segment) → x.slave ≡ slave → segments_of slave (x ∷ []) ≡ x ∷ []
own_segment slave x is = ap (λ (b : Bool). cond b (x ∷ []) []) (eq-eqb x.slave slave is)

other_segment : (slave : ℕ) (x : Segment) → x.slave ≢ slave → segments_of slave (x ∷ []) ≡ []
other_segment slave x not = ap (λ (b : Bool). cond b (x ∷ []) []) (ne_eqb x.slave slave not)

finds_one : (slave : ℕ) (xs : List Segment) (x : Segment) → x.slave ≡ slave → units_of slave xs < 8 → found slave xs (x ∷ []) ≡ x ∷ []
finds_one slave xs x is room =
    let few : 1 ≤ 8 - length (segments_of slave xs) = omega (arith, length-take 8 (segments_of slave xs)) in
    ap (λ (l : List Segment). take (8 - length (segments_of slave xs)) l) (own_segment slave x is) ∙ take_all (8 - length (segments_of slave xs)) (x ∷ []) few

pub finds_none_of_another : (slave : ℕ) (xs : List Segment) (x : Segment) → x.slave ≢ slave → found slave xs (x ∷ []) ≡ []
finds_none_of_another slave xs x not =
    ap (λ (l : List Segment). take (8 - length (segments_of slave xs)) l) (other_segment slave x not)
    ∙ take_all (8 - length (segments_of slave xs)) [] (omega arith)

pub finds_none_when_full : (slave : ℕ) (xs ys : List Segment) → 8 ≤ units_of slave xs → found slave xs ys ≡ []
finds_none_when_full slave xs ys full =
    let none : 8 - length (segments_of slave xs) ≡ 0 = omega (arith, length-take 8 (segments_of slave xs)) in
    ap (λ n. take n (segments_of slave ys)) none

-- ---- One segment more.

-- what holds after the first segments holds after the next one
pub record Goes (slave : ℕ) (segments : List Segment) (i : ℕ) (unit : ℕ) (orders : List Pdu) : Type 0 where
  pub unit_is : unit ≡ units_of slave (take i segments)
  pub orders_are : orders ≡ slave_orders (take i segments) slave

pub goes_on : (slave : ℕ) (segments : List Segment) (i : ℕ) (d : Segment) (unit : ℕ) → i < length segments → found slave (take i segments) (get_or segments i d ∷ []) ≡ []
    → unit ≡ units_of slave (take i segments) → Goes slave segments (i + 1) unit (slave_orders (take i segments) slave)
goes_on slave segments i d unit within none is =
    let next : take (i + 1) segments ≡ take i segments ++ get_or segments i d ∷ [] = take_more segments i d within in
    let few : units_of slave (take i segments ++ get_or segments i d ∷ []) ≡ units_of slave (take i segments) + length (found slave (take i segments) (get_or segments i d ∷ [])) =
    units-append slave (take i segments) (get_or segments i d ∷ []) in
    let count : length (found slave (take i segments) (get_or segments i d ∷ [])) ≡ 0 = ap length none in
    record {
      unit_is = rw next (omega arith);
      orders_are = sym (ap (λ (l : List Segment). slave_orders l slave) next ∙ orders-none slave (take i segments) (get_or segments i d ∷ []) none);
    }

pub goes_further : (slave : ℕ) (segments : List Segment) (i : ℕ) (d : Segment) (unit : ℕ) → i < length segments → (get_or segments i d).slave ≡ slave → unit < 8
    → unit ≡ units_of slave (take i segments)
    → Goes slave segments (i + 1) (unit + 1) (slave_orders (take i segments) slave ++ segment_orders slave (unit, get_or segments i d))
goes_further slave segments i d unit within own room is =
    let next : take (i + 1) segments ≡ take i segments ++ get_or segments i d ∷ [] = take_more segments i d within in
    let room_left : units_of slave (take i segments) < 8 = omega arith in
    let one = finds_one slave (take i segments) (get_or segments i d) own room_left in
    let more : units_of slave (take i segments ++ get_or segments i d ∷ []) ≡ units_of slave (take i segments) + length (found slave (take i segments) (get_or segments i d ∷ [])) =
    units-append slave (take i segments) (get_or segments i d ∷ []) in
    let count : length (found slave (take i segments) (get_or segments i d ∷ [])) ≡ 1 = ap length one in
    record {
      unit_is = rw next (omega arith);
      orders_are = ap (λ u. slave_orders (take i segments) slave ++ segment_orders slave (u, get_or segments i d)) is
          ∙ sym (ap (λ (l : List Segment). slave_orders l slave) next ∙ orders-one slave (take i segments) (get_or segments i d) one);
    }

-- the datagrams after those for the first segments
pub rest_of_slave : (slave : ℕ) (segments : List Segment) (i : ℕ) → (rest : List Pdu) × (slave_orders segments slave ≡ slave_orders (take i segments) slave ++ rest)
rest_of_slave slave segments i =
    (_, ap (λ (l : List Segment). slave_orders l slave) (sym (take-append-drop i segments)) ∙ slave_orders-append slave (take i segments) (drop i segments))

-- ---- Slaves in order.

-- a list that grows with the list of slaves
abbrev pub Grows : (List ℕ → List Pdu) → Type 0
Grows f = (a b : List ℕ) → f (a ++ b) ≡ f a ++ f b

one_more : (f : List ℕ → List Pdu) → Grows f → (n : ℕ) → f (range_with_len 0 (n + 1)) ≡ f (range_with_len 0 n) ++ f (n ∷ [])
one_more f grows n =
    ap f (range-append 0 n 1) ∙ grows (range_with_len 0 n) ((0 + n) ∷ []) ∙ ap (λ k. f (range_with_len 0 n) ++ f (k ∷ [])) (zero-add n)

rest_of : (f : List ℕ → List Pdu) → Grows f → (n count : ℕ) → n ≤ count → (rest : List Pdu) × (f (range_with_len 0 count) ≡ f (range_with_len 0 n) ++ rest)
rest_of f grows n count few =
    let split : count ≡ n + (count - n) = omega arith in
    (_, ap (λ k. f (range_with_len 0 k)) split ∙ ap f (range-append 0 n (count - n)) ∙ grows (range_with_len 0 n) (range_with_len (0 + n) (count - n)))

pub configuring-more : (segments : List Segment) (n : ℕ) → configuring (n + 1) segments ≡ configuring n segments ++ slave_orders segments n
configuring-more segments n =
    one_more (λ (l : List ℕ). flat_map (slave_orders segments) l) (flat_map-append (slave_orders segments)) n
    ∙ ap (λ (t : List Pdu). configuring n segments ++ t) (append-nil (slave_orders segments n))

pub configuring-rest : (segments : List Segment) (n count : ℕ) → n ≤ count → (rest : List Pdu) × (configuring count segments ≡ configuring n segments ++ rest)
configuring-rest segments n count few = rest_of (λ (l : List ℕ). flat_map (slave_orders segments) l) (flat_map-append (slave_orders segments)) n count few

abbrev chosen : List Segment → List Segment → List ℕ → List Pdu
chosen old new slaves = flat_map (slave_orders new) (filter (differs old new) slaves)

chosen-grows : (old new : List Segment) → Grows (chosen old new)
chosen-grows old new a b =
    ap (λ (l : List ℕ). flat_map (slave_orders new) l) (filter-append (differs old new) a b)
    ∙ flat_map-append (slave_orders new) (filter (differs old new) a) (filter (differs old new) b)

chosen-one : (old new : List Segment) (n : ℕ) → differs old new n ≡ true → chosen old new (n ∷ []) ≡ slave_orders new n
chosen-one old new n is = ap (λ (b : Bool). flat_map (slave_orders new) (cond b (n ∷ []) [])) is ∙ append-nil (slave_orders new n)

chosen-none : (old new : List Segment) (n : ℕ) → differs old new n ≡ false → chosen old new (n ∷ []) ≡ []
chosen-none old new n is = ap (λ (b : Bool). flat_map (slave_orders new) (cond b (n ∷ []) [])) is

pub reconfiguring-more : (old new : List Segment) (n : ℕ) → differs old new n ≡ true → reconfiguring (n + 1) old new ≡ reconfiguring n old new ++ slave_orders new n
reconfiguring-more old new n is =
    one_more (chosen old new) (chosen-grows old new) n ∙ ap (λ (t : List Pdu). reconfiguring n old new ++ t) (chosen-one old new n is)

pub reconfiguring-same : (old new : List Segment) (n : ℕ) → differs old new n ≡ false → reconfiguring (n + 1) old new ≡ reconfiguring n old new
reconfiguring-same old new n is =
    one_more (chosen old new) (chosen-grows old new) n ∙ ap (λ (t : List Pdu). reconfiguring n old new ++ t) (chosen-none old new n is) ∙ append-nil (reconfiguring n old new)

pub reconfiguring-rest : (old new : List Segment) (n count : ℕ) → n ≤ count → (rest : List Pdu) × (reconfiguring count old new ≡ reconfiguring n old new ++ rest)
reconfiguring-rest old new n count few = rest_of (chosen old new) (chosen-grows old new) n count few
