-- Bytes are at most one list of datagrams, or have one place of a first fault, and not both.
use Rattle.std.proofs.Common.{◌≡◌, ℕ, ◌<◌, ◌≤◌, Bool, true, false, List, [], ◌∷◌, ◌++◌, length, refl, sym, ap, subst, ◌∙◌, append_assoc, length-append, arith, inl, inr, ◌⊎◌}
use Rattle.std.specs.Int.{w16, to_le_bytes}
use Rattle.std.proofs.lemmas.List.{append-nil}
use Rattle.ecat_frame.specs.Frame.{Pdu, header_word, follows, IsDatagram, AreDatagrams, HasHeader, IsFrame}
use Rattle.ecat_frame.specs.Fault.{NoDatagram, BreaksOff, not_complete, surplus, IsBadAt, no_header, other_type, bad_length, broken}
use Rattle.ecat_frame.proofs.Unique.{one_datagram, same_fronts, pair_same}
use Rattle.ecat_frame.proofs.SoFar.{length-datagram}

-- a datagram stands at the front of the bytes
abbrev Begins : List ℕ → Type 0
Begins bytes = (first : List ℕ) × (rest : List ℕ) × (d : Pdu) × (more : Bool) × (bytes ≡ first ++ rest) × IsDatagram first d more

-- two readings of the same bytes: they are one, or one goes on where the other stops
data Compared (a x b y : List ℕ) (ds es : List Pdu) (m n : Bool) : Type 0 where
  same : a ≡ b → x ≡ y → ds ≡ es → (0 < length a → m ≡ n) → Compared a x b y ds es m n
  first_stops : length a < length b → Begins x → (0 < length a → m ≡ true) → Compared a x b y ds es m n
  second_stops : length b < length a → Begins y → (0 < length b → n ≡ true) → Compared a x b y ds es m n

-- the last bit 15 of a reading one datagram longer
longer_bit : (ds : List Pdu) (m : Bool) (t : List ℕ) → AreDatagrams t ds m → (0 < length t → m ≡ true) → (follows ds m ≡ true) → m ≡ true
longer_bit [] m t are short bit = bit
longer_bit (d ∷ ds) m t are short bit =
    short (omega (arith, ap length are.2, length-append are.0 are.1, length-datagram are.0 d (follows ds m) are.3))

same_bit : (ds es : List Pdu) (m n : Bool) (t : List ℕ) → AreDatagrams t ds m → ds ≡ es → (0 < length t → m ≡ n) → follows ds m ≡ follows es n → m ≡ n
same_bit [] [] m n t are e short bit = bit
same_bit [] (b ∷ es) m n t are e short bit = absurd cc
same_bit (d ∷ ds) es m n t are e short bit =
    short (omega (arith, ap length are.2, length-append are.0 are.1, length-datagram are.0 d (follows ds m) are.3))

-- a reading that is longer than another has datagrams
follows_more : (es : List Pdu) (n : Bool) (t : List ℕ) (k : ℕ) → AreDatagrams t es n → k < length t → follows es n ≡ true
follows_more [] n t k are lt = absurd (omega (arith, ap length are))
follows_more (e ∷ es) n t k are lt = refl

longer : (front ta x tb y : List ℕ) (d : Pdu) (ds es : List Pdu) (m n : Bool) → AreDatagrams ta ds m → AreDatagrams tb es n → follows ds m ≡ follows es n
    → Compared ta x tb y ds es m n → Compared (front ++ ta) x (front ++ tb) y (d ∷ ds) (d ∷ es) m n
longer front ta x tb y d ds es m n as_a as_b bit (same t u v w) =
    same (ap (λ (s : List ℕ). front ++ s) t) u (ap (λ (s : List Pdu). d ∷ s) v) (λ _. same_bit ds es m n ta as_a v w bit)
longer front ta x tb y d ds es m n as_a as_b bit (first_stops lt more short) =
    first_stops (omega (arith, length-append front ta, length-append front tb)) more
    (λ _. longer_bit ds m ta as_a short (bit ∙ follows_more es n tb (length ta) as_b lt))
longer front ta x tb y d ds es m n as_a as_b bit (second_stops lt more short) =
    second_stops (omega (arith, length-append front ta, length-append front tb)) more
    (λ _. longer_bit es n tb as_b short (sym bit ∙ follows_more ds m ta (length tb) as_a lt))

compare_readings : (a x b y : List ℕ) (ds es : List Pdu) (m n : Bool) → AreDatagrams a ds m → AreDatagrams b es n → a ++ x ≡ b ++ y → Compared a x b y ds es m n
compare_readings a x b y [] [] m n as_a as_b e =
    same (as_a ∙ sym as_b) (ap (λ (s : List ℕ). s ++ x) (sym as_a) ∙ e ∙ ap (λ (s : List ℕ). s ++ y) as_b) refl (λ lt. absurd (omega (arith, ap length as_a)))
compare_readings a x b y [] (g ∷ es) m n as_a as_b e =
    let x_is : x ≡ as_b.0 ++ (as_b.1 ++ y) = ap (λ (s : List ℕ). s ++ x) (sym as_a) ∙ e ∙ ap (λ (s : List ℕ). s ++ y) as_b.2 ∙ append_assoc as_b.0 as_b.1 y in
    first_stops (omega (arith, ap length as_a, ap length as_b.2, length-append as_b.0 as_b.1, length-datagram as_b.0 g (follows es n) as_b.3))
    (as_b.0, as_b.1 ++ y, g, follows es n, x_is, as_b.3) (λ lt. absurd (omega (arith, ap length as_a)))
compare_readings a x b y (d ∷ ds) [] m n as_a as_b e =
    let y_is : y ≡ as_a.0 ++ (as_a.1 ++ x) = ap (λ (s : List ℕ). s ++ y) (sym as_b) ∙ sym e ∙ ap (λ (s : List ℕ). s ++ x) as_a.2 ∙ append_assoc as_a.0 as_a.1 x in
    second_stops (omega (arith, ap length as_b, ap length as_a.2, length-append as_a.0 as_a.1, length-datagram as_a.0 d (follows ds m) as_a.3))
    (as_a.0, as_a.1 ++ x, d, follows ds m, y_is, as_a.3) (λ lt. absurd (omega (arith, ap length as_b)))
compare_readings a x b y (d ∷ ds) (g ∷ es) m n as_a as_b e =
    let cut : as_a.0 ++ (as_a.1 ++ x) ≡ as_b.0 ++ (as_b.1 ++ y) =
    sym (append_assoc as_a.0 as_a.1 x) ∙ ap (λ (s : List ℕ). s ++ x) (sym as_a.2) ∙ e ∙ ap (λ (s : List ℕ). s ++ y) as_b.2 ∙ append_assoc as_b.0 as_b.1 y in
    let one = one_datagram as_a.0 as_b.0 (as_a.1 ++ x) (as_b.1 ++ y) d g (follows ds m) (follows es n) as_a.3 as_b.3 cut in
    let tails = compare_readings as_a.1 x as_b.1 y ds es m n as_a.4 as_b.4 one.3 in
    let entire = longer as_a.0 as_a.1 x as_b.1 y d ds es m n as_a.4 as_b.4 one.1 tails in
    let b_is : as_a.0 ++ as_b.1 ≡ b = ap (λ (s : List ℕ). s ++ as_b.1) one.2 ∙ sym as_b.2 in
    subst (λ (s : List ℕ). Compared s x b y (d ∷ ds) (g ∷ es) m n) (sym as_a.2)
    (subst (λ (s : List ℕ). Compared (as_a.0 ++ as_a.1) x s y (d ∷ ds) (g ∷ es) m n) b_is
    (subst (λ (s : Pdu). Compared (as_a.0 ++ as_a.1) x (as_a.0 ++ as_b.1) y (d ∷ ds) (s ∷ es) m n) one.0 entire))

-- ---- datagrams inside a stated length

pub one_list : (inside : List ℕ) (ds es : List Pdu) → AreDatagrams inside ds false → AreDatagrams inside es false → ds ≡ es
one_list inside ds es as_a as_b =
    elim (compare_readings inside [] inside [] ds es false false as_a as_b refl) [
      | same t u v w ↦ v
      | first_stops lt more short ↦ absurd (omega arith)
      | second_stops lt more short ↦ absurd (omega arith)
    ]

nothing_begins : (x : List ℕ) → Begins x → 0 < length x
nothing_begins x begins = omega (arith, ap length begins.4, length-append begins.0 begins.1, length-datagram begins.0 begins.2 begins.3 begins.5)

none_begins : (x : List ℕ) → NoDatagram x → Begins x → ⊥
none_begins x none begins = none begins.0 begins.1 begins.2 begins.3 begins.4 begins.5

complete_or_broken : (before rest inside : List ℕ) (ds es : List Pdu) → inside ≡ before ++ rest → 0 < length inside → AreDatagrams before ds true → NoDatagram rest
    → AreDatagrams inside es false → ⊥
complete_or_broken before rest inside ds es entire some as_a none as_b =
    elim (compare_readings before rest inside [] ds es true false as_a as_b (sym entire ∙ sym (append-nil inside))) [
      | same t u v w ↦ let bit : true ≡ false = w (omega (arith, ap length t)) in cc
      | first_stops lt more short ↦ none_begins rest none more
      | second_stops lt more short ↦ omega (arith, ap length entire, length-append before rest)
    ]

complete_or_surplus : (before rest inside : List ℕ) (ds es : List Pdu) → inside ≡ before ++ rest → 0 < length before → 0 < length rest → AreDatagrams before ds false
    → AreDatagrams inside es false → ⊥
complete_or_surplus before rest inside ds es entire some more as_a as_b =
    elim (compare_readings before rest inside [] ds es false false as_a as_b (sym entire ∙ sym (append-nil inside))) [
      | same t u v w ↦ omega (arith, ap length u)
      | first_stops lt begins short ↦ let bit : false ≡ true = short some in cc
      | second_stops lt begins short ↦ omega (arith, ap length entire, length-append before rest)
    ]

-- what breaks off is no list of datagrams
pub no_list : (inside : List ℕ) (at : ℕ) (es : List Pdu) → BreaksOff inside at → AreDatagrams inside es false → ⊥
no_list inside at es (not_complete before rest ds entire some as_a none place) as_b = complete_or_broken before rest inside ds es entire some as_a none as_b
no_list inside at es (surplus before rest ds entire some more as_a place) as_b = complete_or_surplus before rest inside ds es entire some more as_a as_b

both_broken : (a x b y : List ℕ) (ds es : List Pdu) → a ++ x ≡ b ++ y → AreDatagrams a ds true → AreDatagrams b es true → NoDatagram x → NoDatagram y → length a ≡ length b
both_broken a x b y ds es e as_a as_b none none' =
    elim (compare_readings a x b y ds es true true as_a as_b e) [
      | same t u v w ↦ ap length t
      | first_stops lt more short ↦ absurd (none_begins x none more)
      | second_stops lt more short ↦ absurd (none_begins y none' more)
    ]

both_surplus : (a x b y : List ℕ) (ds es : List Pdu) → a ++ x ≡ b ++ y → 0 < length a → 0 < length b → AreDatagrams a ds false → AreDatagrams b es false → length a ≡ length b
both_surplus a x b y ds es e some some' as_a as_b =
    elim (compare_readings a x b y ds es false false as_a as_b e) [
      | same t u v w ↦ ap length t
      | first_stops lt more short ↦ let bit : false ≡ true = short some in absurd cc
      | second_stops lt more short ↦ let bit : false ≡ true = short some' in absurd cc
    ]

broken_or_surplus : (a x b y : List ℕ) (ds es : List Pdu) → a ++ x ≡ b ++ y → 0 < length b → AreDatagrams a ds true → AreDatagrams b es false → NoDatagram x → ⊥
broken_or_surplus a x b y ds es e some as_a as_b none =
    elim (compare_readings a x b y ds es true false as_a as_b e) [
      | same t u v w ↦ let bit : true ≡ false = w (omega (arith, ap length t)) in cc
      | first_stops lt more short ↦ none_begins x none more
      | second_stops lt more short ↦ let bit : false ≡ true = short some in cc
    ]

-- datagrams break off at one place
pub one_place : (inside : List ℕ) (at at' : ℕ) → BreaksOff inside at → BreaksOff inside at' → at ≡ at'
one_place inside at at' (not_complete a x ds entire some as_a none place) (not_complete b y es entire' some' as_b none' place') =
    omega (arith, place, place', both_broken a x b y ds es (sym entire ∙ entire') as_a as_b none none')
one_place inside at at' (not_complete a x ds entire some as_a none place) (surplus b y es entire' some' more' as_b place') =
    absurd (broken_or_surplus a x b y ds es (sym entire ∙ entire') some' as_a as_b none)
one_place inside at at' (surplus a x ds entire some more as_a place) (not_complete b y es entire' some' as_b none' place') =
    absurd (broken_or_surplus b y a x es ds (sym entire' ∙ entire) some as_b as_a none')
one_place inside at at' (surplus a x ds entire some more as_a place) (surplus b y es entire' some' more' as_b place') =
    omega (arith, place, place', both_surplus a x b y ds es (sym entire ∙ entire') some some' as_a as_b)

-- ---- whole frames

header_long : (bytes : List ℕ) (stated type : ℕ) (after : List ℕ) → HasHeader bytes stated type after → 2 ≤ length bytes
header_long bytes stated type after header = omega (arith, ap length header.spelled)

one_header : (bytes : List ℕ) (s t : ℕ) (b : List ℕ) (s' t' : ℕ) (b' : List ℕ) → HasHeader bytes s t b → HasHeader bytes s' t' b' → (s ≡ s') × (t ≡ t') × (b ≡ b')
one_header bytes s t b s' t' b' h h' =
    let front = to_le_bytes w16 (header_word s h.reserved t) in
    let front' = to_le_bytes w16 (header_word s' h'.reserved t') in
    let parts = same_fronts front front' b b' refl (sym h.spelled ∙ h'.spelled) in
    let s_fits = h.stated_fits in
    let r_fits = h.reserved_fits in
    let t_fits = h.type_fits in
    let s_fits' = h'.stated_fits in
    let r_fits' = h'.reserved_fits in
    let t_fits' = h'.type_fits in
    let word : header_word s h.reserved t ≡ header_word s' h'.reserved t' =
    pair_same (header_word s h.reserved t) (header_word s' h'.reserved t') (omega arith) (omega arith) parts.0 in
    (omega arith, omega arith, parts.1)

one_inside : (bytes i p j q : List ℕ) → HasHeader bytes (length i) 1 (i ++ p) → HasHeader bytes (length j) 1 (j ++ q) → i ≡ j
one_inside bytes i p j q h h' =
    let one = one_header bytes (length i) 1 (i ++ p) (length j) 1 (j ++ q) h h' in
    (same_fronts i j p q one.0 one.2).0

-- bytes are a frame of one list of datagrams
pub one_frame : (bytes : List ℕ) (ds es : List Pdu) → IsFrame bytes ds → IsFrame bytes es → ds ≡ es
one_frame bytes ds es f g =
    let inside = one_inside bytes f.inside f.padding g.inside g.padding f.header g.header in
    one_list f.inside ds es f.datagrams (rw inside g.datagrams)

-- bytes that are bad are no frame
pub no_frame : (bytes : List ℕ) (at : ℕ) (ds : List Pdu) → IsBadAt bytes at → IsFrame bytes ds → ⊥
no_frame bytes at ds (no_header short place) f = omega (arith, header_long bytes (length f.inside) 1 (f.inside ++ f.padding) f.header)
no_frame bytes at ds (other_type stated type after header other place) f = other (one_header bytes stated type after (length f.inside) 1 (f.inside ++ f.padding) header f.header).1
no_frame bytes at ds (bad_length stated after header bad place) f =
    let one = one_header bytes stated 1 after (length f.inside) 1 (f.inside ++ f.padding) header f.header in
    let room = f.room in
    let long = length-append f.inside f.padding in
    elim bad [ inl over ↦ omega (arith, one.0) | inr short ↦ omega (arith, one.0, ap length one.2) ]
no_frame bytes at ds (broken inside padding header room breaks) f =
    let same_inside = one_inside bytes inside padding f.inside f.padding header f.header in
    no_list inside at ds breaks (rw same_inside f.datagrams)

bad_or_broken : (bytes : List ℕ) (stated : ℕ) (after inside padding : List ℕ) → HasHeader bytes stated 1 after → (1498 < stated) ⊎ (length after < stated)
    → HasHeader bytes (length inside) 1 (inside ++ padding) → length inside ≤ 1498 → ⊥
bad_or_broken bytes stated after inside padding h bad h' room =
    let one = one_header bytes stated 1 after (length inside) 1 (inside ++ padding) h h' in
    let long = length-append inside padding in
    elim bad [ inl over ↦ omega (arith, one.0) | inr short ↦ omega (arith, one.0, ap length one.2) ]

-- bytes are bad at one place
pub one_fault : (bytes : List ℕ) (at at' : ℕ) → IsBadAt bytes at → IsBadAt bytes at' → at ≡ at'
one_fault bytes at at' (no_header short place) (no_header short' place') = place ∙ sym place'
one_fault bytes at at' (no_header short place) (other_type s t b h other place') = absurd (omega (arith, header_long bytes s t b h))
one_fault bytes at at' (no_header short place) (bad_length s b h bad place') = place ∙ sym place'
one_fault bytes at at' (no_header short place) (broken i p h room breaks) = absurd (omega (arith, header_long bytes (length i) 1 (i ++ p) h))
one_fault bytes at at' (other_type s t b h other place) (no_header short' place') = absurd (omega (arith, header_long bytes s t b h))
one_fault bytes at at' (other_type s t b h other place) (other_type s' t' b' h' other' place') = place ∙ sym place'
one_fault bytes at at' (other_type s t b h other place) (bad_length s' b' h' bad place') = absurd (other (one_header bytes s t b s' 1 b' h h').1)
one_fault bytes at at' (other_type s t b h other place) (broken i p h' room breaks) = absurd (other (one_header bytes s t b (length i) 1 (i ++ p) h h').1)
one_fault bytes at at' (bad_length s b h bad place) (no_header short' place') = place ∙ sym place'
one_fault bytes at at' (bad_length s b h bad place) (other_type s' t' b' h' other' place') = absurd (other' (one_header bytes s' t' b' s 1 b h' h).1)
one_fault bytes at at' (bad_length s b h bad place) (bad_length s' b' h' bad' place') = place ∙ sym place'
one_fault bytes at at' (bad_length s b h bad place) (broken i p h' room breaks) = absurd (bad_or_broken bytes s b i p h bad h' room)
one_fault bytes at at' (broken i p h room breaks) (no_header short' place') = absurd (omega (arith, header_long bytes (length i) 1 (i ++ p) h))
one_fault bytes at at' (broken i p h room breaks) (other_type s' t' b' h' other' place') = absurd (other' (one_header bytes s' t' b' (length i) 1 (i ++ p) h' h).1)
one_fault bytes at at' (broken i p h room breaks) (bad_length s b h' bad place') = absurd (bad_or_broken bytes s b i p h' bad h room)
one_fault bytes at at' (broken i p h room breaks) (broken j q h' room' breaks') =
    one_place i at at' breaks (rw (one_inside bytes i p j q h h') breaks')
