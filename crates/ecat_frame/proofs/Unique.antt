-- Bytes are at most one list of datagrams.
use Rattle.std.proofs.Common.{◌≡◌, ℕ, ◌-◌, ◌^◌, ◌<◌, Bool, true, false, List, [], ◌∷◌, ◌++◌, length, take, drop, refl, sym, ap, ◌∙◌, append_assoc, length-append, arith}
use Rattle.std.specs.Int.{w16, w32, to_le_bytes, from_le_bytes}
use Rattle.std.proofs.lemmas.Nat.{from_le_bytes-to_le_bytes_2, from_le_bytes-to_le_bytes_4}
use Rattle.ecat_frame.specs.Frame.{Pdu, datagram_bytes, length_word, follows, IsDatagram, spelled_datagram, spelled}
use Rattle.ecat_frame.specs.Fault.{NoDatagram}
use Rattle.ecat_frame.specs.Retained.{IsRest}
use Rattle.ecat_frame.proofs.Spelled.{same_pdu, length-datagram_bytes, IsDatagram-spelled}

-- two fronts of one length, of one list
pub same_fronts : (a b x y : List ℕ) → length a ≡ length b → a ++ x ≡ b ++ y → (a ≡ b) × (x ≡ y)
same_fronts [] [] x y len e = (refl, e)
same_fronts [] (b ∷ vs) x y len e = absurd (omega arith)
same_fronts (a ∷ us) [] x y len e = absurd (omega arith)
same_fronts (a ∷ us) (b ∷ vs) x y len e =
    let head : a ≡ b = cc in
    let tail : us ++ x ≡ vs ++ y = cc in
    let rest = same_fronts us vs x y (omega arith) tail in
    let fronts : us ≡ vs = rest.0 in
    (cc, rest.1)

pub pair_same : (m n : ℕ) → m < 2 ^ 16 → n < 2 ^ 16 → to_le_bytes w16 m ≡ to_le_bytes w16 n → m ≡ n
pair_same m n m_fits n_fits e = sym (from_le_bytes-to_le_bytes_2 m m_fits) ∙ ap (from_le_bytes w16) e ∙ from_le_bytes-to_le_bytes_2 n n_fits

four_same : (m n : ℕ) → m < 2 ^ 32 → n < 2 ^ 32 → to_le_bytes w32 m ≡ to_le_bytes w32 n → m ≡ n
four_same m n m_fits n_fits e = sym (from_le_bytes-to_le_bytes_4 m m_fits) ∙ ap (from_le_bytes w32) e ∙ from_le_bytes-to_le_bytes_4 n n_fits

length_word_fits : (len vacant : ℕ) (more : Bool) → len < 2 ^ 11 → vacant < 2 ^ 4 → length_word len vacant more < 2 ^ 16
length_word_fits len vacant true a b = omega arith
length_word_fits len vacant false a b = omega arith

length_word_same : (l k f g : ℕ) (m n : Bool) → l < 2 ^ 11 → k < 2 ^ 11 → f < 2 ^ 4 → g < 2 ^ 4 → length_word l f m ≡ length_word k g n → (l ≡ k) × (m ≡ n)
length_word_same l k f g true true a b c d e = (omega arith, refl)
length_word_same l k f g false false a b c d e = (omega arith, refl)
length_word_same l k f g true false a b c d e = absurd (omega arith)
length_word_same l k f g false true a b c d e = absurd (omega arith)

-- no datagram begins another
pub one_datagram : (a b x y : List ℕ) (d e : Pdu) (m n : Bool) → IsDatagram a d m → IsDatagram b e n → a ++ x ≡ b ++ y → (d ≡ e) × (m ≡ n) × (a ≡ b) × (x ≡ y)
one_datagram a b x y d e m n is_d is_e same =
    let word_d = length_word (length d.content) is_d.vacant m in
    let word_e = length_word (length e.content) is_e.vacant n in
    let entire : datagram_bytes d word_d is_d.irq ++ x ≡ datagram_bytes e word_e is_e.irq ++ y =
    sym (ap (λ (t : List ℕ). t ++ x) is_d.spelled) ∙ same ∙ ap (λ (t : List ℕ). t ++ y) is_e.spelled in
    let heads : d.command ∷ d.index ∷ to_le_bytes w32 d.address ++ to_le_bytes w16 word_d ≡ e.command ∷ e.index ∷ to_le_bytes w32 e.address ++ to_le_bytes w16 word_e = ap (take 8) entire in
    let command : d.command ≡ e.command = cc in
    let index : d.index ≡ e.index = cc in
    let address : d.address ≡ e.address = four_same d.address e.address is_d.fits.address is_e.fits.address (ap (λ (t : List ℕ). take 4 (drop 2 t)) heads) in
    let words : word_d ≡ word_e = pair_same word_d word_e (length_word_fits _ _ m is_d.fits.length is_d.free_fits) (length_word_fits _ _ n is_e.fits.length is_e.free_fits) (ap (drop 6) heads) in
    let same_word = length_word_same (length d.content) (length e.content) is_d.vacant is_e.vacant m n is_d.fits.length is_e.fits.length is_d.free_fits is_e.free_fits words in
    let regroup_d = append_assoc d.content (to_le_bytes w16 d.counter) x in
    let regroup_e = append_assoc e.content (to_le_bytes w16 e.counter) y in
    let tails : d.content ++ (to_le_bytes w16 d.counter ++ x) ≡ e.content ++ (to_le_bytes w16 e.counter ++ y) = sym regroup_d ∙ ap (drop 10) entire ∙ regroup_e in
    let contents = same_fronts d.content e.content (to_le_bytes w16 d.counter ++ x) (to_le_bytes w16 e.counter ++ y) same_word.0 tails in
    let counters = same_fronts (to_le_bytes w16 d.counter) (to_le_bytes w16 e.counter) x y refl contents.1 in
    let counter : d.counter ≡ e.counter = pair_same d.counter e.counter is_d.fits.counter is_e.fits.counter counters.0 in
    let lengths : length a ≡ length b =
    omega (arith, ap length is_d.spelled, ap length is_e.spelled, length-datagram_bytes d word_d is_d.irq, length-datagram_bytes e word_e is_e.irq, same_word.0) in
    (same_pdu d e command index address contents.0 counter, same_word.1, (same_fronts a b x y lengths same).0, counters.1)

-- ---- the datagrams that are left

pub no_rest : (bytes : List ℕ) (count : ℕ) (ds : List Pdu) → IsRest bytes count ds → NoDatagram bytes → ds ≡ []
no_rest bytes count [] rest none = refl
no_rest bytes count (d ∷ ds) rest none = absurd (none (spelled_datagram d (follows ds false)) (spelled ds false) d (follows ds false) rest.is_spelling (IsDatagram-spelled d (follows ds false) rest.fits.0))

-- what taking a datagram from those that are left leaves
pub record Leaves (ds : List Pdu) (count : ℕ) (d : Pdu) (rest : List ℕ) : Type 0 where
  pub others : List Pdu
  pub taken : ds ≡ d ∷ others
  pub left : IsRest rest (count - 1) others
  pub some : 0 < count

pub takes_rest : (bytes : List ℕ) (count : ℕ) (ds : List Pdu) (d : Pdu) (more : Bool) (rest : List ℕ) → IsRest bytes count ds
    → (first : List ℕ) × (bytes ≡ first ++ rest) × IsDatagram first d more → Leaves ds count d rest
takes_rest bytes count [] d more rest is taken =
    absurd (omega (arith, ap length is.is_spelling, ap length taken.1, length-append taken.0 rest, ap length taken.2.spelled, length-datagram_bytes d (length_word (length d.content) taken.2.vacant more) taken.2.irq))
takes_rest bytes count (e ∷ others) d more rest is taken =
    let one = one_datagram taken.0 (spelled_datagram e (follows others false)) rest (spelled others false) d e more (follows others false) taken.2
    (IsDatagram-spelled e (follows others false) is.fits.0) (sym taken.1 ∙ is.is_spelling) in
    record {
      others = others;
      taken = rw one.0 refl;
      left = record { is_spelling = one.3; fits = is.fits.1; counted = omega (arith, is.counted) };
      some = omega (arith, is.counted);
    }
