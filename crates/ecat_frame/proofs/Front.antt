-- What stands at the front of a list of bytes.
use Rattle.std.proofs.Common.{◌≡◌, ℕ, ◌+◌, ◌-◌, ◌*◌, ◌/◌, ◌%◌, ◌^◌, ◌<◌, ◌≤◌, Bool, true, false, cond, eqb, List, [], ◌∷◌, ◌++◌, length, get_or, take, drop, refl, sym, ap, subst, ◌∙◌, append_assoc, arith, inl, inr, ◌⊎◌}
use Rattle.std.specs.Prelude.{bit_and}
use Rattle.std.specs.Int.{w16, w32, to_le_bytes, from_le_bytes}
use Rattle.std.proofs.lemmas.Bool.{cases_lt, eqb-true}
use Rattle.std.proofs.lemmas.List.{get_or-append-add, get_or_append_left, get_or_past, take-append-drop, take_rest, length-take-le}
use Rattle.std.proofs.lemmas.Nat.{and_mask}
use mathlib.Core.Bool.{not}
use Rattle.ecat_frame.specs.declared.command.Command.TheVariants.{Fprd, Fpwr, Lrw, Other}
use Rattle.ecat_frame.specs.Command.{code_of, command_of}
use Rattle.ecat_frame.specs.Frame.{Pdu, IsDatagram, HasHeader, datagram_bytes, length_word}
use Rattle.ecat_frame.specs.Fault.{IsBadAt, bad_length}
use Rattle.ecat_frame.specs.Reading.{HasInside}
use Rattle.ecat_frame.proofs.Words.{length_word_read, header_word_read}

abbrev pub IsBytes : List ℕ → Type 0
IsBytes bytes = (i : ℕ) → get_or bytes i 0 < 256

-- the two bytes of a number that was read from two bytes
pair_bytes : (a b word : ℕ) → a < 256 → b < 256 → word ≡ a + b * 256 → a ∷ b ∷ [] ≡ to_le_bytes w16 word
pair_bytes a b word a_fits b_fits e =
    let low : a ≡ word % 256 = omega arith in
    let high : b ≡ word / 256 % 256 = omega arith in
    cc

-- the same with four
four_bytes : (a b c d n : ℕ) → a < 256 → b < 256 → c < 256 → d < 256 → n ≡ from_le_bytes w32 (a ∷ b ∷ c ∷ d ∷ []) → a ∷ b ∷ c ∷ d ∷ [] ≡ to_le_bytes w32 n
four_bytes a b c d n a_fits b_fits c_fits d_fits e =
    let e0 : a ≡ n % 256 = omega arith in
    let e1 : b ≡ n / 256 % 256 = omega arith in
    let e2 : c ≡ n / 256 ^ 2 % 256 = omega arith in
    let e3 : d ≡ n / 256 ^ 3 % 256 = omega arith in
    cc

-- a header of two bytes
pub has_header : (bytes : List ℕ) → IsBytes bytes → 2 ≤ length bytes → (word : ℕ) → word ≡ from_le_bytes w16 (get_or bytes 0 0 ∷ get_or bytes 1 0 ∷ [])
    → HasHeader bytes (bit_and word 2047) (word / 2 ^ 12) (drop 2 bytes)
has_header [] fits len word e = absurd (omega arith)
has_header (a ∷ []) fits len word e = absurd (omega arith)
has_header (a ∷ b ∷ bytes) fits len word e =
    let low : a < 256 = fits 0 in
    let high : b < 256 = fits 1 in
    let lt : word < 2 ^ 16 = omega arith in
    let cells : a ∷ b ∷ [] ≡ to_le_bytes w16 word = pair_bytes a b word low high e in
    record {
      stated_fits = rw (and_mask word 11) (omega arith);
      reserved = word / 2 ^ 11 % 2;
      reserved_fits = omega arith;
      type_fits = omega arith;
      spelled = ap (λ (front : List ℕ). front ++ bytes) cells ∙ ap (λ (w : ℕ). to_le_bytes w16 w ++ bytes) (header_word_read word lt);
    }

-- A slice pattern shows what stands behind the first two bytes in this form.
pub header_inside : (bytes : List ℕ) (stated type : ℕ) → HasHeader bytes stated type (drop 2 bytes) → type ≡ 1
    → stated ≤ length (take (length bytes - 2) (drop 2 bytes)) → stated ≤ 1498 → HasInside bytes (take stated (take (length bytes - 2) (drop 2 bytes)))
header_inside bytes stated type header e there room =
    let after = drop 2 bytes in
    let all : take (length bytes - 2) after ≡ after = take_rest bytes 2 in
    let len : length (take stated after) ≡ stated = length-take-le stated after (subst (λ (b : List ℕ). stated ≤ length b) all there) in
    let cut : HasHeader bytes (length (take stated after)) 1 (take stated after ++ drop stated after) = rw (len, take-append-drop stated after, ← e) header in
    rw all (drop stated after, cut, rw len room)

pub header_outside : (bytes : List ℕ) (stated type : ℕ) → HasHeader bytes stated type (drop 2 bytes) → type ≡ 1
    → (1498 < stated) ⊎ ((stated ≤ 1498) × (length (take (length bytes - 2) (drop 2 bytes)) < stated)) → IsBadAt bytes 0
header_outside bytes stated type header e (inl long) = bad_length stated (drop 2 bytes) (rw (← e) header) (inl long) refl
header_outside bytes stated type header e (inr short) =
    bad_length stated (drop 2 bytes) (rw (← e) header) (inr (subst (λ (b : List ℕ). length b < stated) (take_rest bytes 2) short.1)) refl

-- a datagram of ten bytes, its content and two more
is_datagram : (c i a0 a1 a2 a3 w0 w1 q0 q1 x y word address counter : ℕ) (content : List ℕ)
    → IsBytes (c ∷ i ∷ a0 ∷ a1 ∷ a2 ∷ a3 ∷ w0 ∷ w1 ∷ q0 ∷ q1 ∷ []) → x < 256 → y < 256
    → word ≡ w0 + w1 * 256 → address ≡ from_le_bytes w32 (a0 ∷ a1 ∷ a2 ∷ a3 ∷ []) → counter ≡ x + y * 256 → length content ≡ bit_and word 2047
    → IsDatagram (c ∷ i ∷ a0 ∷ a1 ∷ a2 ∷ a3 ∷ w0 ∷ w1 ∷ q0 ∷ q1 ∷ (content ++ x ∷ y ∷ []))
    (record { command = c; index = i; address = address; content = content; counter = counter }) (not (eqb (bit_and word 32768) 0))
is_datagram c i a0 a1 a2 a3 w0 w1 q0 q1 x y word address counter content fits x_fits y_fits word_is address_is counter_is len =
    let b2 : a0 < 256 = fits 2 in
    let b3 : a1 < 256 = fits 3 in
    let b4 : a2 < 256 = fits 4 in
    let b5 : a3 < 256 = fits 5 in
    let b6 : w0 < 256 = fits 6 in
    let b7 : w1 < 256 = fits 7 in
    let b8 : q0 < 256 = fits 8 in
    let b9 : q1 < 256 = fits 9 in
    let lt : word < 2 ^ 16 = omega arith in
    let irq = q0 + q1 * 256 in
    let p : Pdu = record { command = c; index = i; address = address; content = content; counter = counter } in
    let vacant = word / 2 ^ 11 % 2 ^ 4 in
    let more = not (eqb (bit_and word 32768) 0) in
    let spelled_word : word ≡ length_word (length content) vacant more = rw len (length_word_read word lt) in
    let four = four_bytes a0 a1 a2 a3 address b2 b3 b4 b5 address_is in
    let two = pair_bytes w0 w1 word b6 b7 word_is in
    let irq_two = pair_bytes q0 q1 irq b8 b9 refl in
    let counted = pair_bytes x y counter x_fits y_fits counter_is in
    record {
      fits = record { address = omega arith; length = rw (len, and_mask word 11) (omega arith); counter = omega arith };
      vacant = vacant;
      free_fits = omega arith;
      irq = irq;
      irq_fits = omega arith;
      spelled = ap (λ (xs : List ℕ). c ∷ i ∷ (xs ++ w0 ∷ w1 ∷ q0 ∷ q1 ∷ (content ++ x ∷ y ∷ []))) four
          ∙ ap (λ (xs : List ℕ). c ∷ i ∷ (to_le_bytes w32 address ++ (xs ++ q0 ∷ q1 ∷ (content ++ x ∷ y ∷ [])))) two
          ∙ ap (λ (xs : List ℕ). c ∷ i ∷ (to_le_bytes w32 address ++ (to_le_bytes w16 word ++ (xs ++ (content ++ x ∷ y ∷ []))))) irq_two
          ∙ ap (λ (xs : List ℕ). c ∷ i ∷ (to_le_bytes w32 address ++ (to_le_bytes w16 word ++ (to_le_bytes w16 irq ++ (content ++ xs))))) counted
          ∙ ap (λ (w : ℕ). datagram_bytes p w irq) spelled_word;
    }

ten_cells : (bytes : List ℕ) → 10 ≤ length bytes → bytes ≡ get_or bytes 0 0 ∷ get_or bytes 1 0 ∷ get_or bytes 2 0 ∷ get_or bytes 3 0 ∷ get_or bytes 4 0
    ∷ get_or bytes 5 0 ∷ get_or bytes 6 0 ∷ get_or bytes 7 0 ∷ get_or bytes 8 0 ∷ get_or bytes 9 0 ∷ drop 10 bytes
ten_cells (a ∷ b ∷ c ∷ d ∷ e ∷ f ∷ g ∷ h ∷ i ∷ j ∷ bytes) len = refl
ten_cells _ len = absurd (omega arith)

two_cells : (bytes : List ℕ) → length bytes ≡ 2 → bytes ≡ get_or bytes 0 0 ∷ get_or bytes 1 0 ∷ []
two_cells (a ∷ b ∷ []) len = refl
two_cells _ len = absurd (omega arith)

-- a byte is a byte wherever it stands
IsBytes-part : (front part rest : List ℕ) → IsBytes (front ++ (part ++ rest)) → (k : ℕ) → k < length part → get_or part k 0 < 256
IsBytes-part front part rest fits k lt =
    let e : get_or (front ++ (part ++ rest)) (length front + k) 0 ≡ get_or part k 0 = get_or-append-add front (part ++ rest) k 0 ∙ get_or_append_left part rest 0 k lt in
    rw (← e) (fits (length front + k))

IsBytes-front : (front rest : List ℕ) → IsBytes (front ++ rest) → IsBytes front
IsBytes-front front rest fits k =
    elim (cases_lt k (length front)) [
      | inl lt ↦ rw (← get_or_append_left front rest 0 k lt) (fits k)
      | inr le ↦ rw (get_or_past front k 0 le) (omega arith)
    ]

code_of_choice : (n : ℕ) (a b c : Bool) → (a ≡ true → n ≡ 4) → (b ≡ true → n ≡ 5) → (c ≡ true → n ≡ 12) → code_of (cond a Fprd (cond b Fpwr (cond c Lrw (Other n)))) ≡ n
code_of_choice n true b c p q r = sym (p refl)
code_of_choice n false true c p q r = sym (q refl)
code_of_choice n false false true p q r = sym (r refl)
code_of_choice n false false false p q r = refl

-- a byte stands for a command of that code
pub code_of-command_of : (n : ℕ) → code_of (command_of n) ≡ n
code_of-command_of n = code_of_choice n (eqb n 4) (eqb n 5) (eqb n 12) (eqb-true n 4) (eqb-true n 5) (eqb-true n 12)

-- what reading ten bytes, a content and a working counter finds
pub takes_datagram : (bytes content counted rest : List ℕ) (command word address counter : ℕ) → IsBytes bytes → 10 ≤ length bytes
    → command ≡ get_or bytes 0 0 → word ≡ get_or bytes 6 0 + get_or bytes 7 0 * 256
    → address ≡ from_le_bytes w32 (get_or bytes 2 0 ∷ get_or bytes 3 0 ∷ get_or bytes 4 0 ∷ get_or bytes 5 0 ∷ [])
    → counter ≡ get_or counted 0 0 + get_or counted 1 0 * 256 → length content ≡ bit_and word 2047 → length counted ≡ 2
    → drop 10 bytes ≡ content ++ (counted ++ rest)
    → (first : List ℕ) × (bytes ≡ first ++ rest) × IsDatagram first
    (record { command = command; index = get_or bytes 1 0; address = address; content = content; counter = counter }) (not (eqb (bit_and word 32768) 0))
takes_datagram bytes content counted rest command word address counter fits len command_is word_is address_is counter_is content_len counted_len after =
    let ten = ten_cells bytes len in
    let two = two_cells counted counted_len in
    let head = take 10 bytes in
    let entire : bytes ≡ (head ++ content) ++ (counted ++ rest) = sym (take-append-drop 10 bytes) ∙ ap (λ (b : List ℕ). head ++ b) after ∙ sym (append_assoc head content (counted ++ rest)) in
    let part : (k : ℕ) → k < length counted → get_or counted k 0 < 256 = IsBytes-part (head ++ content) counted rest (subst IsBytes entire fits) in
    let x = get_or counted 0 0 in
    let y = get_or counted 1 0 in
    let x_fits : x < 256 = part 0 (omega arith) in
    let y_fits : y < 256 = part 1 (omega arith) in
    let ten_fit = IsBytes-front (get_or bytes 0 0 ∷ get_or bytes 1 0 ∷ get_or bytes 2 0 ∷ get_or bytes 3 0 ∷ get_or bytes 4 0 ∷ get_or bytes 5 0
    ∷ get_or bytes 6 0 ∷ get_or bytes 7 0 ∷ get_or bytes 8 0 ∷ get_or bytes 9 0 ∷ []) (drop 10 bytes) (subst IsBytes ten fits) in
    let cells = λ (c : ℕ) (t : List ℕ). c ∷ get_or bytes 1 0 ∷ get_or bytes 2 0 ∷ get_or bytes 3 0 ∷ get_or bytes 4 0 ∷ get_or bytes 5 0
    ∷ get_or bytes 6 0 ∷ get_or bytes 7 0 ∷ get_or bytes 8 0 ∷ get_or bytes 9 0 ∷ t in
    let last : content ++ (counted ++ rest) ≡ (content ++ x ∷ y ∷ []) ++ rest = ap (λ (t : List ℕ). content ++ (t ++ rest)) two ∙ sym (append_assoc content (x ∷ y ∷ []) rest) in (
      cells (get_or bytes 0 0) (content ++ x ∷ y ∷ []),
      ten ∙ ap (cells (get_or bytes 0 0)) (after ∙ last),
      rw command_is (is_datagram (get_or bytes 0 0) (get_or bytes 1 0) (get_or bytes 2 0) (get_or bytes 3 0) (get_or bytes 4 0) (get_or bytes 5 0)
          (get_or bytes 6 0) (get_or bytes 7 0) (get_or bytes 8 0) (get_or bytes 9 0) x y word address counter content ten_fit x_fits y_fits word_is address_is counter_is content_len),
    )

-- Two cuts of what a slice pattern shows after the first ten bytes.
pub cut_twice : (bytes content after counted rest : List ℕ) (n : ℕ) → content ≡ take n (take (length bytes - 10) (drop 10 bytes))
    → after ≡ drop n (take (length bytes - 10) (drop 10 bytes)) → counted ≡ take 2 after → rest ≡ drop 2 after → drop 10 bytes ≡ content ++ (counted ++ rest)
cut_twice bytes content after counted rest n content_is after_is counted_is rest_is =
    let all : take (length bytes - 10) (drop 10 bytes) ≡ drop 10 bytes = take_rest bytes 10 in
    sym (rw (counted_is, rest_is, take-append-drop 2 after, content_is, after_is, all, take-append-drop n (drop 10 bytes)) refl)
