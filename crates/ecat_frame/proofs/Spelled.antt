-- The canonical encoding: its length, its datagrams, and what one more datagram changes.
use Rattle.std.proofs.Common.{◌≡◌, ℕ, ◌+◌, ◌-◌, ◌/◌, ◌%◌, ◌^◌, ◌<◌, ◌≤◌, Bool, true, false, List, [], ◌∷◌, ◌++◌, length, get_or, set, take, drop, refl, sym, ap, subst, ◌∙◌, append_assoc, length-append, length-drop, arith}
use Rattle.std.specs.Prelude.{bit_or}
use Rattle.std.specs.Int.{w16, to_le_bytes, from_le_bytes}
use Rattle.std.specs.List.{AllByRecursion}
use Rattle.std.proofs.lemmas.List.{append-nil, take_at, drop_at, drop-drop, set-append_right, get_or-append-add}
use Rattle.std.proofs.lemmas.Nat.{or_comm, or_shifted}
use Rattle.std.proofs.lemmas.Nat.{from_le_bytes-to_le_bytes_2, from_le_bytes-to_le_bytes_4}
use Rattle.ecat_frame.specs.Frame.{Pdu, Fits, datagram_bytes, length_word, header_word, follows, spelled_datagram, spelled, spelling, IsDatagram, AreDatagrams, IsFrame}
use Rattle.ecat_frame.specs.Retained.{first_length, first_pdu, pdus, last_at, Keeps, IsRest}

pub same_pdu : (a b : Pdu) → a.command ≡ b.command → a.index ≡ b.index → a.address ≡ b.address → a.content ≡ b.content → a.counter ≡ b.counter → a ≡ b
same_pdu a b p q r s t = λ i. record { command = p i; index = q i; address = r i; content = s i; counter = t i }

-- how long a datagram is
pub length-datagram_bytes : (d : Pdu) (word irq : ℕ) → length (datagram_bytes d word irq) ≡ 12 + length d.content
length-datagram_bytes d word irq = omega (arith, length-append d.content (to_le_bytes w16 d.counter))

pub length-spelled_datagram : (d : Pdu) (more : Bool) → length (spelled_datagram d more) ≡ 12 + length d.content
length-spelled_datagram d more = length-datagram_bytes d (length_word (length d.content) 0 more) 0

first_length_is : (d : Pdu) (more : Bool) (rest : List ℕ) → Fits d → first_length (spelled_datagram d more ++ rest) ≡ length d.content
first_length_is d true rest fits = let lt : length d.content < 2 ^ 11 = fits.length in omega arith
first_length_is d false rest fits = let lt : length d.content < 2 ^ 11 = fits.length in omega arith

first_pdu_is : (d : Pdu) (more : Bool) (rest : List ℕ) → Fits d → first_pdu (spelled_datagram d more ++ rest) ≡ d
unfolding first_pdu
first_pdu_is d more rest fits =
    let bytes = spelled_datagram d more ++ rest in
    let n : first_length bytes ≡ length d.content = first_length_is d more rest fits in
    let tail = (d.content ++ to_le_bytes w16 d.counter) ++ rest in
    let regrouped : tail ≡ d.content ++ (to_le_bytes w16 d.counter ++ rest) = append_assoc d.content (to_le_bytes w16 d.counter) rest in
    let content : take (first_length bytes) tail ≡ d.content = rw (n, regrouped) (take_at d.content (to_le_bytes w16 d.counter ++ rest) (length d.content) refl) in
    let after : drop (10 + first_length bytes) bytes ≡ to_le_bytes w16 d.counter ++ rest =
    rw n (sym (drop-drop (length d.content) 10 bytes) ∙ rw regrouped (drop_at d.content (to_le_bytes w16 d.counter ++ rest) (length d.content) refl)) in
    let counter : from_le_bytes w16 (take 2 (drop (10 + first_length bytes) bytes)) ≡ d.counter = rw after (from_le_bytes-to_le_bytes_2 d.counter fits.counter) in
    same_pdu (first_pdu bytes) d refl refl (from_le_bytes-to_le_bytes_4 d.address fits.address) content counter

-- the datagrams of the spelling are those that it spells
pub pdus-spelled : (ds : List Pdu) (more : Bool) → AllByRecursion Fits ds → pdus (length ds) (spelled ds more) ≡ ds
unfolding pdus
pdus-spelled [] more fits = refl
pdus-spelled (d ∷ ds) more fits =
    let one = spelled_datagram d (follows ds more) in
    let n : first_length (one ++ spelled ds more) ≡ length d.content = first_length_is d (follows ds more) (spelled ds more) fits.0 in
    let after : drop (12 + first_length (one ++ spelled ds more)) (one ++ spelled ds more) ≡ spelled ds more =
    rw n (drop_at one (spelled ds more) (12 + length d.content) (length-spelled_datagram d (follows ds more))) in
    rw (first_pdu_is d (follows ds more) (spelled ds more) fits.0, after, pdus-spelled ds more fits.1) refl

pub pdus-kept : (bytes : List ℕ) (count last : ℕ) (ds : List Pdu) → Keeps bytes count last ds → pdus count (drop 2 bytes) ≡ ds
pdus-kept bytes count last ds kept = rw (kept.is_spelling, kept.counted) (pdus-spelled ds false kept.fits)

pub pdus-rest : (bytes : List ℕ) (count : ℕ) (ds : List Pdu) → IsRest bytes count ds → pdus count bytes ≡ ds
pdus-rest bytes count ds rest = rw (rest.is_spelling, rest.counted) (pdus-spelled ds false rest.fits)

-- ---- one more datagram

set-append-add : (front rest : List ℕ) (k y : ℕ) → set (front ++ rest) (length front + k) y ≡ front ++ set rest k y
set-append-add front rest k y =
    let n : length front + k - length front ≡ k = omega arith in
    set-append_right front rest (length front) (length front + k) y refl (omega arith) ∙ ap (λ (i : ℕ). front ++ set rest i y) n

pub follows-true : (ds : List Pdu) → follows ds true ≡ true
follows-true [] = refl
follows-true (d ∷ ds) = refl

pub follows-push : (ds : List Pdu) (d : Pdu) (more : Bool) → follows (ds ++ d ∷ []) more ≡ true
follows-push [] d more = refl
follows-push (e ∷ ds) d more = refl

pub spelled-push : (ds : List Pdu) (d : Pdu) (more : Bool) → spelled (ds ++ d ∷ []) more ≡ spelled ds true ++ spelled_datagram d more
spelled-push [] d more = append-nil (spelled_datagram d more)
spelled-push (e ∷ ds) d more =
    rw (follows-push ds d more, follows-true ds, spelled-push ds d more) (sym (append_assoc (spelled_datagram e true) (spelled ds true) (spelled_datagram d more)))

pub length-spelled : (ds : List Pdu) (a b : Bool) → length (spelled ds a) ≡ length (spelled ds b)
length-spelled [] a b = refl
length-spelled (d ∷ ds) a b =
    omega (
      arith,
      length-append (spelled_datagram d (follows ds a)) (spelled ds a),
      length-append (spelled_datagram d (follows ds b)) (spelled ds b),
      length-spelled_datagram d (follows ds a),
      length-spelled_datagram d (follows ds b),
      length-spelled ds a b,
    )

pub length-spelled-push : (ds : List Pdu) (d : Pdu) → length (spelled (ds ++ d ∷ []) false) ≡ length (spelled ds false) + 12 + length d.content
length-spelled-push ds d =
    rw (spelled-push ds d false) (omega (arith, length-append (spelled ds true) (spelled_datagram d false), length-spelled_datagram d false, length-spelled ds true false))

-- as many bytes as datagrams, at least
pub length-le-spelled : (ds : List Pdu) (more : Bool) → length ds ≤ length (spelled ds more)
length-le-spelled [] more = omega arith
length-le-spelled (d ∷ ds) more =
    omega (arith, length-append (spelled_datagram d (follows ds more)) (spelled ds more), length-spelled_datagram d (follows ds more), length-le-spelled ds more)

last_at-push : (ds : List Pdu) (d : Pdu) → last_at (ds ++ d ∷ []) ≡ length (spelled ds false)
unfolding last_at
last_at-push [] d = refl
last_at-push (e ∷ []) d = omega (arith, length-append (spelled_datagram e false) [], length-spelled_datagram e false)
last_at-push (e ∷ f ∷ ds) d =
    omega (arith, length-append (spelled_datagram e true) (spelled (f ∷ ds) false), length-spelled_datagram e true, last_at-push (f ∷ ds) d)

AllFit-push : (ds : List Pdu) (d : Pdu) → AllByRecursion Fits ds → Fits d → AllByRecursion Fits (ds ++ d ∷ [])
AllFit-push [] d fits fit = (fit, tt)
AllFit-push (e ∷ ds) d fits fit = (fits.0, AllFit-push ds d fits.1 fit)

-- the last datagram ends the bytes
pub last_at-within : (d : Pdu) (ds : List Pdu) (more : Bool) → last_at (d ∷ ds) + 12 ≤ length (spelled (d ∷ ds) more)
unfolding last_at
last_at-within d [] more = omega (arith, length-append (spelled_datagram d more) [], length-spelled_datagram d more)
last_at-within d (e ∷ ds) more =
    omega (arith, length-append (spelled_datagram d true) (spelled (e ∷ ds) more), length-spelled_datagram d true, last_at-within e ds more)

-- bit 15 of the last datagram's length word is bit 7 of its byte 7
high_byte : (len : ℕ) → len < 2 ^ 11 → bit_or (length_word len 0 false / 256 % 256) 128 ≡ length_word len 0 true / 256 % 256
high_byte len lt =
    let b = length_word len 0 false / 256 % 256 in
    let low : b < 2 ^ 7 = omega arith in
    or_comm b 128 ∙ or_shifted 1 7 b low ∙ omega arith

low_byte : (len : ℕ) → length_word len 0 false % 256 ≡ length_word len 0 true % 256
low_byte len = omega arith

pub set-promised : (d : Pdu) (ds : List Pdu) → AllByRecursion Fits (d ∷ ds)
    → set (spelled (d ∷ ds) false) (last_at (d ∷ ds) + 7) (bit_or (get_or (spelled (d ∷ ds) false) (last_at (d ∷ ds) + 7) 0) 128) ≡ spelled (d ∷ ds) true
unfolding last_at
set-promised d [] fits =
    let len = length d.content in
    rw (high_byte len fits.0.length) (ap (λ (low : ℕ). set (spelled (d ∷ []) true) 6 low) (low_byte len))
set-promised d (e ∷ ds) fits =
    let one = spelled_datagram d true in
    let rest = spelled (e ∷ ds) false in
    let k = last_at (e ∷ ds) + 7 in
    let at : 12 + length d.content + last_at (e ∷ ds) + 7 ≡ length one + k = omega (arith, length-spelled_datagram d true) in
    rw (at, get_or-append-add one rest k 0, set-append-add one rest k _) (ap (λ (t : List ℕ). one ++ t) (set-promised e ds fits.1))

-- what a frame's bytes are once the last datagram, if there is one, promises another
promised : (bytes : List ℕ) (count last : ℕ) (ds : List Pdu) → Keeps bytes count last ds
    → set bytes (last + 7) (bit_or (get_or bytes (last + 7) 0) 128) ≡ take 2 (spelling ds) ++ spelled ds true
unfolding last_at
promised bytes count last [] kept = rw (kept.is_spelling, kept.last_begins) refl
promised bytes count last (d ∷ ds) kept =
    let at : last + 7 ≡ 2 + (last_at (d ∷ ds) + 7) = omega (arith, kept.last_begins) in
    let rest = spelled (d ∷ ds) false in
    let front = take 2 (spelling (d ∷ ds)) in
    rw (kept.is_spelling, at, get_or-append-add front rest (last_at (d ∷ ds) + 7) 0, set-append-add front rest (last_at (d ∷ ds) + 7) _)
    (ap (λ (t : List ℕ). front ++ t) (set-promised d ds kept.fits))

-- where the last datagram begins, and how many there are
pub last-within : (bytes : List ℕ) (count last : ℕ) (ds : List Pdu) → Keeps bytes count last ds → last ≤ length bytes
unfolding last_at
last-within bytes count last [] kept = omega (arith, ap length kept.is_spelling, kept.last_begins)
last-within bytes count last (d ∷ ds) kept = omega (arith, ap length kept.is_spelling, kept.last_begins, last_at-within d ds false)

pub count-within : (bytes : List ℕ) (count last : ℕ) (ds : List Pdu) → Keeps bytes count last ds → count ≤ length bytes
count-within bytes count last ds kept = omega (arith, ap length kept.is_spelling, kept.counted, length-le-spelled ds false)

-- a frame's bytes with one more datagram after those that promise it, under a new header
pub appended : (bytes marked longer new : List ℕ) (count last len : ℕ) (ds : List Pdu) (d : Pdu) → Keeps bytes count last ds → Fits d
    → marked ≡ set bytes (last + 7) (bit_or (get_or bytes (last + 7) 0) 128) → longer ≡ marked ++ spelled_datagram d false
    → new ≡ to_le_bytes w16 (header_word (length longer - 2) 0 1) ++ drop 2 longer → len ≡ length marked
    → Keeps new (count + 1) len (ds ++ d ∷ [])
appended bytes marked longer new count last len ds d kept fit marked_is longer_is new_is len_is =
    let front = take 2 (spelling ds) in
    let mark : marked ≡ front ++ spelled ds true = marked_is ∙ promised bytes count last ds kept in
    let inside : drop 2 longer ≡ spelled (ds ++ d ∷ []) false = rw (longer_is, mark) (sym (spelled-push ds d false)) in
    let stated : length longer - 2 ≡ length (spelled (ds ++ d ∷ []) false) = sym (length-drop 2 longer) ∙ ap length inside in
    record {
      is_spelling = rw (new_is, stated, inside) refl;
      fits = AllFit-push ds d kept.fits fit;
      counted = omega (arith, kept.counted, length-append ds (d ∷ []));
      last_begins = omega (arith, len_is, ap length mark, last_at-push ds d, length-spelled ds true false);
    }

-- ---- what a frame keeps is a frame

-- the datagrams that are kept are those that are seen
pub kept_seen : (bytes : List ℕ) (count last : ℕ) (ds : List Pdu) → Keeps bytes count last ds → Keeps bytes count last (pdus count (drop 2 bytes))
kept_seen bytes count last ds kept = rw (pdus-kept bytes count last ds kept) kept

pub kept_empty : (bytes : List ℕ) → bytes ≡ 0 ∷ 16 ∷ [] → Keeps bytes 0 2 (pdus 0 (drop 2 bytes))
unfolding pdus last_at
kept_empty bytes is = record { is_spelling = is; fits = tt; counted = refl; last_begins = refl }

pub IsDatagram-spelled : (d : Pdu) (more : Bool) → Fits d → IsDatagram (spelled_datagram d more) d more
IsDatagram-spelled d more fits = record { fits = fits; vacant = 0; free_fits = omega arith; irq = 0; irq_fits = omega arith; spelled = refl }

AreDatagrams-spelled : (ds : List Pdu) (more : Bool) → AllByRecursion Fits ds → AreDatagrams (spelled ds more) ds more
AreDatagrams-spelled [] more fits = refl
AreDatagrams-spelled (d ∷ ds) more fits =
    (spelled_datagram d (follows ds more), spelled ds more, refl, IsDatagram-spelled d (follows ds more) fits.0, AreDatagrams-spelled ds more fits.1)

pub spelling-IsFrame : (bytes : List ℕ) (ds : List Pdu) → bytes ≡ spelling ds → AllByRecursion Fits ds → length bytes ≤ 1500 → IsFrame bytes ds
spelling-IsFrame bytes ds is fits le =
    let inside = spelled ds false in
    let room : length inside ≤ 1498 = omega (arith, ap length is) in
    let spelled_so : bytes ≡ to_le_bytes w16 (header_word (length inside) 0 1) ++ (inside ++ []) = is ∙ ap (λ (t : List ℕ). to_le_bytes w16 (header_word (length inside) 0 1) ++ t) (sym (append-nil inside)) in
    record {
      inside = inside;
      padding = [];
      header = record { stated_fits = omega arith; reserved = 0; reserved_fits = omega arith; type_fits = omega arith; spelled = spelled_so };
      room = room;
      datagrams = AreDatagrams-spelled ds false fits;
    }

pub rest_seen : (bytes : List ℕ) (count : ℕ) (ds : List Pdu) → IsRest bytes count ds → IsRest bytes count (pdus count bytes)
rest_seen bytes count ds rest = rw (pdus-rest bytes count ds rest) rest

-- what the fields keep, said of the datagrams that are seen
pub keeps_seen : (bytes : List ℕ) (count last : ℕ) (seen : List Pdu) → Keeps bytes count last (pdus count (drop 2 bytes)) → pdus count (drop 2 bytes) ≡ seen → Keeps bytes count last seen
keeps_seen bytes count last seen kept e = subst (Keeps bytes count last) e kept

pub leaves_seen : (bytes : List ℕ) (count : ℕ) (seen : List Pdu) → IsRest bytes count (pdus count bytes) → pdus count bytes ≡ seen → IsRest bytes count seen
leaves_seen bytes count seen rest e = subst (IsRest bytes count) e rest
