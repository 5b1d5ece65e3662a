-- Reading datagrams one after the other: those read so far, and the bytes that are left.
use Rattle.std.proofs.Common.{◌≡◌, ℕ, zero, suc, ◌+◌, ◌-◌, ◌<◌, ◌≤◌, Bool, true, false, List, [], ◌∷◌, ◌++◌, length, drop, Option, Some, None, refl, sym, ap, ◌∙◌, append_assoc, length-append, arith}
use Rattle.std.specs.Prelude.{slice_get}
use Rattle.std.specs.Iterator.{YieldsFirstBy}
use Rattle.std.proofs.lemmas.List.{append-nil, drop-drop}
use Rattle.ecat_frame.specs.declared.datagram.Datagram.{Datagram}
use Rattle.ecat_frame.specs.Frame.{Pdu, pdu, length_word, follows, IsDatagram, AreDatagrams, spelled, spelling, spelled_datagram}
use Rattle.ecat_frame.specs.Fault.{NoDatagram, BreaksOff, not_complete, surplus}
use Rattle.ecat_frame.proofs.Spelled.{length-datagram_bytes, length-spelled_datagram, follows-true, follows-push}

-- one step of the iterator drops one datagram
pub next_drops : (ds : List Pdu) (i : ℕ) (item : Option Datagram) (left rest : List Pdu) → left ≡ drop i ds → YieldsFirstBy pdu (λ r. r) left item rest → rest ≡ drop (i + 1) ds
next_drops ds i None left rest is yields = yields.1 ∙ sym (sym (drop-drop 1 i ds) ∙ ap (drop 1) (sym is ∙ yields.0))
next_drops ds i (Some d) left rest is yields = sym (sym (drop-drop 1 i ds) ∙ ap (drop 1) (sym is ∙ yields))

pub length-datagram : (bytes : List ℕ) (d : Pdu) (more : Bool) → IsDatagram bytes d more → length bytes ≡ 12 + length d.content
length-datagram bytes d more is = ap length is.spelled ∙ length-datagram_bytes d (length_word (length d.content) is.vacant more) is.irq

-- datagrams are as long as their spelling
pub length-datagrams : (bytes : List ℕ) (ds : List Pdu) (more : Bool) → AreDatagrams bytes ds more → length bytes ≡ length (spelled ds false)
length-datagrams bytes [] more are = ap length are
length-datagrams bytes (d ∷ ds) more are =
    omega (
      arith,
      ap length are.2,
      length-append are.0 are.1,
      length-datagram are.0 d (follows ds more) are.3,
      length-datagrams are.1 ds more are.4,
      length-append (spelled_datagram d (follows ds false)) (spelled ds false),
      length-spelled_datagram d (follows ds false),
    )

-- one more datagram after those that promise it
pub AreDatagrams-push : (before first : List ℕ) (ds : List Pdu) (d : Pdu) (more : Bool) → AreDatagrams before ds true → IsDatagram first d more
    → AreDatagrams (before ++ first) (ds ++ d ∷ []) more
AreDatagrams-push before first [] d more are is = (first, [], ap (λ (t : List ℕ). t ++ first) are ∙ sym (append-nil first), is, refl)
AreDatagrams-push before first (e ∷ ds) d more are is =
    let bit : IsDatagram are.0 e (follows (ds ++ d ∷ []) more) = rw (follows-push ds d more, ← follows-true ds) are.3 in
    (are.0, are.1 ++ first, ap (λ (t : List ℕ). t ++ first) are.2 ∙ append_assoc are.0 are.1 first, bit, AreDatagrams-push are.1 first ds d more are.4 is)

-- what was read of the bytes, and what is left of them
pub record IsReadSoFar (inside rest : List ℕ) (ds : List Pdu) (more : Bool) : Type 0 where
  pub before : List ℕ
  pub entire : inside ≡ before ++ rest
  pub datagrams : AreDatagrams before ds more
  pub begun : more ≡ false → 0 < length before

pub begins : (inside : List ℕ) → IsReadSoFar inside inside [] true
begins inside = record { before = []; entire = refl; datagrams = refl; begun = λ e. absurd cc }

pub goes_on : (inside rest after : List ℕ) (ds : List Pdu) (d : Pdu) (more follows' : Bool) → IsReadSoFar inside rest ds more → more ≡ true
    → (first : List ℕ) × (rest ≡ first ++ after) × IsDatagram first d follows' → IsReadSoFar inside after (ds ++ d ∷ []) follows'
goes_on inside rest after ds d more follows' so_far promised taken =
    let are : AreDatagrams so_far.before ds true = rw (← promised) so_far.datagrams in
    record {
      before = so_far.before ++ taken.0;
      entire = so_far.entire ∙ ap (λ (t : List ℕ). so_far.before ++ t) taken.1 ∙ sym (append_assoc so_far.before taken.0 after);
      datagrams = AreDatagrams-push so_far.before taken.0 ds d follows' are taken.2;
      begun = λ _. omega (arith, length-append so_far.before taken.0, length-datagram taken.0 d follows' taken.2);
    }

-- what is read finds room
pub has_room : (inside rest after : List ℕ) (ds : List Pdu) (d : Pdu) (more follows' : Bool) → IsReadSoFar inside rest ds more → length inside ≤ 1498
    → (first : List ℕ) × (rest ≡ first ++ after) × IsDatagram first d follows' → length (spelling ds) + 12 + length d.content ≤ 1500
has_room inside rest after ds d more follows' so_far room taken =
    omega (
      arith,
      room,
      ap length so_far.entire,
      length-append so_far.before rest,
      length-datagrams so_far.before ds more so_far.datagrams,
      ap length taken.1,
      length-append taken.0 after,
      length-datagram taken.0 d follows' taken.2,
    )

pub gets_shorter : (rest after : List ℕ) (d : Pdu) (more : Bool) → (first : List ℕ) × (rest ≡ first ++ after) × IsDatagram first d more → length after < length rest
gets_shorter rest after d more taken = omega (arith, ap length taken.1, length-append taken.0 after, length-datagram taken.0 d more taken.2)

pub breaks_off : (inside rest : List ℕ) (ds : List Pdu) (more : Bool) (at : ℕ) → IsReadSoFar inside rest ds more → more ≡ true → 0 < length inside → NoDatagram rest
    → at ≡ 2 + length inside - length rest → BreaksOff inside at
breaks_off inside rest ds more at so_far promised some none at_is =
    not_complete so_far.before rest ds so_far.entire some (rw (← promised) so_far.datagrams) none (omega (arith, at_is, ap length so_far.entire, length-append so_far.before rest))

pub goes_past : (inside rest : List ℕ) (ds : List Pdu) (more : Bool) (at : ℕ) → IsReadSoFar inside rest ds more → more ≡ false → 0 < length rest
    → at ≡ 2 + length inside - length rest → BreaksOff inside at
goes_past inside rest ds more at so_far ended some at_is =
    surplus so_far.before rest ds so_far.entire (so_far.begun ended) some (rw (← ended) so_far.datagrams) (omega (arith, at_is, ap length so_far.entire, length-append so_far.before rest))

pub is_read : (inside rest : List ℕ) (ds : List Pdu) (more : Bool) → IsReadSoFar inside rest ds more → more ≡ false → rest ≡ [] → AreDatagrams inside ds false
is_read inside rest ds more so_far ended nothing =
    let all : inside ≡ so_far.before = so_far.entire ∙ ap (λ (t : List ℕ). so_far.before ++ t) nothing ∙ append-nil so_far.before in
    rw (all, ← ended) so_far.datagrams

-- what stands first behind the first k
pub drop_gives : (ds : List Pdu) (k : ℕ) (d : Pdu) (rest : List Pdu) → drop k ds ≡ d ∷ rest → slice_get ds k ≡ Some d
drop_gives [] zero d rest e = absurd cc
drop_gives [] (suc k) d rest e = absurd cc
drop_gives (x ∷ ds) zero d rest e = let same : x ≡ d = cc in ap Some same
drop_gives (x ∷ ds) (suc k) d rest e = drop_gives ds k d rest e
