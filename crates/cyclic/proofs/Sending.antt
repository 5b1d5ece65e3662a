-- Datagrams sent one after another.
use Rattle.std.proofs.Common.{◌≡◌, ℕ, ◌+◌, List, [], ◌∷◌, ◌++◌, length, Result, Ok, Err, IsErrAnd, IsTrue, refl, sym, ap, subst, ◌∙◌, inl, inr, append_assoc, length-append, arith}
use Rattle.std.proofs.lemmas.List.{append-nil}
use Rattle.std.proofs.Math.Nat.{eq-zero-or-pos}
use Rattle.ecat_frame.specs.Frame.{Pdu}
use Rattle.site_core.specs.State.{State, Leaves, Moment, Seen, CycleTurn}
use Rattle.site_core.specs.Passes.{Passes, LeavesOnly, AddsNothing}
use Rattle.site_core.proofs.Times.{Follows-same, Follows-then}
use Rattle.site_core.proofs.Runs.{Passes-none, Passes-then, Passes-stays}
use Rattle.cyclic.specs.declared.fault.CycleFault.{CycleFault}
use Rattle.cyclic.specs.Exchange.{lost_of, LeavesAll, Exchanges}
use Rattle.cyclic.specs.Sending.{IsSent, AreTaken, BreaksOff, AreSent, SendsInOrder}

-- the fault that `?` hands on
pub handed_on : {T : Type 0} (result : Result T CycleFault) (fault : CycleFault) → IsErrAnd result (λ other. other ≡ fault) → result ≡ Err fault
handed_on (Ok value) fault is = absurd is
handed_on (Err other) fault is = ap Err is

-- ---- Nothing else changes.

adds_none : (seen : Seen) → AddsNothing seen seen
adds_none seen = Passes-stays (Leaves seen.state) seen seen (Passes-none (LeavesOnly (Leaves seen.state)) seen (λ pair leaves. leaves))

-- where the first calls leave the state as it is
adds_then : (a b c : Seen) → b.state ≡ a.state → AddsNothing a b → AddsNothing b c → AddsNothing a c
adds_then a b c same first second =
    Passes-stays (Leaves a.state) a c (Passes-then (LeavesOnly (Leaves a.state)) a b c first.passes
    (subst (λ (s : State). Passes (LeavesOnly (Leaves s)) b c) same second.passes))

pub leaves_none : (seen : Seen) → LeavesAll {T = Unit {0}} 0 seen (Ok tt) seen
leaves_none seen = record {
  calls = [];
  past = sym (append-nil seen.past);
  clock = refl;
  adds_nothing = adds_none seen;
  same = λ not. refl;
  stopped = λ e. absurd cc;
  counted = omega arith;
  follows = Follows-same seen;
  going = λ some. absurd (omega arith);
  nothing = λ none. refl;
}

pub leaves_then : {T : Type 0} (m n k : ℕ) → k ≡ m + n → (a b c : Seen) (result : Result T CycleFault) → LeavesAll {T = Unit {0}} m a (Ok tt) b → LeavesAll n b result c → LeavesAll k a result c
leaves_then m n k sum a b c result first second = record {
  calls = first.calls ++ second.calls;
  past = second.past ∙ ap (λ (p : List Moment). p ++ second.calls) first.past ∙ append_assoc a.past first.calls second.calls;
  clock = length-append first.calls second.calls ∙ ap (λ x. x + length second.calls) first.clock ∙ ap (λ x. m + x) second.clock ∙ sym sum;
  adds_nothing = adds_then a b c (first.same (λ e. absurd cc)) first.adds_nothing second.adds_nothing;
  same = λ not. second.same not ∙ first.same (λ e. absurd cc);
  stopped = second.stopped;
  counted = let was : b.faults ≡ a.faults = omega (arith, first.counted) in second.counted ∙ ap (λ (n : ℕ). n + lost_of result) was;
  follows = Follows-then a b c first.follows second.follows;
  going = λ some stops. elim (eq-zero-or-pos n) [
    | inl none ↦ absurd (let e = first.going (omega arith) (subst (λ (s : Seen). IsTrue s.is_stopped) (second.nothing none) stops) in absurd cc)
    | inr more ↦ second.going more stops
  ];
  nothing = λ none. second.nothing (omega arith) ∙ first.nothing (omega arith);
}

-- ---- The frames.

taken_then : (a : List Pdu) (ts : List CycleTurn) (b : List Pdu) (us : List CycleTurn) → AreTaken a ts → AreTaken b us → AreTaken (a ++ b) (ts ++ us)
taken_then [] [] b us first second = second
taken_then [] (t ∷ ts) b us first second = absurd first
taken_then (o ∷ a) [] b us first second = absurd first
taken_then (o ∷ a) (t ∷ ts) b us first second = (first.0, taken_then a ts b us first.1 second)

sent_then : (a : List Pdu) (ts : List CycleTurn) (b : List Pdu) (us : List CycleTurn) (result : Result (Unit {0}) CycleFault) → AreTaken a ts → AreSent b us result → AreSent (a ++ b) (ts ++ us) result
sent_then a ts b us (Ok done) first second = taken_then a ts b us first second
sent_then a ts b us (Err fault) first second = record {
  first = a ++ second.first;
  next = second.next;
  rest = second.rest;
  orders_are = ap (λ (p : List Pdu). a ++ p) second.orders_are ∙ sym (append_assoc a second.first (second.next ∷ second.rest));
  taken = ts ++ second.taken;
  last = second.last;
  turns_are = ap (λ (p : List CycleTurn). ts ++ p) second.turns_are ∙ sym (append_assoc ts second.taken (second.last ∷ []));
  are_taken = taken_then a ts second.first second.taken first second.are_taken;
  meets = second.meets;
}

broken_off : (a b : List Pdu) (turns : List CycleTurn) (fault : CycleFault) → BreaksOff a turns fault → BreaksOff (a ++ b) turns fault
broken_off a b turns fault off = record {
  first = off.first;
  next = off.next;
  rest = off.rest ++ b;
  orders_are = ap (λ (p : List Pdu). p ++ b) off.orders_are ∙ append_assoc off.first (off.next ∷ off.rest) b;
  taken = off.taken;
  last = off.last;
  turns_are = off.turns_are;
  are_taken = off.are_taken;
  meets = off.meets;
}

one_sent : (order : Pdu) (turn : CycleTurn) (result : Result (Unit {0}) CycleFault) → IsSent order turn result → AreSent (order ∷ []) (turn ∷ []) result
one_sent order turn (Ok done) is = (is, tt)
one_sent order turn (Err fault) is = record {
  first = [];
  next = order;
  rest = [];
  orders_are = refl;
  taken = [];
  last = turn;
  turns_are = refl;
  are_taken = tt;
  meets = is;
}

-- ---- Together.

pub sends_none : (seen : Seen) → SendsInOrder [] seen (Ok tt) seen
sends_none seen = record { turns = []; added = sym (append-nil seen.turns); are_sent = tt; leaves = leaves_none seen }

-- one datagram
pub sends_one : (order : Pdu) (sent : List Pdu) → sent ≡ order ∷ [] → (old : Seen) (result : Result (Unit {0}) CycleFault) (back : List Pdu) (new : Seen)
    → Exchanges 1 sent old result back new → SendsInOrder (order ∷ []) old result new
sends_one order sent is old result back new exchanges = record {
  turns = record { sent = sent; answer = exchanges.answer } ∷ [];
  added = exchanges.turn;
  are_sent = one_sent order _ result (record { sent = is; gives = exchanges.gives });
  leaves = exchanges.leaves;
}

-- and others after them
pub sends_then : (a b : List Pdu) (old mid new : Seen) (result : Result (Unit {0}) CycleFault) → SendsInOrder a old (Ok tt) mid → SendsInOrder b mid result new
    → SendsInOrder (a ++ b) old result new
sends_then a b old mid new result first second = record {
  turns = first.turns ++ second.turns;
  added = second.added ∙ ap (λ (p : List CycleTurn). p ++ second.turns) first.added ∙ append_assoc old.turns first.turns second.turns;
  are_sent = sent_then a first.turns b second.turns result first.are_sent second.are_sent;
  leaves = leaves_then (length first.turns) (length second.turns) _ (length-append first.turns second.turns) old mid new result first.leaves second.leaves;
}

-- none of which goes out behind a fault
pub sends_cut : (a b entire : List Pdu) → entire ≡ a ++ b → (old new : Seen) (fault : CycleFault) (result : Result (Unit {0}) CycleFault) → result ≡ Err fault
    → SendsInOrder a old (Err fault) new → SendsInOrder entire old result new
sends_cut a b entire split old new fault result is sends =
    let cut : SendsInOrder (a ++ b) old (Err fault) new =
    record { turns = sends.turns; added = sends.added; are_sent = broken_off a b sends.turns fault sends.are_sent; leaves = sends.leaves } in
    let so : SendsInOrder entire old (Err fault) new = subst (λ (o : List Pdu). SendsInOrder o old (Err fault) new) (sym split) cut in
    subst (λ (r : Result (Unit {0}) CycleFault). SendsInOrder entire old r new) (sym is) so

pub sends_same : (orders others : List Pdu) → orders ≡ others → (old new : Seen) (result : Result (Unit {0}) CycleFault) → SendsInOrder orders old result new → SendsInOrder others old result new
sends_same orders others is old new result sends = subst (λ (o : List Pdu). SendsInOrder o old result new) is sends
