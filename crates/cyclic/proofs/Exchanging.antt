-- The outcome of one frame.
use Rattle.std.proofs.Common.{◌≡◌, ◌≢◌, ℕ, ◌+◌, ◌==◌, Bool, true, false, List, [], ◌∷◌, length, cond, slice_get, Some, Result, Ok, Err, refl, sym, ap, subst, ◌∙◌, eq-eqb, arith}
use Rattle.std.proofs.lemmas.Bool.{ne_eqb}
use Rattle.ecat_frame.specs.Frame.{Pdu}
use Rattle.site_core.specs.declared.fault.DeviceFault.{DeviceFault}
use Rattle.site_core.specs.declared.fault.DeviceFault.TheVariants as device
use Rattle.site_core.specs.State.{Seen}
use Rattle.site_core.specs.Calls.{CyclesFrame, faults_of}
use Rattle.site_core.specs.Exchange.{AreReplies}
use Rattle.site_core.proofs.Times.{Calls-follows}
use Rattle.site_core.proofs.DeviceCalls.{CyclesFrame-adds_nothing}
use Rattle.cyclic.specs.declared.fault.CycleFault.{CycleFault}
use Rattle.cyclic.specs.declared.fault.CycleFault.TheVariants as cycle
use Rattle.cyclic.specs.Exchange.{compared, Gives, lost_of, LeavesAll, Exchanges}

-- the frame's call is the only one, and it stopped where the result says so
leaves_of : {T : Type 0} (old : Seen) (sent : List Pdu) (did : Result (Unit {0}) DeviceFault) (back : List Pdu) (new : Seen) (result : Result T CycleFault)
    → CyclesFrame old sent did back new → (did ≡ Err device.Stopped → result ≡ Err cycle.Stopped) → (result ≡ Err cycle.Stopped → did ≡ Err device.Stopped)
    → lost_of result ≡ faults_of did → LeavesAll 1 old result new
leaves_of old sent did back new result cycles there here lost = record {
  calls = record { before = old.state; faults = old.faults; middle = [] } ∷ [];
  past = cycles.call.past;
  clock = refl;
  adds_nothing = CyclesFrame-adds_nothing old sent did back new cycles;
  same = λ not. cycles.same (λ e. not (there e));
  stopped = λ is. cycles.call.stopped.1 (here is);
  counted = cycles.call.counted ∙ ap (λ n. old.faults + n) (sym lost);
  follows = Calls-follows old [] did new cycles.call;
  going = λ some stops. there (cycles.call.stopped.0 stops);
  nothing = λ none. absurd (omega arith);
}

pub exchange_lost : (expected : ℕ) (old : Seen) (sent : List Pdu) (did : Result (Unit {0}) DeviceFault) (back : List Pdu) (new : Seen) → did ≡ Err device.Lost
    → CyclesFrame old sent did back new → Exchanges expected sent old (Err cycle.Lost) back new
exchange_lost expected old sent did back new is did_so =
    let cycles = subst (λ (r : Result (Unit {0}) DeviceFault). CyclesFrame old sent r back new) is did_so in
    record {
      answer = Err device.Lost;
      turn = cycles.turns;
      gives = refl;
      brings = λ e. absurd cc;
      leaves = leaves_of old sent (Err device.Lost) back new (Err cycle.Lost) cycles (λ e. absurd cc) (λ e. absurd cc) refl;
    }

pub exchange_stopped : (expected : ℕ) (old : Seen) (sent : List Pdu) (did : Result (Unit {0}) DeviceFault) (back : List Pdu) (new : Seen) → did ≡ Err device.Stopped
    → CyclesFrame old sent did back new → Exchanges expected sent old (Err cycle.Stopped) back new
exchange_stopped expected old sent did back new is did_so =
    let cycles = subst (λ (r : Result (Unit {0}) DeviceFault). CyclesFrame old sent r back new) is did_so in
    record {
      answer = Err device.Stopped;
      turn = cycles.turns;
      gives = refl;
      brings = λ e. absurd cc;
      leaves = leaves_of old sent (Err device.Stopped) back new (Err cycle.Stopped) cycles (λ e. refl) (λ e. refl) refl;
    }

-- a frame of one datagram comes back as one
pub one_reply : (sent back : List Pdu) → length sent ≡ 1 → AreReplies sent back → (reply : Pdu) × (back ≡ reply ∷ [])
one_reply [] back one replies = absurd (omega arith)
one_reply (order ∷ []) [] one replies = absurd replies
one_reply (order ∷ []) (reply ∷ []) one replies = (reply, refl)
one_reply (order ∷ []) (reply ∷ other ∷ others) one replies = absurd replies.1
one_reply (order ∷ next ∷ orders) back one replies = absurd (omega arith)

decided : ℕ → ℕ → Bool → Result (Unit {0}) CycleFault
decided expected seen b = cond b (Ok tt) (Err (cycle.WrongCounter seen expected))

never_stopped : (b : Bool) (expected seen : ℕ) → decided expected seen b ≡ Err cycle.Stopped → ⊥
unfolding decided
never_stopped true expected seen e = cc
never_stopped false expected seen e = cc

never_lost : (b : Bool) (expected seen : ℕ) → lost_of (decided expected seen b) ≡ 0
unfolding decided
never_lost true expected seen = refl
never_lost false expected seen = refl

gives_compared : (expected : ℕ) (reply : Pdu) (back : List Pdu) (counter : ℕ) → back ≡ reply ∷ [] → reply.counter ≡ counter → (result : Result (Unit {0}) CycleFault)
    → result ≡ compared expected counter → Gives expected (Ok back) result
gives_compared expected reply back counter is counts result e =
    subst (λ (b : List Pdu). Gives expected (Ok b) result) (sym is) (e ∙ ap (λ n. compared expected n) (sym counts))

-- it came back, and its counter is compared
pub exchange_back : (expected : ℕ) (old : Seen) (sent : List Pdu) (did : Result (Unit {0}) DeviceFault) (back : List Pdu) (new : Seen) → did ≡ Ok tt → length sent ≡ 1
    → CyclesFrame old sent did back new → (first : Pdu) → slice_get back 0 ≡ Some first → (result : Result (Unit {0}) CycleFault) → result ≡ compared expected first.counter
    → Exchanges expected sent old result back new
unfolding decided
exchange_back expected old sent did back new is one did_so first here result e =
    let cycles = subst (λ (r : Result (Unit {0}) DeviceFault). CyclesFrame old sent r back new) is did_so in
    let reply = one_reply sent back one cycles.ok in
    let same : Some reply.0 ≡ Some first = sym (ap (λ (b : List Pdu). slice_get b 0) reply.1) ∙ here in
    let first_is : reply.0 ≡ first = cc in
    record {
      answer = Ok back;
      turn = cycles.turns;
      gives = gives_compared expected reply.0 back first.counter reply.1 (ap (λ (p : Pdu). p.counter) first_is) result e;
      brings = λ _. (refl, cycles.ok);
      leaves = leaves_of old sent (Ok tt) back new result cycles (λ s. absurd cc) (λ s. absurd (never_stopped (first.counter == expected) expected first.counter (sym e ∙ s)))
          (ap (λ (r : Result (Unit {0}) CycleFault). lost_of r) e ∙ never_lost (first.counter == expected) expected first.counter);
    }

pub compared_right : (expected seen : ℕ) → seen ≡ expected → Ok tt ≡ compared expected seen
unfolding decided
compared_right expected seen is = sym (ap (decided expected seen) (eq-eqb seen expected is))

pub compared_wrong : (expected seen : ℕ) → seen ≢ expected → Err (cycle.WrongCounter seen expected) ≡ compared expected seen
unfolding decided
compared_wrong expected seen not = sym (ap (decided expected seen) (ne_eqb seen expected not))
