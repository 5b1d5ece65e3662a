-- A frame of one datagram for the EEPROM half of one slave.
use Rattle.std.proofs.Common.{◌≡◌, ◌⊎◌, ℕ, List, [], ◌∷◌, ◌++◌, map, Some, slice_get, Result, Ok, Err, refl, sym, ap, subst, ◌∙◌, inl, inr, arith}
use Rattle.std.specs.List.{AllByRecursion}
use Rattle.ecat_frame.specs.Frame.{Pdu}
use Rattle.esc_model.specs.SlaveHalf.{SlaveHalf, MayRest}
use Rattle.esc_model.specs.Datagrams.{served_datagram, reply_of}
use Rattle.esc_model.specs.WordAccess.{IsGentle}
use Rattle.esc_model.proofs.OnlyResting.{OnlyRests-leaves, Receives-only}
use Rattle.site_core.specs.declared.fault.DeviceFault.{DeviceFault}
use Rattle.site_core.specs.declared.fault.DeviceFault.TheVariants as device
use Rattle.site_core.specs.State.{State, Pair, Seen, HalfGoes, Leaves, with_half, last_of}
use Rattle.site_core.specs.Exchange.{GoesThrough}
use Rattle.site_core.specs.Calls.{ExchangesFrame}
use Rattle.site_core.specs.Passes.{Passes, LeavesOnly}
use Rattle.site_core.proofs.Moments.{Leaves-less}
use Rattle.site_core.proofs.Runs.{Passes-call, Passes-stays, last_of_all}
use Rattle.site_core.proofs.DeviceCalls.{is_stopped_or, LeavesOnly-stopped}
use Rattle.site_core.proofs.Times.{Calls-follows, Calls-clock}
use Rattle.esc_rom.specs.Runs.{Quiet, Ran, StopsQuietly, WasLost}
use Rattle.esc_rom.proofs.States.{with_half-same}
use Rattle.esc_rom.proofs.Past.{FailsAt-last}

-- the half took the one datagram
pub record TookOne (order : Pdu) (half : SlaveHalf) (laters : List SlaveHalf) (replies : List Pdu) : Type 0 where
  pub rested : SlaveHalf
  pub rests : MayRest half rested
  pub laters_are : laters ≡ (served_datagram rested order).half ∷ []
  pub replies_are : replies ≡ reply_of order (served_datagram rested order) ∷ []

no_more : (later : SlaveHalf) (passed : List Pdu) (laters : List SlaveHalf) (replies : List Pdu) → passed ≡ [] → GoesThrough later passed laters replies → (laters ≡ []) × (replies ≡ [])
no_more later [] [] [] none through = (refl, refl)
no_more later [] [] (r ∷ rs) none through = absurd through
no_more later [] (l ∷ ls) [] none through = absurd through
no_more later [] (l ∷ ls) (r ∷ rs) none through = absurd through
no_more later (p ∷ ps) laters replies none through = absurd cc

no_rest : (passed left : List Pdu) → [] ≡ passed ++ left → passed ≡ []
no_rest [] left split = refl
no_rest (p ∷ ps) left split = absurd cc

-- none or the one
took_none_or_one : (order : Pdu) (half : SlaveHalf) (passed left : List Pdu) (laters : List SlaveHalf) (replies : List Pdu)
    → order ∷ [] ≡ passed ++ left → GoesThrough half passed laters replies → ((passed ≡ []) × (laters ≡ [])) ⊎ TookOne order half laters replies
took_none_or_one order half [] left [] [] split through = inl (refl, refl)
took_none_or_one order half [] left [] (r ∷ rs) split through = absurd through
took_none_or_one order half [] left (l ∷ ls) [] split through = absurd through
took_none_or_one order half [] left (l ∷ ls) (r ∷ rs) split through = absurd through
took_none_or_one order half (p ∷ ps) left [] [] split through = absurd through
took_none_or_one order half (p ∷ ps) left [] (r ∷ rs) split through = absurd through
took_none_or_one order half (p ∷ ps) left (l ∷ ls) [] split through = absurd through
took_none_or_one order half (p ∷ ps) left (l ∷ ls) (r ∷ rs) split through =
    let same : order ≡ p = cc in
    let none : [] ≡ ps ++ left = cc in
    let ends = no_more l ps ls rs (no_rest ps left none) through.4 in
    inr (record {
      rested = through.0;
      rests = through.1;
      laters_are = rw (ends.0, same) (ap (λ (h : SlaveHalf). h ∷ []) through.2);
      replies_are = rw (ends.1, same) (ap (λ (q : Pdu). q ∷ []) through.3);
    })

-- what holds of the pairs before, and of those that it leaves once the half took the datagram, holds all the way
pub exchange_passes : (Q : Pair → Type 0) (old : Seen) (slave : ℕ) (order : Pdu) (result : Result (Unit {0}) DeviceFault) (answer : List Pdu) (new : Seen)
    → LeavesOnly Q old.state
    → ((half rested : SlaveHalf) → slice_get old.state.halves slave ≡ Some half → MayRest half rested → LeavesOnly Q (with_half old.state slave (served_datagram rested order).half))
    → ExchangesFrame old slave (order ∷ []) result answer new → Passes (LeavesOnly Q) old new
exchange_passes Q old slave order result answer new before after sends =
    Passes-call P old middle result new sends.call before all
    (elim (is_stopped_or result) [
      | inl stop ↦ LeavesOnly-stopped Q (last_of old.state middle) new.state (sends.call.at_stop stop) last
      | inr not ↦ subst P (sym (sends.kept not)) last
    ])
  where
    P : State → Type 0
    P = LeavesOnly Q

    middle : List State
    middle = map (with_half old.state slave) sends.laters

    all : AllByRecursion P middle
    all = elim (took_none_or_one order sends.half sends.passed sends.left sends.laters sends.replies sends.split sends.through) [
      | inl none ↦ subst (λ (ls : List SlaveHalf). AllByRecursion P (map (with_half old.state slave) ls)) (sym none.1) tt
      | inr t ↦ subst (λ (ls : List SlaveHalf). AllByRecursion P (map (with_half old.state slave) ls)) (sym t.laters_are)
          (after sends.half t.rested sends.here t.rests, tt)
    ]

    last : P (last_of old.state middle)
    last = last_of_all P old.state middle before all

-- a datagram that brings nothing into flight adds nothing
exchange_quiet : (old : Seen) (slave : ℕ) (order : Pdu) (result : Result (Unit {0}) DeviceFault) (answer : List Pdu) (new : Seen)
    → IsGentle order → ExchangesFrame old slave (order ∷ []) result answer new → Quiet old 1 new
exchange_quiet old slave order result answer new gentle sends = record {
  adds = Passes-stays (Leaves old.state) old new (exchange_passes (Leaves old.state) old slave order result answer new (λ pair leaves. leaves) after sends);
  follows = Calls-follows old (map (with_half old.state slave) sends.laters) result new sends.call;
  within = let one = Calls-clock old (map (with_half old.state slave) sends.laters) result new sends.call in omega arith;
  never_fewer = let counted = sends.call.counted in omega arith;
  turns = sends.turns;
}
  where
    after : (half rested : SlaveHalf) → slice_get old.state.halves slave ≡ Some half → MayRest half rested → LeavesOnly (Leaves old.state) (with_half old.state slave (served_datagram rested order).half)
    after half rested here rests pair leaves =
        Leaves-less old.state slave half (served_datagram rested order).half pair here
        (λ left. OnlyRests-leaves half (served_datagram rested order).half left (Receives-only order half (served_datagram rested order).half gentle (record { rested = rested; rests = rests; is = refl }))) leaves

-- the half took the datagram, and this is what came back
pub record Answers (order datagram : Pdu) (half later : SlaveHalf) : Type 0 where
  pub rested : SlaveHalf
  pub rests : MayRest half rested
  pub is : later ≡ (served_datagram rested order).half
  pub reply : reply_of order (served_datagram rested order) ≡ datagram

pub back_half : (old : Seen) (slave : ℕ) (order : Pdu) (new : Seen) (datagram : Pdu)
    → ExchangesFrame old slave (order ∷ []) (Ok tt) (datagram ∷ []) new → HalfGoes (Answers order datagram) old.state slave new.state
back_half old slave order new datagram sends =
    elim (took_none_or_one order sends.half sends.passed sends.left sends.laters sends.replies sends.split sends.through) [
      | inl none ↦ absurd (let e : order ∷ [] ≡ [] = sends.split ∙ ap (λ (p : List Pdu). p ++ sends.left) none.0 ∙ sends.ok.0 in absurd cc)
      | inr t ↦ record {
        half = sends.half;
        here = sends.here;
        later = (served_datagram t.rested order).half;
        new_is = sends.kept (λ e. absurd cc) ∙ ap (λ (ls : List SlaveHalf). last_of old.state (map (with_half old.state slave) ls)) t.laters_are;
        goes = record {
          rested = t.rested;
          rests = t.rests;
          is = refl;
          reply = let only : datagram ∷ [] ≡ reply_of order (served_datagram t.rested order) ∷ [] = sends.ok.1 ∙ t.replies_are in cc;
        };
      }
    ]

pub lost_half : (old : Seen) (slave : ℕ) (order : Pdu) (new : Seen) → ExchangesFrame old slave (order ∷ []) (Err device.Lost) (order ∷ []) new
    → HalfGoes (WasLost order old new) old.state slave new.state
lost_half old slave order new sends =
    let one = Calls-clock old (map (with_half old.state slave) sends.laters) (Err device.Lost) new sends.call in
    let follows = Calls-follows old (map (with_half old.state slave) sends.laters) (Err device.Lost) new sends.call in
    let fails = FailsAt-last old new follows one (let counted = sends.call.counted in omega arith) in
    elim (took_none_or_one order sends.half sends.passed sends.left sends.laters sends.replies sends.split sends.through) [
      | inl none ↦ record {
        half = sends.half;
        here = sends.here;
        later = sends.half;
        new_is = sends.kept (λ e. absurd cc) ∙ ap (λ (ls : List SlaveHalf). last_of old.state (map (with_half old.state slave) ls)) none.1
            ∙ sym (with_half-same old.state slave sends.half sends.here);
        goes = (one, fails, inl refl);
      }
      | inr t ↦ record {
        half = sends.half;
        here = sends.here;
        later = (served_datagram t.rested order).half;
        new_is = sends.kept (λ e. absurd cc) ∙ ap (λ (ls : List SlaveHalf). last_of old.state (map (with_half old.state slave) ls)) t.laters_are;
        goes = (one, fails, inr (record { rested = t.rested; rests = t.rests; is = refl }));
      }
    ]

-- A DATAGRAM THAT BRINGS NO WORD INTO FLIGHT

module _ (old : Seen) (slave : ℕ) (order : Pdu) (new : Seen) (gentle : IsGentle order) where
  pub back : {datagram : Pdu} → ExchangesFrame old slave (order ∷ []) (Ok tt) (datagram ∷ []) new → Ran (Answers order datagram) old slave 1 new
  back {datagram} sends = record {
    quiet = exchange_quiet old slave order (Ok tt) (datagram ∷ []) new gentle sends;
    some = let one = Calls-clock old (map (with_half old.state slave) sends.laters) (Ok tt) new sends.call in omega arith;
    going = λ stopped. let e = sends.call.stopped.0 stopped in absurd cc;
    half = back_half old slave order new datagram sends;
  }

  pub lost : ExchangesFrame old slave (order ∷ []) (Err device.Lost) (order ∷ []) new → Ran (WasLost order old new) old slave 1 new
  lost sends = record {
    quiet = exchange_quiet old slave order (Err device.Lost) (order ∷ []) new gentle sends;
    some = let one = Calls-clock old (map (with_half old.state slave) sends.laters) (Err device.Lost) new sends.call in omega arith;
    going = λ stopped. let e = sends.call.stopped.0 stopped in absurd cc;
    half = lost_half old slave order new sends;
  }

  pub cut : ExchangesFrame old slave (order ∷ []) (Err device.Stopped) (order ∷ []) new → StopsQuietly old 1 new
  cut sends = record { quiet = exchange_quiet old slave order (Err device.Stopped) (order ∷ []) new gentle sends; stopped = sends.call.stopped.1 refl }
