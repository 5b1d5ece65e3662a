-- The datagrams of an access that were sent so far.
use Rattle.std.proofs.Common.{◌≡◌, ℕ, ◌+◌, ◌<◌, Bool, true, false, List, [], ◌∷◌, ◌++◌, length, Option, Some, None, Result, Ok, Err, IsErr, refl, sym, subst, ◌∙◌, arith, length-append}
use Rattle.std.proofs.lemmas.Bool.{false≢true}
use Rattle.ecat_frame.specs.Frame.{Pdu}
use Rattle.site_core.specs.declared.fault.DeviceFault.{DeviceFault}
use Rattle.site_core.specs.declared.fault.DeviceFault.TheVariants as device
use Rattle.site_core.specs.State.{Seen}
use Rattle.site_core.specs.Calls.{ExchangesFrame}
use Rattle.rom_steps.specs.Courses.{Asked}
use Rattle.rom_steps.specs.declared.back.Back.TheVariants as backs
use Rattle.rom_steps.specs.declared.back.Rested.{Rested}
use Rattle.rom_steps.specs.declared.back.WordPair.{WordPair}
use Rattle.rom_steps.specs.declared.step.End.{End}
use Rattle.rom_steps.specs.declared.step.Step.{Step}
use Rattle.rom_steps.specs.declared.step.Step.TheVariants.{Forces, Frees, WaitsToClear, Clears, Waits, Commands, WaitsToFetch, Fetches, Issues, WaitsToSettle, Tidies, Ended, Stopped}
use Rattle.rom_steps.specs.Remaining.{opening_end, waiting_end, reading_end, IsNext, Moves, Remains, left}
use Rattle.rom_steps.specs.Complete.{Went, nothing_sent, one_more_sent}
use Rattle.rom_steps.proofs.Stopping.{sends-some, stopped-moves}
use Rattle.rom_steps.proofs.CompleteLaws.{went-ended, went-stopped, went-bounded}
use Rattle.rom_steps.specs.declared.step.Stop.{Stop}
use Rattle.esc_rom.specs.Courses.{AskedInTurn, Takes, outcome_of, frame_after}
use Rattle.esc_rom.specs.Driving.{AsksOnce, IsEndOf, is_open, rest_at, words_at}
use Rattle.esc_rom.proofs.Courses.{asked-then}

-- WHAT AN END TELLS

pub open-is : (opened : Bool) → is_open (opening_end opened) ≡ opened
open-is true = refl
open-is false = refl

pub rest-is : (found : Option Rested) → rest_at (waiting_end found) ≡ found
rest-is None = refl
rest-is (Some rested) = refl

pub words-are : (pair : Option WordPair) → words_at (reading_end pair) ≡ pair
words-are None = refl
words-are (Some pair) = refl

-- ONE DATAGRAM

pub once-lost : {old : Seen} {slave : ℕ} {order : Pdu} {sent answer : List Pdu} {fault : DeviceFault} {new : Seen} → sent ≡ order ∷ [] → fault ≡ device.Lost
    → ExchangesFrame old slave sent (Err fault) answer new → AsksOnce old slave order (Ok backs.Lost) new
once-lost {old} {slave} {order} {answer = answer} {fault = fault} {new = new} is lost sends = record {
  came = Err fault;
  sent = subst (λ (l : List Pdu). ExchangesFrame old slave (order ∷ []) (Err fault) l new) (sends.failed ∙ is)
      (subst (λ (l : List Pdu). ExchangesFrame old slave l (Err fault) answer new) is sends);
  is = lost;
}

-- DATAGRAMS IN A ROW

-- So many datagrams led from the first step to this one.
pub record WentSo (slave : ℕ) (first : Step) (turns : ℕ) (a : Seen) (step : Step) (b : Seen) : Type 0 where
  pub log : List Asked
  pub asked : AskedInTurn log a b
  pub went : Went slave first log step
  pub turns_are : length log ≡ turns

pub went-none : (slave : ℕ) (first : Step) (a : Seen) → WentSo slave first 0 a first a
went-none slave first a = record { log = []; asked = refl; went = nothing_sent; turns_are = refl }

module _ (slave : ℕ) (first : Step) (turns : ℕ) (a : Seen) (step : Step) (b : Seen) (so : WentSo slave first turns a step b) where
  pub went-more : (order : Pdu) (came : Result Pdu DeviceFault) (later : Step) (c : Seen) → IsNext slave step order
      → ExchangesFrame b slave (order ∷ []) (outcome_of came) (frame_after order came) c → Moves slave step came later
      → WentSo slave first (turns + 1) a later c
  went-more order came later c next sent moves = record {
    log = so.log ++ one ∷ [];
    asked = asked-then so.log (one ∷ []) a b c so.asked (c, sent, refl);
    went = one_more_sent order came later so.went next moves;
    turns_are = let long = length-append so.log (one ∷ []) in let before = so.turns_are in omega arith;
  }
    where
      one : Asked
      one = record { slave = slave; order = order; back = came }

  -- nothing is left when all turns are over
  pub went-all : left first < turns + 1 → left step ≡ 0
  went-all few = let bound = went-bounded slave first so.log step so.went in let long = so.turns_are in omega arith

over-by : (slave : ℕ) (first : Step) (turns : ℕ) (a : Seen) (step : Step) (b : Seen) → WentSo slave first turns a step b → left step ≡ 0
    → (result : Result End Stop) → IsEndOf step result
    → Takes (Remains slave first) a result b
over-by slave first turns a (Ended end) b so over result is =
    subst (λ (r : Result End Stop). Takes (Remains slave first) a r b) (sym is)
    (record { log = so.log; asked = so.asked; took = went-ended slave first so.log end so.went })
over-by slave first turns a Stopped b so over (Ok end) is = absurd (false≢true is)
over-by slave first turns a Stopped b so over
    (Err stop) is = record { log = so.log; asked = so.asked; took = went-stopped slave first so.log so.went (Err stop) refl }
over-by slave first turns a (Forces more) b so over result is = absurd (omega arith)
over-by slave first turns a (Frees more) b so over result is = absurd (omega arith)
over-by slave first turns a (WaitsToClear more) b so over result is = absurd (omega arith)
over-by slave first turns a (Clears more) b so over result is = absurd (omega arith)
over-by slave first turns a (Waits more) b so over result is = absurd (omega arith)
over-by slave first turns a (Commands word tries) b so over result is = absurd (omega arith)
over-by slave first turns a (WaitsToFetch word tries more) b so over result is = absurd (omega arith)
over-by slave first turns a (Fetches word tries) b so over result is = absurd (omega arith)
over-by slave first turns a (Issues word value) b so over result is = absurd (omega arith)
over-by slave first turns a (WaitsToSettle taken more) b so over result is = absurd (omega arith)
over-by slave first turns a Tidies b so over result is = absurd (omega arith)

module _ {slave : ℕ} {first : Step} {turns : ℕ} {a : Seen} {step : Step} {b : Seen} (so : WentSo slave first turns a step b) where
  pub drives-over : left step ≡ 0 → (result : Result End Stop) → IsEndOf step result → Takes (Remains slave first) a result b
  drives-over over result is = over-by slave first turns a step b so over result is

  -- the site stopped at this datagram
  pub drives-cut : (order : Pdu) (came : Result Pdu DeviceFault) (c : Seen) (result : Result End Stop) → IsErr result → IsNext slave step order
      → ExchangesFrame b slave (order ∷ []) (outcome_of came) (frame_after order came) c → came ≡ Err device.Stopped → Takes (Remains slave first) a result c
  drives-cut order came c result cut next sent is =
      over-by slave first (turns + 1) a Stopped c
      (went-more slave first turns a step b so order came Stopped c next sent
      (subst (λ (r : Result Pdu DeviceFault). Moves slave step r Stopped) (sym is) (stopped-moves slave step (sends-some slave step order next))))
      refl result cut
