-- Every step, and the step after it.
use Rattle.std.proofs.Common.{◌≡◌, ℕ, zero, suc, ◌+◌, ◌*◌, ◌<◌, Bool, true, false, Option, Some, None, Result, refl, sym, subst, arith}
use Rattle.ecat_frame.specs.Frame.{Pdu}
use Rattle.esc_model.specs.Orders.{access_order, poll_order, clear_order, read_order, fetch_order, write_order}
use Rattle.site_core.specs.declared.fault.DeviceFault.{DeviceFault}
use Rattle.rom_steps.specs.declared.back.Rested.{Rested}
use Rattle.rom_steps.specs.declared.back.Rested.TheVariants.{Well, Failed}
use Rattle.rom_steps.specs.declared.back.Back.{Back}
use Rattle.rom_steps.specs.declared.back.WordPair.{WordPair}
use Rattle.rom_steps.specs.declared.step.Step.{Step}
use Rattle.rom_steps.specs.declared.step.Step.TheVariants.{Forces, Frees, WaitsToClear, Clears, Waits, Commands, WaitsToFetch, Fetches, Issues, WaitsToSettle, Tidies, Ended, Stopped}
use Rattle.rom_steps.specs.Back.{IsBack, counted_in, issued_in, pair_in, rested_in}
use Rattle.rom_steps.specs.Remaining.{Remains, IsNext, Follows, Moves, left}
use Rattle.rom_steps.specs.After.{after, forced, freed, waited_to_clear, cleared, waited, failed_try, commanded, waited_to_fetch, fetched, waited_to_settle}
use Rattle.rom_steps.proofs.Following.{asked}
use Rattle.rom_steps.proofs.Heard.{heard_counted, heard_rested, heard_issued, heard_pair}
use Rattle.rom_steps.proofs.Moving.{forced-moves, freed-moves, waited_to_clear-moves, cleared-moves, waited-moves, commanded-moves, waited_to_fetch-moves, fetched-moves, issued-moves, tidied-moves, waited_to_settle-moves}
use Rattle.rom_steps.proofs.Stopping.{ended-moves}

forced-fewer : (more : ℕ) (counted : Bool) → left (forced more counted) < more + 10007
forced-fewer more true = omega arith
forced-fewer zero false = omega arith
forced-fewer (suc more) false = omega arith

freed-fewer : (more : ℕ) (counted : Bool) → left (freed more counted) < more + 10004
freed-fewer more true = omega arith
freed-fewer zero false = omega arith
freed-fewer (suc more) false = omega arith

waited_to_clear-fewer : (more : ℕ) (found : Option Rested) → left (waited_to_clear more found) < more + 4
waited_to_clear-fewer more (Some rested) = omega arith
waited_to_clear-fewer zero None = omega arith
waited_to_clear-fewer (suc more) None = omega arith

cleared-fewer : (more : ℕ) (counted : Bool) → left (cleared more counted) < more + 1
cleared-fewer more true = omega arith
cleared-fewer zero false = omega arith
cleared-fewer (suc more) false = omega arith

waited-fewer : (more : ℕ) (found : Option Rested) → left (waited more found) < more + 1
waited-fewer more (Some rested) = omega arith
waited-fewer zero None = omega arith
waited-fewer (suc more) None = omega arith

failed-fewer : (word tries : ℕ) → left (failed_try word tries) < 1 + tries * 10002
failed-fewer word zero = omega arith
failed-fewer word (suc tries) = omega arith

commanded-fewer : (word tries : ℕ) (counted : Bool) → left (commanded word tries counted) < 10002 + tries * 10002
commanded-fewer word tries true = omega arith
commanded-fewer word tries false = let few = failed-fewer word tries in omega arith

waited_to_fetch-fewer : (word tries more : ℕ) (found : Option Rested) → left (waited_to_fetch word tries more found) < more + 2 + tries * 10002
waited_to_fetch-fewer word tries more (Some Well) = omega arith
waited_to_fetch-fewer word tries more (Some Failed) = let few = failed-fewer word tries in omega arith
waited_to_fetch-fewer word tries zero None = omega arith
waited_to_fetch-fewer word tries (suc more) None = omega arith

fetched-fewer : (word tries : ℕ) (pair : Option WordPair) → left (fetched word tries pair) < 1 + tries * 10002
fetched-fewer word tries (Some pair) = omega arith
fetched-fewer word tries None = failed-fewer word tries

waited_to_settle-fewer : (taken : Bool) (more : ℕ) (found : Option Rested) → left (waited_to_settle taken more found) < more + 2
waited_to_settle-fewer true more (Some Well) = omega arith
waited_to_settle-fewer false more (Some Well) = omega arith
waited_to_settle-fewer taken more (Some Failed) = omega arith
waited_to_settle-fewer taken zero None = omega arith
waited_to_settle-fewer taken (suc more) None = omega arith

-- the step after one that sends this datagram
makes : (slave : ℕ) (old new : Step) (came : Result Pdu DeviceFault) (wanted : Pdu) → ((order : Pdu) → IsNext slave old order → order ≡ wanted)
    → Follows (Remains slave old) (asked slave wanted came) (Remains slave new) → left new < left old → Moves slave old came new
makes slave old new came wanted only follows fewer = record {
  follows = λ order is. subst (λ (o : Pdu). Follows (Remains slave old) (asked slave o came) (Remains slave new)) (sym (only order is)) follows;
  fewer = λ some. fewer;
  over = λ none. absurd (omega arith);
}

module _ (slave : ℕ) (back : Back) (came : Result Pdu DeviceFault) (is : IsBack back came) where
  pub moves : (step : Step) → Moves slave step came (after step back)
  moves (Forces more) =
      makes slave (Forces more) (forced more (counted_in back)) came (access_order slave 2) (λ order o. o)
      (forced-moves slave came more (counted_in back) (heard_counted back came is)) (forced-fewer more (counted_in back))
  moves (Frees more) =
      makes slave (Frees more) (freed more (counted_in back)) came (access_order slave 0) (λ order o. o)
      (freed-moves slave came more (counted_in back) (heard_counted back came is)) (freed-fewer more (counted_in back))
  moves (WaitsToClear more) =
      makes slave (WaitsToClear more) (waited_to_clear more (rested_in back)) came (poll_order slave) (λ order o. o)
      (waited_to_clear-moves slave came more (rested_in back) (heard_rested back came is)) (waited_to_clear-fewer more (rested_in back))
  moves (Clears more) =
      makes slave (Clears more) (cleared more (counted_in back)) came (clear_order slave) (λ order o. o)
      (cleared-moves slave came more (counted_in back) (heard_counted back came is)) (cleared-fewer more (counted_in back))
  moves (Waits more) =
      makes slave (Waits more) (waited more (rested_in back)) came (poll_order slave) (λ order o. o)
      (waited-moves slave came more (rested_in back) (heard_rested back came is)) (waited-fewer more (rested_in back))
  moves (Commands word tries) =
      makes slave (Commands word tries) (commanded word tries (counted_in back)) came (read_order slave word) (λ order o. o)
      (commanded-moves slave came word tries (counted_in back) (heard_counted back came is)) (commanded-fewer word tries (counted_in back))
  moves (WaitsToFetch word tries more) =
      makes slave (WaitsToFetch word tries more) (waited_to_fetch word tries more (rested_in back)) came (poll_order slave) (λ order o. o)
      (waited_to_fetch-moves slave came word tries more (rested_in back) (heard_rested back came is)) (waited_to_fetch-fewer word tries more (rested_in back))
  moves (Fetches word tries) =
      makes slave (Fetches word tries) (fetched word tries (pair_in back)) came (fetch_order slave) (λ order o. o)
      (fetched-moves slave came word tries (pair_in back) (heard_pair back came is)) (fetched-fewer word tries (pair_in back))
  moves (Issues word value) =
      makes slave (Issues word value) (after (Issues word value) back) came (write_order slave word value) (λ order o. o)
      (issued-moves slave came word value (issued_in back) (heard_issued back came is)) (omega arith)
  moves (WaitsToSettle taken more) =
      makes slave (WaitsToSettle taken more) (waited_to_settle taken more (rested_in back)) came (poll_order slave) (λ order o. o)
      (waited_to_settle-moves slave came taken more (rested_in back) (heard_rested back came is)) (waited_to_settle-fewer taken more (rested_in back))
  moves Tidies =
      makes slave Tidies (after Tidies back) came (clear_order slave) (λ order o. o)
      (tidied-moves slave came (counted_in back) (heard_counted back came is)) (omega arith)
  moves (Ended end) = ended-moves slave (Ended end) came refl (λ order o. o)
  moves Stopped = ended-moves slave Stopped came refl (λ order o. o)
