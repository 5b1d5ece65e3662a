-- Steps as numbers.
use Rattle.std.proofs.Common.{◌≡◌, ℕ, ◌≤◌, List, length, take, Some, Result, Ok, Err, refl, sym, ap, subst, ◌∙◌, arith}
use Rattle.std.proofs.lemmas.List.{length-take-le}
use Rattle.ecat_frame.specs.Frame.{Pdu}
use Rattle.site_core.specs.declared.fault.DeviceFault.{DeviceFault}
use Rattle.site_core.specs.declared.fault.DeviceFault.TheVariants as device
use Rattle.rom_steps.specs.declared.access.Access.{Access}
use Rattle.rom_steps.specs.declared.back.Back.TheVariants.{Came, Lost}
use Rattle.rom_steps.specs.declared.datagram.ToSend.{ToSend}
use Rattle.rom_steps.specs.declared.step.Step.{Step}
use Rattle.rom_steps.specs.declared.step.Step.TheVariants.{Forces, Frees, WaitsToClear, Clears, Waits, Commands, WaitsToFetch, Fetches, Issues, WaitsToSettle, Tidies, Ended, Stopped}
use Rattle.rom_steps.specs.Back.{IsBack, first_four}
use Rattle.rom_steps.specs.Calls.{IsAnswer, IsCodeOfOver, TellsNext}
use Rattle.rom_steps.specs.Calls.TellsNext.{ended, stopped}
use Rattle.rom_steps.specs.Numbers.{step_in}
use Rattle.rom_steps.specs.Remaining.{IsOver, Moves}

-- what is told where nothing is sent
pub tells_over : (access : Access) (datagram : ToSend) (Unchanged : Type 0) (step : Step) (code : ℕ) → step_in access ≡ Some step → IsOver step → IsCodeOfOver step code → Unchanged
    → TellsNext access code datagram Unchanged
tells_over access datagram Unchanged (Forces more) code is none reported same = absurd (omega arith)
tells_over access datagram Unchanged (Frees more) code is none reported same = absurd (omega arith)
tells_over access datagram Unchanged (WaitsToClear more) code is none reported same = absurd (omega arith)
tells_over access datagram Unchanged (Clears more) code is none reported same = absurd (omega arith)
tells_over access datagram Unchanged (Waits more) code is none reported same = absurd (omega arith)
tells_over access datagram Unchanged (Commands word tries) code is none reported same = absurd (omega arith)
tells_over access datagram Unchanged (WaitsToFetch word tries more) code is none reported same = absurd (omega arith)
tells_over access datagram Unchanged (Fetches word tries) code is none reported same = absurd (omega arith)
tells_over access datagram Unchanged (Issues word value) code is none reported same = absurd (omega arith)
tells_over access datagram Unchanged (WaitsToSettle taken more) code is none reported same = absurd (omega arith)
tells_over access datagram Unchanged Tidies code is none reported same = absurd (omega arith)
tells_over access datagram Unchanged (Ended end) code is none reported same = ended end reported is same
tells_over access datagram Unchanged Stopped code is none reported same = stopped reported is same

-- an answer, as its first four bytes
pub answer-back : (counter : ℕ) (content : List ℕ) (four : List ℕ) (came : Result Pdu DeviceFault) → four ≡ first_four content → IsAnswer counter content came → IsBack (Came counter four) came
answer-back counter content four (Ok reply) is answer = (answer.0, is ∙ ap first_four (sym answer.1))
answer-back counter content four (Err fault) is answer = absurd answer

pub lost-back : (came : Result Pdu DeviceFault) → came ≡ Err device.Lost → IsBack Lost came
lost-back came is = subst (λ (r : Result Pdu DeviceFault). IsBack Lost r) (sym is) refl

pub moves-as : (slave : ℕ) (step later : Step) (came fault : Result Pdu DeviceFault) → came ≡ fault → Moves slave step fault later → Moves slave step came later
moves-as slave step later came fault is moves = subst (λ (r : Result Pdu DeviceFault). Moves slave step r later) (sym is) moves

-- the content of a datagram is as long as it says
pub taken_length : (count : ℕ) (content : List ℕ) → count ≤ 8 → length content ≡ 8 → length (take count content) ≡ count
taken_length count content few long = length-take-le count content (omega arith)
