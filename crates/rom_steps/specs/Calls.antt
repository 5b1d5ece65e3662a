-- What the calls on numbers do.
use Rattle.std.specs.Prelude.{◌≡◌, ◌≢◌, ℕ, List, length, Some, None, Result, Ok, Err}
use Rattle.ecat_frame.specs.Frame.{Pdu}
use Rattle.site_core.specs.declared.fault.DeviceFault.{DeviceFault}
use Rattle.rom_steps.specs.Courses.{Course}
use Rattle.rom_steps.specs.declared.access.Access.{Access}
use Rattle.rom_steps.specs.declared.datagram.ToSend.{ToSend}
use Rattle.rom_steps.specs.declared.step.End.{End}
use Rattle.rom_steps.specs.declared.step.Step.{Step}
use Rattle.rom_steps.specs.declared.step.Step.TheVariants.{Ended, Stopped}
use Rattle.rom_steps.specs.Numbers.{code_of_end, step_in}
use Rattle.rom_steps.specs.Remaining.{Begins, IsToSend, IsOver, Moves, left}

-- The numbers are the first step of this course, after which at most this number of datagrams is sent.
pub record Starts (course : (slave : ℕ) → Course End) (most : ℕ) (access : Access) : Type 0 where
  pub step : Step
  pub is : step_in access ≡ Some step
  pub begins : Begins step course
  pub bounded : left step ≡ most

-- What is asked for next: 100, this datagram is to be sent; else the code of the end, or 42 where the line has stopped; or 110, the
-- numbers are no step.
pub data TellsNext (access : Access) (code : ℕ) (datagram : ToSend) (Unchanged : Type 0) : Type 0 where
  sends : (step : Step) → code ≡ 100 → step_in access ≡ Some step → IsToSend step datagram → TellsNext access code datagram Unchanged
  ended : (end : End) → code ≡ code_of_end end → step_in access ≡ Some (Ended end) → Unchanged → TellsNext access code datagram Unchanged
  stopped : code ≡ 42 → step_in access ≡ Some Stopped → Unchanged → TellsNext access code datagram Unchanged
  no_step : code ≡ 110 → step_in access ≡ None → Unchanged → TellsNext access code datagram Unchanged

-- the code of a step at which nothing is sent
abbrev pub IsCodeOfOver : Step → ℕ → Type 0
IsCodeOfOver (Ended end) code = code ≡ code_of_end end
IsCodeOfOver Stopped code = code ≡ 42
IsCodeOfOver step code = Unit {0}

-- One step became another one, since this came back for its datagram, whichever slave that was sent to. Or 110: nothing was to be sent.
pub data Steps (old : Access) (code : ℕ) (new : Access) (Came : Result Pdu DeviceFault → Type 0) : Type 0 where
  moved : (step later : Step) → code ≡ 0 → step_in old ≡ Some step → step_in new ≡ Some later
      → ((slave : ℕ) → (came : Result Pdu DeviceFault) → Came came → Moves slave step came later) → Steps old code new Came
  over : (step : Step) → code ≡ 110 → step_in old ≡ Some step → IsOver step → new ≡ old → Steps old code new Came
  no_step : code ≡ 110 → step_in old ≡ None → new ≡ old → Steps old code new Came

-- The frame came back with this working counter and this content.
abbrev pub IsAnswer : (counter : ℕ) → List ℕ → Result Pdu DeviceFault → Type 0
IsAnswer counter content (Ok reply) = (reply.counter ≡ counter) × (reply.content ≡ content)
IsAnswer counter content (Err fault) = ⊥

-- The content is as long as that of the datagram of this step.
pub record IsAsLong (access : Access) (content : List ℕ) : Type 0 where
  pub step : Step
  pub is : step_in access ≡ Some step
  pub datagram : ToSend
  pub sends : IsToSend step datagram
  pub long : length content ≡ datagram.length

-- The same; the content is as long as that of the datagram then. Or 111: it isn't, and nothing was changed.
pub data StepsWith (old : Access) (code : ℕ) (new : Access) (counter : ℕ) (content : List ℕ) : Type 0 where
  steps : Steps old code new (IsAnswer counter content) → (code ≡ 0 → IsAsLong old content) → StepsWith old code new counter content
  other_length : (step : Step) → (datagram : ToSend) → code ≡ 111 → step_in old ≡ Some step → IsToSend step datagram
      → length content ≢ datagram.length → new ≡ old → StepsWith old code new counter content
