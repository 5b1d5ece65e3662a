-- Courses: which datagrams are sent to a slave, one after another, as what came back for each decides, and how that ends.
use Rattle.std.specs.Prelude.{◌≡◌, ◌≢◌, ◌⊎◌, ℕ, ◌+◌, ◌<◌, Bool, true, false, List, [], ◌∷◌, ◌++◌, Result, Ok, Err, IsErr}
use Rattle.ecat_frame.specs.Frame.{Pdu}
use Rattle.site_core.specs.declared.fault.DeviceFault.{DeviceFault}
use Rattle.site_core.specs.declared.fault.DeviceFault.TheVariants as device
use Rattle.rom_steps.specs.declared.step.Stop.{Stop}

-- A datagram that was sent to a slave, alone in its frame, and the datagram that came back, or why none did.
pub record Asked : Type 0 where
  pub slave : ℕ
  pub order : Pdu
  pub back : Result Pdu DeviceFault

-- what may be sent, and the outcome
abbrev pub Course : Type 0 → Type 1
Course T = List Asked → Result T Stop → Type 0

-- how the answer is read: `reported` says what a datagram that came back means, `lost` what a lost frame means
abbrev pub IsHeard : {T : Type 0} → (reported : Pdu → T) → (lost : T) → Result Pdu DeviceFault → Result T Stop → Type 0
IsHeard reported lost (Ok reply) result = result ≡ Ok (reported reply)
IsHeard reported lost (Err device.Lost) result = result ≡ Ok lost
IsHeard reported lost (Err device.Stopped) result = IsErr result
IsHeard reported lost (Err device.Disk) result = ⊥

-- one datagram
abbrev pub Asks : {T : Type 0} → (slave : ℕ) → Pdu → (reported : Pdu → T) → (lost : T) → Course T
Asks slave order reported lost log result =
    (back : Result Pdu DeviceFault) × (log ≡ record { slave = slave; order = order; back = back } ∷ []) × IsHeard reported lost back result

-- nothing more
abbrev pub Ends : {T : Type 0} → T → Course T
Ends value log result = (log ≡ []) × (result ≡ Ok value)

-- One course came to this value, and then another one was taken.
pub record GoesOn {T V : Type 0} (first : List Asked → Result T Stop → Type 0) (next : T → List Asked → Result V Stop → Type 0)
    (log : List Asked) (result : Result V Stop) : Type 0 where
  pub value : T
  pub front : List Asked
  pub after : List Asked
  pub log_is : log ≡ front ++ after
  pub came_to : first front (Ok value)
  pub goes_on : next value after result

-- one course and then, by its value, another one; or the line stopped in the first
abbrev pub Then : {T V : Type 0} → Course T → (T → Course V) → Course V
Then first next log result = GoesOn first next log result ⊎ ((stop : Stop) × first log (Err stop) × IsErr result)

-- the course only if this is true
abbrev pub OnlyIf : Bool → Course Bool → Course Bool
OnlyIf true course = course
OnlyIf false course = Ends false

-- This number of rounds, each of which came to the value that asks for the next one.
pub data Rounds {T : Type 0} (round : ℕ → List Asked → Result T Stop → Type 0) (again : T) : (times : ℕ) → List Asked → Type 0 where
  no_round : Rounds round again 0 []
  one_more : {times : ℕ} {front after : List Asked} → Rounds round again times front → round times after (Ok again)
      → Rounds round again (times + 1) (front ++ after)

-- The rounds ended with one of the first `most`: it came to another value, or the line stopped in it.
pub record EndsInRound {T : Type 0} (most : ℕ) (round : ℕ → List Asked → Result T Stop → Type 0) (again : T) (log : List Asked)
    (result : Result T Stop) : Type 0 where
  pub times : ℕ
  pub few : times < most
  pub front : List Asked
  pub after : List Asked
  pub log_is : log ≡ front ++ after
  pub rounds : Rounds round again times front
  pub last : round times after result
  pub ends : result ≢ Ok again

-- rounds until one comes to another value, at most this number of them; which it is depends on the number of those before it
abbrev pub InTurn : {T : Type 0} → (most : ℕ) → (ℕ → Course T) → (again : T) → Course T
InTurn most round again log result = (Rounds round again most log × (result ≡ Ok again)) ⊎ EndsInRound most round again log result

-- the same round each time
abbrev pub UpTo : {T : Type 0} → (most : ℕ) → Course T → (again : T) → Course T
UpTo most round again = InTurn most (λ before. round) again
