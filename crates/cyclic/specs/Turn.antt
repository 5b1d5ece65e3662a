-- A turn: one exchange of all process data, by one LRW (ETG.1000.4).
use Rattle.std.specs.Prelude.{◌≡◌, ℕ, ◌==◌, List, [], ◌∷◌, ◌++◌, drop, replicate, Result, Ok, Err, if◌then◌else◌}
use Rattle.ecat_frame.specs.Frame.{Pdu, sent}
use Rattle.ecat_frame.specs.declared.command.Command.TheVariants.{Lrw}
use Rattle.site_core.specs.declared.fault.DeviceFault.{DeviceFault}
use Rattle.site_core.specs.declared.fault.DeviceFault.TheVariants as device
use Rattle.site_core.specs.State.{Seen}
use Rattle.sii_image.specs.ProcessImage.{ProcessImageParts}
use Rattle.cyclic.specs.declared.fault.CycleFault.{CycleFault}
use Rattle.cyclic.specs.declared.fault.CycleFault.TheVariants as cycle
use Rattle.cyclic.specs.Exchange.{LeavesAll}

-- an LRW at logical address 0, over the outputs and a zero byte for each byte of inputs
abbrev pub turn_order : ProcessImageParts → List ℕ → Pdu
turn_order image outputs = sent Lrw 0 0 (outputs ++ replicate image.inputs 0)

-- The result of a turn, and the inputs after it.
pub record Given : Type 0 where
  pub result : Result ℕ CycleFault
  pub inputs : List ℕ

-- The inputs become the bytes after the outputs in what came back, if its working counter is that of all slaves.
abbrev pub given_by : ProcessImageParts → Pdu → (inputs : List ℕ) → Given
given_by image reply inputs =
    if reply.counter == image.counter
    then record { result = Ok reply.counter; inputs = drop image.outputs reply.content }
    else record { result = Err (cycle.WrongCounter reply.counter image.counter); inputs = inputs }

-- The outcome of the frame decides the result and the inputs.
abbrev pub GivesTurn : ProcessImageParts → Result (List Pdu) DeviceFault → (inputs : List ℕ) → Given → Type 0
GivesTurn image (Ok (reply ∷ [])) inputs given = given ≡ given_by image reply inputs
GivesTurn image (Err device.Lost) inputs given = given ≡ record { result = Err cycle.Lost; inputs = inputs }
GivesTurn image (Err device.Stopped) inputs given = given ≡ record { result = Err cycle.Stopped; inputs = inputs }
GivesTurn image answer inputs given = ⊥

-- One frame is sent, and nothing else happens.
pub record TakesTurn
    (image : ProcessImageParts) (outputs inputs : List ℕ) (old : Seen) (result : Result ℕ CycleFault) (left : List ℕ) (new : Seen)
    : Type 0 where
  pub answer : Result (List Pdu) DeviceFault
  pub turn : new.turns ≡ old.turns ++ record { sent = turn_order image outputs ∷ []; answer = answer } ∷ []
  pub gives : GivesTurn image answer inputs (record { result = result; inputs = left })
  pub leaves : LeavesAll 1 old result new
