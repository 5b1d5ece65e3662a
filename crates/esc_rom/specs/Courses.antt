-- What a call sends: a course of `rom_steps`, each datagram alone in a frame to the EEPROM half of its slave.
use Rattle.std.specs.Prelude.{◌≡◌, List, [], ◌∷◌, Result, Ok, Err}
use Rattle.ecat_frame.specs.Frame.{Pdu}
use Rattle.site_core.specs.declared.fault.DeviceFault.{DeviceFault}
use Rattle.site_core.specs.State.{Seen}
use Rattle.site_core.specs.Calls.{ExchangesFrame}
use Rattle.rom_steps.specs.declared.step.Stop.{Stop}
use Rattle.rom_steps.specs.Courses.{Asked, Course}

-- what the device call returned, and the frame behind it
abbrev pub outcome_of : Result Pdu DeviceFault → Result (Unit {0}) DeviceFault
outcome_of (Ok reply) = Ok tt
outcome_of (Err fault) = Err fault

abbrev pub frame_after : Pdu → Result Pdu DeviceFault → List Pdu
frame_after order (Ok reply) = reply ∷ []
frame_after order (Err fault) = order ∷ []

-- These datagrams were sent, in this order, and no other device call was made.
abbrev pub AskedInTurn : List Asked → Seen → Seen → Type 0
AskedInTurn [] old new = new ≡ old
AskedInTurn (first ∷ rest) old new =
    (mid : Seen) × ExchangesFrame old first.slave (first.order ∷ []) (outcome_of first.back) (frame_after first.order first.back) mid
    × AskedInTurn rest mid new

-- The call took this course, and made no other device call.
pub record Takes {T E : Type 0} (course : List Asked → Result T E → Type 0) (old : Seen) (result : Result T E) (new : Seen) : Type 0 where
  pub log : List Asked
  pub asked : AskedInTurn log old new
  pub took : course log result

-- A call whose faults are of another kind took this course. Its fault is the stop.
abbrev pub AsCourse : {T E : Type 0} → Course T → List Asked → Result T E → Type 0
AsCourse course log (Ok value) = course log (Ok value)
AsCourse course log (Err fault) = (stop : Stop) × course log (Err stop)
