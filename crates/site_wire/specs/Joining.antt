-- What devices that share a line have put down for the next frame, by slave.
use Rattle.std.specs.Prelude.{◌≡◌, ℕ, ◌≤◌, ◌∷◌, ◌++◌, [], Bool, true, false, List, length, slice_get, slice_set, slice_index_or, Option, Some, None}
use Rattle.ecat_frame.specs.Frame.{Pdu}
use Rattle.wire_frames.specs.Came.{Reaches}
use Rattle.wire_frames.specs.Out.{sent_to}
use Rattle.wire_frames.specs.declared.numbered.Carried.{Carried}
use Rattle.site_wire.specs.Answering.{answer_of, found_of}
use Rattle.site_wire.specs.Orders.{datagram_of}
use Rattle.site_wire.specs.declared.answers.Answer.{Answer}
use Rattle.site_wire.specs.declared.order.Order.{Order}
use Rattle.site_wire.specs.declared.joining.Stage.{Stage}
use Rattle.site_wire.specs.declared.joining.Stage.TheVariants as stage

-- how far the datagram of the slave at this place of the line is
abbrev pub stage_of : List Stage → (slave : ℕ) → Stage
stage_of stages slave = slice_index_or stages slave stage.Vacant

-- whether its frame is back, or lost
abbrev pub is_at_end : Stage → Bool
is_at_end (stage.Answered answer) = true
is_at_end other = false

-- the answer that came
abbrev pub answer_in : Stage → Option Answer
answer_in (stage.Answered answer) = answer
answer_in other = None

-- The datagram is one that a slave's device had put down and that waited, as it goes to the address that it reaches.
pub record Waited (stations : List ℕ) (stages : List Stage) (d : Pdu) : Type 0 where
  pub slave : ℕ
  pub order : Order
  pub waits : stage_of stages slave ≡ stage.Waits order
  pub address : ℕ
  pub reaches : Reaches stations (datagram_of order) address
  pub is : d ≡ sent_to (datagram_of order) address

-- After the datagrams of a frame the one of this slave is put, if it waits, and its place is kept; or it isn't, and nothing changes.
pub data Collects (stations : List ℕ) (slave : ℕ) (old new : List Stage) (frame later : List Pdu) : Type 0 where
  leaves : new ≡ old → later ≡ frame → Collects stations slave old new frame later
  takes : (order : Order) (address : ℕ) → stage_of old slave ≡ stage.Waits order → Reaches stations (datagram_of order) address
      → new ≡ slice_set old slave (stage.Sent order address (length frame)) → later ≡ frame ++ sent_to (datagram_of order) address ∷ []
      → Collects stations slave old new frame later

-- What waits now waited before.
abbrev pub WaitsNoMore : (old new : Stage) → Type 0
WaitsNoMore old new = (order : Order) → new ≡ stage.Waits order → old ≡ stage.Waits order

-- This is told of a datagram that went to this address at this place of a frame: what came back there, if anything did.
pub data ReportedAt (asked : Pdu) (address place : ℕ) (frame : List Pdu) (again : Bool) (answer : Option Answer) : Type 0 where
  is_missing : length frame ≤ place → answer ≡ None → ReportedAt asked address place frame again answer
  is_there : (reported : Answer) (found : Pdu) → slice_get frame place ≡ Some found → found_of reported ≡ answer_of asked address found → reported.again ≡ again
      → answer ≡ Some reported → ReportedAt asked address place frame again answer

-- the same, of a frame that may not have come back
abbrev pub ReportedOf : (asked : Pdu) → (address place : ℕ) → Option Carried → Option Answer → Type 0
ReportedOf asked address place None answer = answer ≡ None
ReportedOf asked address place (Some carried) answer = ReportedAt asked address place carried.frame carried.again answer

-- The stage is the same, unless the datagram was in a frame under way: then that is at an end, with what came back of it.
abbrev pub ComesToRest : Option Carried → Stage → Stage → Type 0
ComesToRest carried (stage.Sent order address place) new = (answer : Option Answer) × (new ≡ stage.Answered answer) × ReportedOf (datagram_of order) address place carried answer
ComesToRest carried other new = new ≡ other
