-- Datagrams that are sent one after another, each in a frame of its own, up to the first fault.
use Rattle.std.specs.Prelude.{◌≡◌, List, [], ◌∷◌, ◌++◌, length, Result, Ok, Err}
use Rattle.ecat_frame.specs.Frame.{Pdu}
use Rattle.site_core.specs.State.{Seen, CycleTurn}
use Rattle.cyclic.specs.declared.fault.CycleFault.{CycleFault}
use Rattle.cyclic.specs.Exchange.{Gives, LeavesAll}

-- This datagram was sent in a frame of its own, with this result. The working counter has to come back as 1.
pub record IsSent (order : Pdu) (turn : CycleTurn) (result : Result (Unit {0}) CycleFault) : Type 0 where
  pub sent : turn.sent ≡ order ∷ []
  pub gives : Gives 1 turn.answer result

-- All of them were sent, in this order, and each was taken.
abbrev pub AreTaken : List Pdu → List CycleTurn → Type 0
AreTaken [] [] = Unit {0}
AreTaken (order ∷ orders) (turn ∷ turns) = IsSent order turn (Ok tt) × AreTaken orders turns
AreTaken orders turns = ⊥

-- The first of them were taken, the next one met this fault, and the rest were not sent.
pub record BreaksOff (orders : List Pdu) (turns : List CycleTurn) (fault : CycleFault) : Type 0 where
  pub first : List Pdu
  pub next : Pdu
  pub rest : List Pdu
  pub orders_are : orders ≡ first ++ next ∷ rest
  pub taken : List CycleTurn
  pub last : CycleTurn
  pub turns_are : turns ≡ taken ++ last ∷ []
  pub are_taken : AreTaken first taken
  pub meets : IsSent next last (Err fault)

-- All of them were sent, or those up to the first fault.
abbrev pub AreSent : List Pdu → List CycleTurn → Result (Unit {0}) CycleFault → Type 0
AreSent orders turns (Ok done) = AreTaken orders turns
AreSent orders turns (Err fault) = BreaksOff orders turns fault

-- Exactly these datagrams were sent, up to the first fault, and nothing else happened.
pub record SendsInOrder (orders : List Pdu) (old : Seen) (result : Result (Unit {0}) CycleFault) (new : Seen) : Type 0 where
  pub turns : List CycleTurn
  pub added : new.turns ≡ old.turns ++ turns
  pub are_sent : AreSent orders turns result
  pub leaves : LeavesAll (length turns) old result new
