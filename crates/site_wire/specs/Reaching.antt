-- What goes out over a line for a datagram, and how often it is asked (ETG.1000.4).
use Rattle.std.specs.Prelude.{◌≡◌, ◌⊎◌, ℕ, suc, ◌<◌, ◌≤◌, true, false, List, Option, Some, None, IfSome, IsSome, IsSomeAnd, slice_get}
use Rattle.std.specs.Option.{option_map}
use Rattle.ecat_frame.specs.Frame.{Pdu}
use Rattle.wire_frames.specs.Came.{CameOver, Reaches}
use Rattle.wire_frames.specs.Out.{GoesOut, GoesTo, GoesAlone, LooksAround, numbered}
use Rattle.wire_frames.specs.declared.asking.Last.{Last}
use Rattle.wire_frames.specs.declared.numbered.Carried.{Carried}
use Rattle.wire_frames.specs.declared.numbered.NumberedWire.{NumberedWire}
use Rattle.site_wire.specs.Due.{begins_work}
use Rattle.site_wire.specs.Answering.{answer_of, found_of, marked, IsUncounted}
use Rattle.site_wire.specs.declared.answers.Answer.{Answer}
use Rattle.site_wire.specs.declared.faults.StopReason.TheVariants as reason
use Rattle.site_wire.specs.declared.reach.LiveLine.{LiveLine}

-- A LINE ON A WIRE

-- It passes a datagram, over a wire that gives and takes such frames. A line that has stopped sends nothing. Else the datagram goes out alone, to
-- the address that it reaches, and what is told is what came back of it there. If nothing does, the line stops, and looks around.
pub data PassesAlone {W : Type 0} (Gives Takes : List ℕ → Type 0) (old new : LiveLine W) (asked : Pdu) (answer : Option Answer) : Type 0 where
  has_stopped : IsSome old.reason → new ≡ old → answer ≡ None → PassesAlone Gives Takes old new asked answer
  is_back : (reported : Answer) (address : ℕ) (frame : List Pdu) (found : Pdu) → old.reason ≡ None → Reaches old.wire.stations.by_slave asked address
      → GoesTo Takes asked address old.wire.out new.wire.out true → CameOver Gives frame → slice_get frame 0 ≡ Some found
      → found_of reported ≡ answer_of asked address found → answer ≡ Some reported → new.reason ≡ None
      → PassesAlone Gives Takes old new asked answer
  is_silent : (mid : List (List Pdu)) (slave : ℕ) → old.reason ≡ None → GoesAlone Takes old.wire.stations.by_slave asked old.wire.out mid false
      → LooksAround Takes old.wire.stations.by_slave slave mid new.wire.out → answer ≡ None → new.reason ≡ Some reason.Silent
      → PassesAlone Gives Takes old new asked answer

-- the same, and the slaves keep their station addresses
pub record PassesOn {W : Type 0} (Gives Takes : List ℕ → Type 0) (old new : LiveLine W) (asked : Pdu) (answer : Option Answer) : Type 0 where
  pub passes : PassesAlone Gives Takes old new asked answer
  pub stations : new.wire.stations ≡ old.wire.stations

-- The same of a frame of several, which goes out as it is.
pub data PassesAll {W : Type 0} (Gives Takes : List ℕ → Type 0) (old new : LiveLine W) (frame : List Pdu) (carried : Option Carried) : Type 0 where
  all_stopped : IsSome old.reason → new ≡ old → carried ≡ None → PassesAll Gives Takes old new frame carried
  is_all_back : (reported : Carried) (number : ℕ) → old.reason ≡ None → GoesOut Takes (numbered frame number) old.wire.out new.wire.out true
      → CameOver Gives reported.frame → carried ≡ Some reported → new.reason ≡ None → PassesAll Gives Takes old new frame carried
  is_all_silent : (mid : List (List Pdu)) (slave number : ℕ) → old.reason ≡ None → GoesOut Takes (numbered frame number) old.wire.out mid false
      → LooksAround Takes old.wire.stations.by_slave slave mid new.wire.out → carried ≡ None → new.reason ≡ Some reason.Silent
      → PassesAll Gives Takes old new frame carried

-- It looks around for this slave.
abbrev pub LooksFor : {W : Type 0} → (Takes : List ℕ → Type 0) → (old new : NumberedWire W) → ℕ × Last → Type 0
LooksFor Takes old new about = LooksAround Takes old.stations.by_slave about.0 old.out new.out

-- ASKED AGAIN

-- No slave counted the datagram, and it begins no work, with which one that took it would be busy: it is asked again.
pub record IsAskedAgain (asked : Pdu) (answer : Answer) : Type 0 where
  pub uncounted : IsUncounted asked answer
  pub no_work : begins_work asked ≡ false

module _ {L : Type 0} (Passes : L → L → Pdu → Option Answer → Type 0) (asked : Pdu) where
  -- After this answer a line passes the datagram once more, or it doesn't.
  pub data MayAsk (old new : L) (before answer : Option Answer) : Type 0 where
    stays : ¬ IsSomeAnd before (IsUncounted asked) → new ≡ old → answer ≡ before → MayAsk old new before answer
    asks : (uncounted : Answer) (found : Option Answer) → before ≡ Some uncounted → IsAskedAgain asked uncounted → Passes old new asked found
        → answer ≡ option_map marked found → MayAsk old new before answer
    waits : (uncounted : Answer) → before ≡ Some uncounted → IsUncounted asked uncounted → begins_work asked ≡ true → new ≡ old
        → answer ≡ Some (marked uncounted) → MayAsk old new before answer

  -- From the one to the other it passes the datagram so many times, each but the first since it is asked again. This is the last answer.
  pub data Turns (old : L) : (times : ℕ) → (new : L) → Option Answer → Type 0 where
    once : (new : L) (answer : Option Answer) → Passes old new asked answer → Turns old 1 new answer
    again : (times : ℕ) (mid new : L) (before : Answer) (answer : Option Answer) → Turns old times mid (Some before) → IsAskedAgain asked before
        → Passes mid new asked answer → Turns old (suc times) new answer

  -- It does so until it isn't asked again, three times at most. The last answer is told, and whether the slave may have taken the datagram before.
  pub record Asks (old new : L) (answer : Option Answer) : Type 0 where
    pub times : ℕ
    pub few : times ≤ 3
    pub last : Option Answer
    pub turns : Turns old times new last
    pub ends : (times ≡ 3) ⊎ ¬ IsSomeAnd last (IsAskedAgain asked)
    pub reported : option_map found_of answer ≡ option_map found_of last
    pub asked_again : 1 < times → IfSome answer (λ it. it.again ≡ true)
    pub may_be_busy : IsSomeAnd last (IsUncounted asked) → begins_work asked ≡ true → IfSome answer (λ it. it.again ≡ true)
