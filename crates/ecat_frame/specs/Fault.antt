-- The place of the first fault, from the left, in bytes that are no frame.
use Rattle.std.specs.Prelude.{◌≡◌, ◌≢◌, ℕ, ◌+◌, ◌<◌, ◌≤◌, ◌⊎◌, Bool, true, false, List, ◌++◌, length}
use Rattle.ecat_frame.specs.declared.fault.FrameFault.{FrameFault}
use Rattle.ecat_frame.specs.declared.fault.FrameFault.TheVariants.{FrameFull, BadFrame}
use Rattle.ecat_frame.specs.Frame.{Pdu, IsDatagram, AreDatagrams, HasHeader}

-- The bytes don't begin with a whole datagram.
abbrev pub NoDatagram : List ℕ → Type 0
NoDatagram bytes = (first rest : List ℕ) (d : Pdu) (more : Bool) → bytes ≡ first ++ rest → IsDatagram first d more → ⊥

-- The bytes inside the stated length aren't a list of datagrams: the first fault is at this place, counted from the frame's start.
pub data BreaksOff (inside : List ℕ) (at : ℕ) : Type 0 where
  -- a datagram has to follow, as the stated length is above 0 or bit 15 is set, and it is cut off
  not_complete : (before rest : List ℕ) (ds : List Pdu) → inside ≡ before ++ rest → 0 < length inside
      → AreDatagrams before ds true → NoDatagram rest → at ≡ 2 + length before → BreaksOff inside at
  -- bytes stand behind the last datagram, inside the stated length
  surplus : (before rest : List ℕ) (ds : List Pdu) → inside ≡ before ++ rest → 0 < length before → 0 < length rest
      → AreDatagrams before ds false → at ≡ 2 + length before → BreaksOff inside at

-- The bytes are no frame, and this is the place of their first fault.
pub data IsBadAt (bytes : List ℕ) (at : ℕ) : Type 0 where
  no_header : length bytes < 2 → at ≡ 0 → IsBadAt bytes at
  other_type : (stated type : ℕ) (after : List ℕ) → HasHeader bytes stated type after → type ≢ 1 → at ≡ 1 → IsBadAt bytes at
  bad_length : (stated : ℕ) (after : List ℕ) → HasHeader bytes stated 1 after
      → (1498 < stated) ⊎ (length after < stated) → at ≡ 0 → IsBadAt bytes at
  broken : (inside padding : List ℕ) → HasHeader bytes (length inside) 1 (inside ++ padding) → length inside ≤ 1498
      → BreaksOff inside at → IsBadAt bytes at

-- The fault reports the place where these bytes are bad.
abbrev pub IsFaultOf : List ℕ → FrameFault → Type 0
IsFaultOf bytes FrameFull = ⊥
IsFaultOf bytes (BadFrame at) = IsBadAt bytes at

-- The fault reports the place where the bytes inside the stated length stop being datagrams.
abbrev pub IsFaultInside : List ℕ → FrameFault → Type 0
IsFaultInside inside FrameFull = ⊥
IsFaultInside inside (BadFrame at) = BreaksOff inside at
