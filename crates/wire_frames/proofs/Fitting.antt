-- The room of a frame.
use Rattle.std.proofs.Common.{◌≡◌, ◌⊎◌, inl, inr, ℕ, List, length, arith}
use Rattle.ecat_frame.specs.Frame.{Pdu}
use Rattle.wire_frames.specs.declared.room.Room.{Room}
use Rattle.wire_frames.specs.Room.{HasRoom, Fits, AddsOne, alone, few}

-- a datagram after those of a frame that has room for it
pub fits-more : (room : Room) (content : ℕ) (old new : List Pdu) → (length old ≡ 0) ⊎ HasRoom room content old → AddsOne content old new → Fits room new
fits-more room content old new (inl none) adds = alone (omega (arith, none, adds.count))
fits-more room content old new (inr has) adds = few (omega (arith, has.few, adds.count)) (omega (arith, has.short, adds.size))
