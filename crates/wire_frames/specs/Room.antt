-- How much room a frame has for datagrams, as far as it may be used (ETG.1000.4).
use Rattle.std.specs.Prelude.{ℕ, ◌+◌, ◌<◌, ◌≤◌, List, length}
use Rattle.ecat_frame.specs.Frame.{Pdu, spelling}
use Rattle.wire_frames.specs.declared.room.Room.{Room}

-- A datagram with so many bytes of content may stand behind those of the frame. The two bytes of the frame's header aren't counted.
pub record HasRoom (room : Room) (content : ℕ) (frame : List Pdu) : Type 0 where
  pub few : length frame < room.datagrams
  pub short : length (spelling frame) + 12 + content ≤ room.bytes + 2

-- The frame has one datagram at most, or no more than it may have, and they take no more bytes than they may.
pub data Fits (room : Room) (frame : List Pdu) : Type 0 where
  alone : length frame ≤ 1 → Fits room frame
  few : length frame ≤ room.datagrams → length (spelling frame) ≤ room.bytes + 2 → Fits room frame

-- At most one datagram more stands in the frame, with so many bytes of content at most.
pub record AddsOne (most : ℕ) (old new : List Pdu) : Type 0 where
  pub count : length new ≤ length old + 1
  pub size : length (spelling new) ≤ length (spelling old) + 12 + most
