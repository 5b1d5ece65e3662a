-- Datagrams that a shadow answers by itself.
use Rattle.std.specs.Prelude.{◌≡◌, ◌%◌, ◌≤◌, true, length, slice_index, None}
use Rattle.ecat_frame.specs.Frame.{Pdu}
use Rattle.esc_model.specs.Bytes.{register_of}
use Rattle.esc_model.specs.SlaveHalf.{SlaveHalf, Reading, in_flight}
use Rattle.site_wire.specs.Due.{is_command}

-- The datagram tells only what a shadow knows that was made of the slave's words: it is the command to read words (001); or it reads the data
-- register or those after it (0x0508 on); or it reads registers while the half reads words.
pub data TellsNothing (half : SlaveHalf) (d : Pdu) : Type 0 where
  begins : is_command d ≡ true → 2 ≤ length d.content → slice_index d.content 1 % 8 ≡ 1 → TellsNothing half d
  fetches : d.command ≡ 4 → 0x0508 ≤ register_of d.address → TellsNothing half d
  waits : d.command ≡ 4 → half.activity ≡ Reading → TellsNothing half d

-- The shadow answers the datagram by itself: no word is in flight, and it tells nothing new.
pub record IsKnown (half : SlaveHalf) (d : Pdu) : Type 0 where
  pub quiet : in_flight half.activity ≡ None
  pub tells : TellsNothing half d
