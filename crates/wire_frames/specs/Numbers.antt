-- The number of a frame: the address of its last datagram, which no slave takes (code 0, NOP, ETG.1000.4).
use Rattle.std.specs.Prelude.{◌≡◌, ℕ, ◌-◌, List, length, slice_get, Some}
use Rattle.ecat_frame.specs.Frame.{Pdu}

-- The frame has this number.
pub record HasNumber (frame : List Pdu) (number : ℕ) : Type 0 where
  pub last : Pdu
  pub at : slice_get frame (length frame - 1) ≡ Some last
  pub passes : last.command ≡ 0
  pub is : last.address ≡ number
