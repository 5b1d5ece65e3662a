-- A datagram that is due to the slave at a place.
use Rattle.std.proofs.Common.{◌≡◌, ℕ, ◌<◌, List, [], ◌∷◌}
use Rattle.std.specs.List.{All}
use Rattle.ecat_frame.specs.Frame.{Pdu}
use Rattle.esc_model.specs.Bytes.{station_of}
use Rattle.esc_model.specs.Orders.{station}
use Rattle.esc_model.specs.SlaveHalf.{SlaveHalf}
use Rattle.wire_frames.specs.Sending.{IsForEeprom}
use Rattle.site_wire.specs.Due.{IsFit}
use Rattle.site_wire.specs.Following.{IsDueTo}

pub due_to : (slave : ℕ) (half : SlaveHalf) (frame : List Pdu) (d : Pdu) → frame ≡ d ∷ [] → d.counter ≡ 0 → IsFit half d → IsForEeprom d
    → station_of d.address ≡ station slave → All (λ (byte : ℕ). byte < 256) d.content → IsDueTo slave half frame d
due_to slave half frame d one fresh fits eeprom to bytes =
    record { one = one; fresh = fresh; fits = fits; eeprom = eeprom; to = to; bytes = bytes }
