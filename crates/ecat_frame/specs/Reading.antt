-- What the steps of reading a frame give.
use Rattle.std.specs.Prelude.{◌≡◌, ◌≤◌, ℕ, Bool, List, ◌++◌, length}
use Rattle.ecat_frame.specs.declared.datagram.Datagram.{Datagram}
use Rattle.ecat_frame.specs.Frame.{pdu, IsDatagram, HasHeader}

-- The bytes are a datagram and, after it, the rest.
abbrev pub TakesDatagram : List ℕ → Datagram → Bool → List ℕ → Type 0
TakesDatagram bytes d more rest = (first : List ℕ) × (bytes ≡ first ++ rest) × IsDatagram first (pdu d) more

-- The bytes are a header of type 1, `inside` with the stated length, and padding.
abbrev pub HasInside : List ℕ → List ℕ → Type 0
HasInside bytes inside = (padding : List ℕ) × HasHeader bytes (length inside) 1 (inside ++ padding) × (length inside ≤ 1498)
