-- A frame of one datagram.
use Rattle.std.proofs.Common.{◌≡◌, List, [], ◌∷◌, length, Some, slice_get, ap, arith}
use Rattle.ecat_frame.specs.Frame.{Pdu}

-- a frame of which the first datagram is known has no other, if there is one
pub only_one : (frame : List Pdu) (d : Pdu) → length frame ≡ 1 → slice_get frame 0 ≡ Some d → frame ≡ d ∷ []
only_one [] d one at = absurd cc
only_one (e ∷ []) d one at = let same : e ≡ d = (let i : Some e ≡ Some d = at in cc) in ap (λ (x : Pdu). x ∷ []) same
only_one (e ∷ f ∷ rest) d one at = absurd (omega arith)
