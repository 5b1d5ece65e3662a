-- What the result of reading says of all lists of datagrams, and of all places.
use Rattle.std.proofs.Common.{◌≡◌, ℕ, List, Result, Ok, Err, ap}
use Rattle.std.specs.Prelude.{IfOk, IfErr}
use Rattle.std.specs.Result.{IsOkAnd}
use Rattle.ecat_frame.specs.declared.fault.FrameFault.{FrameFault}
use Rattle.ecat_frame.specs.declared.fault.FrameFault.TheVariants.{FrameFull, BadFrame}
use Rattle.ecat_frame.specs.Frame.{Pdu, IsFrame}
use Rattle.ecat_frame.specs.Fault.{IsBadAt, broken, IsFaultOf, IsFaultInside}
use Rattle.ecat_frame.specs.Reading.{HasInside}
use Rattle.ecat_frame.proofs.OneReading.{one_frame, no_frame, one_fault}

pub says_where : (bytes inside : List ℕ) (r : Result (List Pdu) FrameFault) → HasInside bytes inside → IfErr r (IsFaultInside inside) → IfErr r (IsFaultOf bytes)
says_where bytes inside (Ok frame) has err = tt
says_where bytes inside (Err FrameFull) has err = err
says_where bytes inside (Err (BadFrame at)) has err = broken inside has.0 has.1 has.2 err

pub reads_only : (bytes : List ℕ) (r : Result (List Pdu) FrameFault) → IfOk r (IsFrame bytes) → IfErr r (IsFaultOf bytes)
    → (ds : List Pdu) → IsFrame bytes ds → IsOkAnd r (λ frame. frame ≡ ds)
reads_only bytes (Ok frame) found fault ds is = one_frame bytes frame ds found is
reads_only bytes (Err FrameFull) found fault ds is = absurd fault
reads_only bytes (Err (BadFrame at)) found fault ds is = absurd (no_frame bytes at ds fault is)

pub only_place : (bytes : List ℕ) (r : Result (List Pdu) FrameFault) → IfOk r (IsFrame bytes) → IfErr r (IsFaultOf bytes)
    → (at : ℕ) → IsBadAt bytes at → r ≡ Err (BadFrame at)
only_place bytes (Ok frame) found fault at bad = absurd (no_frame bytes at frame bad found)
only_place bytes (Err FrameFull) found fault at bad = absurd fault
only_place bytes (Err (BadFrame at')) found fault at bad = ap (λ (place : ℕ). Err (BadFrame place)) (one_fault bytes at' at fault bad)
