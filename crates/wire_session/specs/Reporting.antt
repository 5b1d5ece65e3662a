-- What is told at the end of a run or a recovery.
use Rattle.std.specs.Prelude.{◌≡◌, ◌⊎◌, Result, Ok, Err, IfErr, IsErrAnd, IsOk}
use Rattle.wire_faults.specs.declared.faults.WireFault.{WireFault}
use Rattle.wire_faults.specs.Faults.{IsOfStream}

-- The work ended without a fault and that is printed, unless the output fails; or it ended with this fault.
abbrev pub IsPrinted : {T : Type 0} → Result T WireFault → Result (Unit {0}) WireFault → Type 0
IsPrinted (Ok value) result = IfErr result IsOfStream
IsPrinted (Err fault) result = result ≡ Err fault

-- the work ended so; or it ended with a fault that is told as another one, and as one of a file or of memory if it is one
abbrev pub IsExplained : {T : Type 0} → Result T WireFault → Result T WireFault → Type 0
IsExplained ended result = (result ≡ ended) ⊎ IsErrAnd ended (λ fault. IsErrAnd result (λ reported. IsOfStream fault → IsOfStream reported))

-- the work ended so; or it ended without a fault, and a file, the output or memory failed after it
abbrev pub IsReported : {T : Type 0} → Result T WireFault → Result T WireFault → Type 0
IsReported ended result = (result ≡ ended) ⊎ (IsOk ended × IsErrAnd result IsOfStream)
