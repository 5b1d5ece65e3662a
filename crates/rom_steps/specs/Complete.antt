-- Whole accesses.
use Rattle.std.specs.Prelude.{ℕ, ◌+◌, ◌≤◌, List, [], ◌∷◌, ◌++◌, length, Result, Ok, IsErr}
use Rattle.ecat_frame.specs.Frame.{Pdu}
use Rattle.site_core.specs.declared.fault.DeviceFault.{DeviceFault}
use Rattle.rom_steps.specs.declared.step.Stop.{Stop}
use Rattle.rom_steps.specs.Courses.{Asked}
use Rattle.rom_steps.specs.declared.step.End.{End}
use Rattle.rom_steps.specs.declared.step.Step.{Step}
use Rattle.rom_steps.specs.declared.step.Step.TheVariants.{Ended, Stopped}
use Rattle.rom_steps.specs.Remaining.{IsNext, Moves, Remains, left}

-- These datagrams were sent to the slave, each the next one of its step, and what came back led from the first step to this one.
pub data Went (slave : ℕ) (first : Step) : List Asked → Step → Type 0 where
  nothing_sent : Went slave first [] first
  one_more_sent : {log : List Asked} {step : Step} → (order : Pdu) → (back : Result Pdu DeviceFault) → (last : Step)
      → Went slave first log step
      → IsNext slave step order → Moves slave step back last
      → Went slave first (log ++ record { slave = slave; order = order; back = back } ∷ []) last

-- What was sent up to the end, and the end, are what remained at the first step.
abbrev pub EndsAsBegun : Type 0
EndsAsBegun = (slave : ℕ) → (first : Step) → (log : List Asked) → (end : End) → Went slave first log (Ended end)
    → Remains slave first log (Ok end)

-- The same up to a stop of the line.
abbrev pub StopsAsBegun : Type 0
StopsAsBegun = (slave : ℕ) → (first : Step) → (log : List Asked) → Went slave first log Stopped → (result : Result End Stop)
    → IsErr result
    → Remains slave first log result

-- Each datagram that was sent leaves fewer.
abbrev pub IsBounded : Type 0
IsBounded = (slave : ℕ) → (first : Step) → (log : List Asked) → (last : Step) → Went slave first log last
    → length log + left last ≤ left first
