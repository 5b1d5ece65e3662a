-- A step as numbers.
use Rattle.std.specs.Prelude.{ℕ, ◌==◌, if◌then◌else◌, true, false, Option, Some, None}
use Rattle.site_core.specs.declared.answers.Issued.TheVariants as issued
use Rattle.site_core.specs.declared.answers.Settled.TheVariants as settled
use Rattle.rom_steps.specs.declared.access.Access.{Access}
use Rattle.rom_steps.specs.declared.back.Rested.TheVariants.{Well, Failed}
use Rattle.rom_steps.specs.declared.step.End.{End}
use Rattle.rom_steps.specs.declared.step.End.TheVariants as ends
use Rattle.rom_steps.specs.declared.step.Step.{Step}
use Rattle.rom_steps.specs.declared.step.Step.TheVariants.{Forces, Frees, WaitsToClear, Clears, Waits, Commands, WaitsToFetch, Fetches, Issues, WaitsToSettle, Tidies, Ended, Stopped}

-- a step of an opening
abbrev pub opening_in : Access → Option Step
opening_in a =
    if a.phase == 1 then Some (Forces a.more)
    else if a.phase == 2 then Some (Frees a.more)
    else if a.phase == 3 then Some (WaitsToClear a.more)
    else if a.phase == 4 then Some (Clears a.more)
    else None

-- a step of a waiting, a reading, an issue or a settling
abbrev pub word_step_in : Access → Option Step
word_step_in a =
    if a.phase == 5 then Some (Commands a.first a.tries)
    else if a.phase == 6 then Some (WaitsToFetch a.first a.tries a.more)
    else if a.phase == 7 then Some (Fetches a.first a.tries)
    else if a.phase == 8 then Some (Issues a.first a.second)
    else if a.phase == 9 then Some (WaitsToSettle true a.more)
    else if a.phase == 10 then Some (WaitsToSettle false a.more)
    else if a.phase == 11 then Some Tidies
    else if a.phase == 12 then Some Stopped
    else if a.phase == 22 then Some (Waits a.more)
    else None

-- how an access ended
abbrev pub end_in : Access → Option End
end_in a =
    if a.phase == 13 then Some ends.Opened
    else if a.phase == 14 then Some (ends.Read a.first a.second)
    else if a.phase == 15 then Some (ends.Issued issued.Taken)
    else if a.phase == 16 then Some (ends.Issued issued.NotTaken)
    else if a.phase == 17 then Some (ends.Issued issued.Lost)
    else if a.phase == 18 then Some (ends.Settled settled.Written)
    else if a.phase == 19 then Some (ends.Settled settled.Again)
    else if a.phase == 20 then Some (ends.Settled settled.Dead)
    else if a.phase == 21 then Some ends.Dead
    else if a.phase == 23 then Some (ends.Idle Well)
    else if a.phase == 24 then Some (ends.Idle Failed)
    else None

abbrev pub or_ended : Option End → Option Step
or_ended (Some end) = Some (Ended end)
or_ended None = None

abbrev pub or_else : Option Step → Option Step → Option Step
or_else (Some step) other = Some step
or_else None other = other

-- The step that these numbers are, if they are one.
abbrev pub step_in : Access → Option Step
step_in a = or_else (opening_in a) (or_else (word_step_in a) (or_ended (end_in a)))

-- the code of an end
abbrev pub code_of_end : End → ℕ
code_of_end ends.Opened = 101
code_of_end (ends.Idle Well) = 107
code_of_end (ends.Idle Failed) = 108
code_of_end (ends.Read first second) = 102
code_of_end (ends.Issued issued.Taken) = 103
code_of_end (ends.Issued issued.NotTaken) = 104
code_of_end (ends.Issued issued.Lost) = 41
code_of_end (ends.Settled settled.Written) = 105
code_of_end (ends.Settled settled.Again) = 106
code_of_end (ends.Settled settled.Dead) = 43
code_of_end ends.Dead = 43
