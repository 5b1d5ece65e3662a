-- What a driver of the steps of `rom_steps` sends, and what comes back for it.
use Rattle.std.specs.Prelude.{◌≡◌, ℕ, Bool, true, false, [], ◌∷◌, Option, Some, None, Result, Ok, Err, IsErr}
use Rattle.ecat_frame.specs.Frame.{Pdu}
use Rattle.site_core.specs.declared.fault.DeviceFault.{DeviceFault}
use Rattle.site_core.specs.declared.fault.DeviceFault.TheVariants as device
use Rattle.site_core.specs.State.{Seen}
use Rattle.site_core.specs.Calls.{ExchangesFrame}
use Rattle.rom_steps.specs.Back.{IsBack}
use Rattle.rom_steps.specs.declared.back.Back.{Back}
use Rattle.rom_steps.specs.declared.back.Rested.{Rested}
use Rattle.rom_steps.specs.declared.back.WordPair.{WordPair}
use Rattle.rom_steps.specs.declared.step.End.{End}
use Rattle.rom_steps.specs.declared.step.End.TheVariants as ends
use Rattle.rom_steps.specs.declared.step.Step.{Step}
use Rattle.rom_steps.specs.declared.step.Step.TheVariants.{Ended}
use Rattle.rom_steps.specs.declared.step.Stop.{Stop}
use Rattle.esc_rom.specs.Courses.{outcome_of, frame_after}

-- what came back, or the site stopped
abbrev pub IsCame : Result Back Stop → Result Pdu DeviceFault → Type 0
IsCame (Ok back) came = IsBack back came
IsCame (Err stop) came = came ≡ Err device.Stopped

-- This datagram was sent alone in a frame, and that came back.
pub record AsksOnce (old : Seen) (slave : ℕ) (order : Pdu) (result : Result Back Stop) (new : Seen) : Type 0 where
  pub came : Result Pdu DeviceFault
  pub sent : ExchangesFrame old slave (order ∷ []) (outcome_of came) (frame_after order came) new
  pub is : IsCame result came

-- the end of an access, or a stop
abbrev pub IsEndOf : Step → Result End Stop → Type 0
IsEndOf (Ended end) result = result ≡ Ok end
IsEndOf step result = IsErr result

-- whether an opening ended so
abbrev pub is_open : End → Bool
is_open ends.Opened = true
is_open end = false

-- what a waiting that ended so has seen
abbrev pub rest_at : End → Option Rested
rest_at (ends.Idle rested) = Some rested
rest_at end = None

-- the words at the end of a reading
abbrev pub words_at : End → Option WordPair
words_at (ends.Read first second) = Some (record { first = first; second = second })
words_at end = None
