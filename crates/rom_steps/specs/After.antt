-- The step after each step, case by case. No public contract cites it.
use Rattle.std.specs.Prelude.{ℕ, zero, suc, Bool, true, false, Option, Some, None}
use Rattle.site_core.specs.declared.answers.Settled.TheVariants as settled
use Rattle.rom_steps.specs.declared.back.Rested.{Rested}
use Rattle.rom_steps.specs.declared.back.Rested.TheVariants.{Well, Failed}
use Rattle.rom_steps.specs.declared.back.Back.{Back}
use Rattle.rom_steps.specs.declared.back.WordPair.{WordPair}
use Rattle.rom_steps.specs.declared.step.End.TheVariants as ends
use Rattle.rom_steps.specs.declared.step.Step.{Step}
use Rattle.rom_steps.specs.declared.step.Step.TheVariants.{Forces, Frees, WaitsToClear, Clears, Waits, Commands, WaitsToFetch, Fetches, Issues, WaitsToSettle, Tidies, Ended, Stopped}
use Rattle.rom_steps.specs.Back.{counted_in, issued_in, pair_in, rested_in}

-- the same once more if any are left, else this one
abbrev pub again : Step → (ℕ → Step) → (more : ℕ) → Step
again over same zero = over
again over same (suc more) = same more

abbrev pub forced : ℕ → Bool → Step
forced more true = Frees 2
forced more false = again (Ended ends.Dead) Forces more

abbrev pub freed : ℕ → Bool → Step
freed more true = WaitsToClear 9999
freed more false = again (Ended ends.Dead) Frees more

abbrev pub waited_to_clear : ℕ → Option Rested → Step
waited_to_clear more (Some rested) = Clears 2
waited_to_clear more None = again (Ended ends.Dead) WaitsToClear more

abbrev pub cleared : ℕ → Bool → Step
cleared more true = Ended ends.Opened
cleared more false = again (Ended ends.Dead) Clears more

abbrev pub waited : ℕ → Option Rested → Step
waited more (Some rested) = Ended (ends.Idle rested)
waited more None = again (Ended ends.Dead) Waits more

abbrev pub failed_try : (word tries : ℕ) → Step
failed_try word tries = again (Ended ends.Dead) (Commands word) tries

abbrev pub commanded : (word tries : ℕ) → Bool → Step
commanded word tries true = WaitsToFetch word tries 9999
commanded word tries false = failed_try word tries

abbrev pub waited_to_fetch : (word tries more : ℕ) → Option Rested → Step
waited_to_fetch word tries more (Some Well) = Fetches word tries
waited_to_fetch word tries more (Some Failed) = failed_try word tries
waited_to_fetch word tries more None = again (Ended ends.Dead) (WaitsToFetch word tries) more

abbrev pub fetched : (word tries : ℕ) → Option WordPair → Step
fetched word tries (Some pair) = Ended (ends.Read pair.first pair.second)
fetched word tries None = failed_try word tries

abbrev pub rested_well : Bool → Step
rested_well true = Ended (ends.Settled settled.Written)
rested_well false = Tidies

abbrev pub waited_to_settle : Bool → ℕ → Option Rested → Step
waited_to_settle taken more (Some Well) = rested_well taken
waited_to_settle taken more (Some Failed) = Tidies
waited_to_settle taken more None = again (Ended (ends.Settled settled.Dead)) (WaitsToSettle taken) more

abbrev pub after : Step → Back → Step
after (Forces more) back = forced more (counted_in back)
after (Frees more) back = freed more (counted_in back)
after (WaitsToClear more) back = waited_to_clear more (rested_in back)
after (Clears more) back = cleared more (counted_in back)
after (Waits more) back = waited more (rested_in back)
after (Commands word tries) back = commanded word tries (counted_in back)
after (WaitsToFetch word tries more) back = waited_to_fetch word tries more (rested_in back)
after (Fetches word tries) back = fetched word tries (pair_in back)
after (Issues word value) back = Ended (ends.Issued (issued_in back))
after (WaitsToSettle taken more) back = waited_to_settle taken more (rested_in back)
after Tidies back = Ended (ends.Settled settled.Again)
after (Ended end) back = Ended end
after Stopped back = Stopped
