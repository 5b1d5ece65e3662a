-- Access to EEPROMs that is put back as it was found (0x0500, ETG.1000.4). `Gives` is what is known of the bytes that the wire gives.
use Rattle.std.specs.Prelude.{◌≡◌, ℕ, ◌<◌, List, [], ◌∷◌, slice_index, slice_index_or, None, IsSome, IsSomeAnd, ⊤}
use Rattle.ecat_frame.specs.Frame.{sent}
use Rattle.ecat_frame.specs.declared.command.Command.TheVariants.{Fpwr}
use Rattle.esc_model.specs.Orders.{address_of}
use Rattle.wire_bringup.specs.Access.{restored}
use Rattle.wire_frames.specs.Came.{Answered, Unanswered}
use Rattle.wire_frames.specs.declared.handed.Handed.{Handed}
use Rattle.wire_frames.specs.declared.handed.Handed.TheVariants as handed
use Rattle.wire_bringup.specs.declared.found.SlaveState.{SlaveState}
use Rattle.wire_bringup.specs.States.{nothing_known}

-- What came of a write of these bits to 0x0500 of the slave at this place of the line: an answer came in which this slave, alone, counted
-- it; or a frame came back in which there is no such answer.
abbrev pub IsWritten : (Gives : List ℕ → Type 0) → (stations : List ℕ) → (slave access : ℕ) → Handed → Type 0
IsWritten Gives stations slave access handed.Nothing = ⊥
IsWritten Gives stations slave access handed.Back = Answered Gives (slice_index stations slave) 5 0x0500 (access ∷ [])
IsWritten Gives stations slave access handed.Uncounted = Unanswered Gives stations (sent Fpwr 0 (address_of slave 0x0500) (access ∷ []))
IsWritten Gives stations slave access handed.Silent = ⊤

-- What became of the access to the EEPROM of a slave that was found in this state: nothing was to be put back just where that is so; else
-- the bits that were found were written.
abbrev pub IsHanded : (Gives : List ℕ → Type 0) → (stations : List ℕ) → (slave : ℕ) → SlaveState → Handed → Type 0
IsHanded Gives stations slave state handed.Nothing = restored state.access ≡ None
IsHanded Gives stations slave state handed.Back = IsSomeAnd (restored state.access) (λ access. IsWritten Gives stations slave access handed.Back)
IsHanded Gives stations slave state handed.Uncounted =
    IsSomeAnd (restored state.access) (λ access. IsWritten Gives stations slave access handed.Uncounted)
IsHanded Gives stations slave state handed.Silent = IsSome (restored state.access)

-- the same of each slave before this one
abbrev pub AllHanded : (Gives : List ℕ → Type 0) → (stations : List ℕ) → (slaves : ℕ) → List SlaveState → List Handed → Type 0
AllHanded Gives stations slaves states all = (slave : ℕ) → slave < slaves
    → IsHanded Gives stations slave (slice_index_or states slave nothing_known) (slice_index_or all slave handed.Nothing)
