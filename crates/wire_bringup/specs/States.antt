-- What slaves are in, as it came over a wire (ETG.1000.4). `Gives` is what is known of the bytes that the wire gives.
use Rattle.std.specs.Prelude.{◌≡◌, ℕ, ◌<◌, Bool, true, false, List, [], ◌∷◌, slice_index, slice_index_or, Option, Some, None}
use Rattle.std.specs.Int.{w16, to_le_bytes}
use Rattle.ecat_frame.specs.Frame.{sent}
use Rattle.ecat_frame.specs.declared.command.Command.TheVariants.{Fprd}
use Rattle.esc_model.specs.Orders.{address_of}
use Rattle.wire_frames.specs.Came.{Answered, Unanswered}
use Rattle.wire_bringup.specs.declared.found.SlaveState.{SlaveState}

-- A word of two registers of a slave, the low byte first: it stands in the answer to a read, or a frame came back in which there is none.
abbrev pub Looked : (Gives : List ℕ → Type 0) → (stations : List ℕ) → (slave register : ℕ) → Option ℕ → Type 0
Looked Gives stations slave register None = Unanswered Gives stations (sent Fprd 0 (address_of slave register) (0 ∷ 0 ∷ []))
Looked Gives stations slave register (Some word) = Answered Gives (slice_index stations slave) 4 register (to_le_bytes w16 word)

-- AL status (0x0130): on a wire that is lent it isn't known
abbrev pub StatusLooked : (Gives : List ℕ → Type 0) → (stations : List ℕ) → (lent : Bool) → (slave : ℕ) → Option ℕ → Type 0
StatusLooked Gives stations lent slave status = (lent ≡ true → status ≡ None) × (lent ≡ false → Looked Gives stations slave 0x0130 status)

-- What a slave is in was read: its AL status, and who has its EEPROM (0x0500).
pub record StateLooked (Gives : List ℕ → Type 0) (stations : List ℕ) (lent : Bool) (slave : ℕ) (state : SlaveState) : Type 0 where
  pub status : StatusLooked Gives stations lent slave state.al_status
  pub access_is : Looked Gives stations slave 0x0500 state.access

abbrev pub nothing_known : SlaveState
nothing_known = record { al_status = None; access = None }

-- the same of each slave before this one
abbrev pub AllLooked : (Gives : List ℕ → Type 0) → (stations : List ℕ) → (lent : Bool) → (slaves : ℕ) → List SlaveState → Type 0
AllLooked Gives stations lent slaves states =
    (slave : ℕ) → slave < slaves → StateLooked Gives stations lent slave (slice_index_or states slave nothing_known)
