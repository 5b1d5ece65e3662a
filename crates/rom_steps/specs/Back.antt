-- What came back for a datagram, and how it is read.
use Rattle.std.specs.Prelude.{◌≡◌, ℕ, ◌+◌, ◌*◌, ◌==◌, if◌then◌else◌, Bool, false, List, [], ◌∷◌, Option, Some, None, Result, Ok, Err, slice_index}
use Rattle.ecat_frame.specs.Frame.{Pdu}
use Rattle.site_core.specs.declared.fault.DeviceFault.{DeviceFault}
use Rattle.site_core.specs.declared.fault.DeviceFault.TheVariants as device
use Rattle.site_core.specs.declared.answers.Issued.{Issued}
use Rattle.site_core.specs.declared.answers.Issued.TheVariants as issued
use Rattle.rom_steps.specs.Accesses.{rest_shown}
use Rattle.rom_steps.specs.declared.back.Rested.{Rested}
use Rattle.rom_steps.specs.declared.back.Back.{Back}
use Rattle.rom_steps.specs.declared.back.Back.TheVariants.{Came, Lost}
use Rattle.rom_steps.specs.declared.back.WordPair.{WordPair}

-- the first four bytes of a content, with 0 after a shorter one
abbrev pub first_four : List ℕ → List ℕ
first_four content = slice_index content 0 ∷ slice_index content 1 ∷ slice_index content 2 ∷ slice_index content 3 ∷ []

-- The reply has this working counter and these first four bytes, or none came, since the frame was lost.
abbrev pub IsBack : Back → Result Pdu DeviceFault → Type 0
IsBack (Came counter content) (Ok reply) = (reply.counter ≡ counter) × (content ≡ first_four reply.content)
IsBack (Came counter content) (Err fault) = ⊥
IsBack Lost (Ok reply) = ⊥
IsBack Lost (Err fault) = fault ≡ device.Lost

-- a datagram that is counted
abbrev pub counted_in : Back → Bool
counted_in (Came counter content) = counter == 1
counted_in Lost = false

-- what a poll shows
abbrev pub rested_in : Back → Option Rested
rested_in (Came counter content) = if counter == 1 then rest_shown (slice_index content 1) else None
rested_in Lost = None

-- the words that were fetched
abbrev pub pair_in : Back → Option WordPair
pair_in (Came counter content) =
    if counter == 1
    then Some (record {
      first = slice_index content 0 + 256 * slice_index content 1;
      second = slice_index content 2 + 256 * slice_index content 3;
    })
    else None
pair_in Lost = None

-- how a word was issued
abbrev pub issued_in : Back → Issued
issued_in (Came counter content) = if counter == 1 then issued.Taken else issued.NotTaken
issued_in Lost = issued.Lost
