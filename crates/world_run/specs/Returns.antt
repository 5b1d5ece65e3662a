-- Which outcomes are possible, as a world in memory tests it.
use Rattle.std.specs.Prelude.{◌≡◌, ℕ, true, false, List, Option, Some, None, slice_index_or}
use Rattle.jrn_format.specs.declared.journal.Journal.{Journal}
use Rattle.jrn_format.specs.Journal.{IsJournal}
use Rattle.site_core.specs.declared.answers.Issued.TheVariants.{Taken, NotTaken, Lost}
use Rattle.site_core.specs.declared.answers.Settled.TheVariants.{Written, Again, Dead}
use Rattle.book_model.specs.declared.next.RomOutcome.{RomOutcome}
use Rattle.book_model.specs.declared.next.RomOutcome.TheVariants.{Issued, Settled, Stopped}
use Rattle.world_run.specs.declared.station.Asked.{Asked}
use Rattle.world_run.specs.declared.station.Asked.TheVariants.{Nothing, Issue, Settle}
use Rattle.world_run.specs.Sides.{Sides, IsIdleAt, IsWellAt}

-- An action that is in progress with a slave may end with this outcome.
abbrev pub MayReturn : Asked → RomOutcome → (slave : ℕ) → Sides → Type 0
MayReturn Issue (Issued Taken) slave sides = slice_index_or sides.took slave false ≡ true
MayReturn Issue (Issued NotTaken) slave sides = slice_index_or sides.took slave false ≡ false
MayReturn Issue (Issued Lost) slave sides = Unit {0}
MayReturn Issue (Settled how) slave sides = ⊥
MayReturn Issue Stopped slave sides = Unit {0}
MayReturn (Settle taken) (Issued how) slave sides = ⊥
MayReturn (Settle taken) (Settled Written) slave sides = (taken ≡ true) × IsWellAt sides.halves slave
MayReturn (Settle taken) (Settled Again) slave sides = IsIdleAt sides.halves slave
MayReturn (Settle taken) (Settled Dead) slave sides = Unit {0}
MayReturn (Settle taken) Stopped slave sides = Unit {0}
MayReturn Nothing outcome slave sides = ⊥

-- The journal that the bytes spell, or None if they spell none.
abbrev pub ScansTo : (bytes sizes : List ℕ) → Option Journal → Type 0
ScansTo bytes sizes (Some journal) = IsJournal bytes sizes journal
ScansTo bytes sizes None = (journal : Journal) → IsJournal bytes sizes journal → ⊥
