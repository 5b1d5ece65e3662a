-- What an event does to a world in memory.
use Rattle.std.specs.Prelude.{◌≡◌, ℕ, Some, Result, Ok, Err}
use Rattle.book_model.specs.declared.fault.CoreFault.{CoreFault}
use Rattle.book_model.specs.declared.next.DiskNext.{DiskNext}
use Rattle.book_model.specs.declared.next.RomNext.TheVariants as next
use Rattle.book_model.specs.Book.{Book}
use Rattle.book_model.specs.RomSteps.{rom_next}
use Rattle.world_law.specs.World as law
use Rattle.world_law.specs.World.{World, Reported}
use Rattle.world_law.specs.Happenings.{Happens}
use Rattle.world_run.specs.declared.happenings.Event.{Event}
use Rattle.world_run.specs.declared.happenings.Event.TheVariants as events
use Rattle.world_run.specs.declared.happenings.DiskEnd.TheVariants as ends
use Rattle.world_run.specs.Torn.{FailsAs, StopsAs}
use Rattle.world_run.specs.Left.{TornBy}
use Rattle.world_run.specs.Sides.{Sides, HandsWord, ComesToRest}
use Rattle.world_run.specs.Progress.{handed_out}

-- The event of the main law, without the choices.
abbrev pub as_event : Event → law.Event
as_event (events.Submit command) = law.Submit command
as_event events.Plan = law.Plan
as_event events.Migrate = law.Migrate
as_event events.Finish = law.Finish
as_event events.DiskBegin = law.DiskBegin
as_event (events.DiskDone ends.Done) = law.DiskDone (Ok tt)
as_event (events.DiskDone (ends.Failed fault bytes)) = law.DiskDone (Err fault)
as_event (events.RomIssue slave takes) = law.RomIssue slave
as_event (events.RomDone slave outcome) = law.RomDone slave outcome
as_event (events.RomResolve slave end) = law.RomResolve slave
as_event (events.Stop left) = law.Stop
as_event events.Open = law.Open

-- The slaves of a world.
abbrev pub sides_of : World → Sides
sides_of world = record { halves = world.state.halves; took = world.took }

-- The choices were followed: the bytes of a failed write, whether an issue is taken, how a slave comes to rest, and what a stop leaves.
-- An action on a slave that ends leaves the disk and all slaves as they are.
abbrev pub IsChosen : Event → World → World → Type 0
IsChosen (events.DiskDone (ends.Failed fault bytes)) old new =
    (book : Book) (action : DiskNext) → old.book ≡ Some book → handed_out book ≡ Some action
    → FailsAs action bytes.items old.state.disk new.state.disk
IsChosen (events.RomIssue slave takes) old new =
    (book : Book) (word value : ℕ) → old.book ≡ Some book → (rom_next book slave).0 ≡ next.Issue word value
    → HandsWord slave takes word value (sides_of old) (sides_of new)
IsChosen (events.RomDone slave outcome) old new = new.state ≡ old.state
IsChosen (events.RomResolve slave end) old new = ComesToRest slave end (sides_of old) (sides_of new)
IsChosen (events.Stop left) old new = StopsAs left.bytes.items old.state.disk new.state.disk
    × TornBy left.words.items old.state.halves new.state.halves
IsChosen event old new = Unit {0}

-- The event has happened with its choices. Or it can't happen, and nothing has changed.
pub data Happened (event : Event) (old new : World) : Type 0 where
  happens : (reported : Reported) → Happens (as_event event) old reported new → IsChosen event old new → Happened event old new
  cannot : ((reported : Reported) (later : World) → Happens (as_event event) old reported later → ⊥) → new ≡ old → Happened event old new

-- The events that take memory.
abbrev pub TakesMemory : Event → Type 0
TakesMemory (events.Submit command) = Unit {0}
TakesMemory events.Plan = Unit {0}
TakesMemory events.DiskBegin = Unit {0}
TakesMemory (events.DiskDone ends.Done) = Unit {0}
TakesMemory events.Open = Unit {0}
TakesMemory event = ⊥

-- The outcome of a step: the event has happened, or memory was refused and nothing has changed.
abbrev pub Went : Event → World → Result (Unit {0}) CoreFault → World → Type 0
Went event old (Ok done) new = Happened event old new
Went event old (Err fault) new = TakesMemory event × (new ≡ old)
