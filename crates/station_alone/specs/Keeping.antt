-- While a station makes steps, a stop at any moment leaves only what is kept: redo gives a prefix with every acknowledged command.
use Rattle.std.specs.Prelude.{◌≡◌, ℕ, ◌+◌, ◌≤◌, List, [], ◌∷◌, ◌++◌}
use Rattle.sii_edit.specs.declared.command.Command.{Command}
use Rattle.site_core.specs.State.{Seen, clock}
use Rattle.site_core.specs.Passes.{LeavesOnly}
use Rattle.book_model.specs.Machine.{Machine}
use Rattle.book_model.specs.Keeping.{IsOfBook}
pub use Rattle.world_law.specs.Law.{KeptFor}
use Rattle.site_journal.specs.Running.{KeepsAll, KeepsWith, with_commands}
use Rattle.station_alone.specs.declared.choice.Choice.{Choice}
use Rattle.station_alone.specs.declared.choice.Choice.TheVariants.{Submit}
use Rattle.station_alone.specs.declared.choice.Answer.{Answer}
use Rattle.station_alone.specs.declared.choice.Answer.TheVariants.{Accepted}
use Rattle.station_alone.specs.Station.{Station}
use Rattle.station_alone.specs.Steps.{Steps, most_calls}

-- The command that a step has accepted, if any.
abbrev pub accepted_by : Choice → Answer → List Command
accepted_by (Submit command) (Accepted number) = command ∷ []
accepted_by choice answer = []

-- The commands that steps in a row have accepted.
abbrev pub accepted_in : List Choice → List Answer → List Command
accepted_in [] answers = []
accepted_in (choice ∷ choices) [] = []
accepted_in (choice ∷ choices) (answer ∷ answers) = accepted_by choice answer ++ accepted_in choices answers

-- The same session goes on: these commands were accepted, with at most `most` device calls.
pub record GoesOn (commands : List Command) (most : ℕ) (old new : Station) : Type 0 where
  pub line : new.line ≡ old.line
  pub words : new.book.words ≡ old.book.words
  pub found : new.book.found ≡ old.book.found
  pub accepted : new.book.accepted ≡ old.book.accepted ++ commands
  pub durable : old.book.durable ≤ new.book.durable
  pub within : clock new.seen ≤ clock old.seen + most

-- For each machine: if all that a stop may leave was kept before, it stays kept at each moment.
abbrev pub KeepsThroughout : Seen → Seen → Type 0
KeepsThroughout old new = (machine : Machine) → LeavesOnly (KeptFor machine) old.state → KeepsAll machine old new

-- At each moment on the way, a stop could have left only what is kept with a prefix of the commands accepted. In the end, what it may
-- leave is kept with all of them accepted and all durable ones acknowledged.
pub record KeepsFor (machine : Machine) (commands : List Command) (old new : Station) : Type 0 where
  pub on_the_way : KeepsWith machine commands old.seen new.seen
  pub at_last : LeavesOnly (KeptFor (with_commands machine commands new.book.durable)) new.seen.state

-- For each machine that the book is to its callers: if all that a stop may leave was kept before, it stays kept.
abbrev pub Keeps : List Command → Station → Station → Type 0
Keeps commands old new = (machine : Machine) → IsOfBook old.book machine → LeavesOnly (KeptFor machine) old.seen.state
    → KeepsFor machine commands old new

-- A step was made with this answer, and everything that is claimed of a step holds.
pub record Went (choice : Choice) (old : Station) (answer : Answer) (new : Station) : Type 0 where
  pub steps : Steps choice old answer new
  pub goes_on : GoesOn (accepted_by choice answer) (most_calls choice) old new
  pub keeps : Keeps (accepted_by choice answer) old new

-- ---- steps in a row, one by one

-- A step was made while the book was this machine to its callers, and what is claimed of a step holds for it.
pub record KeepsInStep (machine : Machine) (choice : Choice) (old : Station) (answer : Answer) (new : Station) : Type 0 where
  pub steps : Steps choice old answer new
  pub goes_on : GoesOn (accepted_by choice answer) (most_calls choice) old new
  pub keeps : KeepsFor machine (accepted_by choice answer) old new

-- Steps in a row. At each moment of a step a stop could have left only what is kept with all commands that the steps before it
-- accepted, and everything acknowledged that was durable when it began.
abbrev pub KeptInOrder : Machine → List Choice → Station → List Answer → Station → Type 0
KeptInOrder machine [] old [] new = new ≡ old
KeptInOrder machine (choice ∷ choices) old (answer ∷ answers) new = (mid : Station) × KeepsInStep machine choice old answer mid
    × KeptInOrder (with_commands machine (accepted_by choice answer) mid.book.durable) choices mid answers new
KeptInOrder machine choices old answers new = ⊥

-- This is so for each machine that the book is to its callers, if all that a stop may leave was kept before.
abbrev pub KeepsInOrder : List Choice → Station → List Answer → Station → Type 0
KeepsInOrder choices old answers new = (machine : Machine) → IsOfBook old.book machine → LeavesOnly (KeptFor machine) old.seen.state
    → KeptInOrder machine choices old answers new
