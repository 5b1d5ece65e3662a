-- The main law: what callers of the station can rely on, whatever happens.
use Rattle.std.specs.Prelude.{◌≡◌, ℕ, ◌*◌, ◌^◌, ◌<◌, ◌≤◌, List, [], ◌∷◌, ◌++◌, length, All, Bool, true, false, Option, Some, None, IsOk, Err}
use Rattle.std.specs.List.{AllByRecursion}
use Rattle.sii_image.specs.ProcessImage.{ProcessImageParts, process_image}
use Rattle.sii_edit.specs.declared.command.Command.{Command}
use Rattle.sii_edit.specs.Command.{outcome}
use Rattle.sii_edit.specs.Fold.{contents, contents_after}
use Rattle.sii_edit.specs.Fitting.{PlantFits, CommandFits}
use Rattle.jrn_format.specs.Area.{IsClosed}
use Rattle.jrn_format.specs.Header.{header_bytes, IsCapacity}
use Rattle.jrn_format.specs.Journal.{AreHalves}
use Rattle.jrn_format.specs.Halves.{live}
use Rattle.esc_model.specs.WordAccess.{IsIdle}
use Rattle.site_core.specs.State.{Pair}
use Rattle.site_core.specs.Passes.{LeavesOnly}
use Rattle.book_model.specs.declared.refusal.SubmitRefusal.{SubmitRefusal}
use Rattle.book_model.specs.declared.refusal.SubmitRefusal.TheVariants as refusals
use Rattle.book_model.specs.Book.{Book, own, slave_at}
use Rattle.book_model.specs.Reading.{planned}
use Rattle.book_model.specs.Machine.{Machine, base_of, accepts, reopened, MayKeep}
use Rattle.book_model.specs.Kept.{Kept}
use Rattle.book_model.specs.Keeping.{IsOfBook}
use Rattle.book_model.specs.Opening.{words_in, IsAllSynced}
use Rattle.book_model.specs.Worn.{named_for}
use Rattle.world_law.specs.World.{World, Event, Submit, Reported, Nothing, Accepted, Refused, Acknowledged, Planned, Closed, Migrated, Opened, Step}
use Rattle.world_law.specs.Happenings.{Steps, CanOpen, Opens}

-- ---- a session

-- A session: the machine, whether a finish or a fault has closed it until the next open, and whether its journal is of version 2.
pub record Session : Type 0 where
  pub machine : Machine
  pub is_closed : Bool
  pub is_version_2 : Bool

-- The contents after all accepted commands.
abbrev pub contents_now : Session → List (List ℕ)
contents_now session = contents (base_of session.machine) session.machine.accepted

-- The process image of the contents after the first `count` accepted commands, if they have one.
abbrev pub image_after : Session → ℕ → Option ProcessImageParts
image_after session count = process_image (contents_after (base_of session.machine) session.machine.accepted count)

-- The session is open and its journal is of version 2, so that a command is judged by the contents.
pub record Validates (session : Session) : Type 0 where
  pub is_open : session.is_closed ≡ false
  pub is_new : session.is_version_2 ≡ true

-- The refusal is justified. TooLarge and Full come only for a command that the contents would accept, but the journal can't.
abbrev pub IsRefused : Session → Command → SubmitRefusal → Type 0
IsRefused session command refusals.Closed = session.is_closed ≡ true
IsRefused session command refusals.OldJournal = (session.is_closed ≡ false) × (session.is_version_2 ≡ false)
IsRefused session command (refusals.Command refusal) = Validates session × (outcome (contents_now session) command ≡ Err refusal)
IsRefused session command refusals.TooLarge = Validates session × IsOk (outcome (contents_now session) command)
IsRefused session command refusals.Full = Validates session × IsOk (outcome (contents_now session) command)

-- The session with another machine.
abbrev pub with_machine : Session → Machine → Session
with_machine session machine = record session { machine = machine }

-- The session after callers are told something. An accepted command gets the next number, and a refusal changes nothing. The number
-- of acknowledged commands never falls. A plan is the process image after a prefix of the commands. A new session begins with a prefix of the
-- last session's commands, with every acknowledged one in it.
abbrev pub Follows : Session → Reported → Session → Type 0
Follows session Nothing later = later ≡ session
Follows session (Accepted command number) later =
    Validates session × IsOk (outcome (contents_now session) command) × (number ≡ length session.machine.accepted)
    × (later ≡ with_machine session (accepts session.machine command))
Follows session (Refused command refusal) later = IsRefused session command refusal × (later ≡ session)
Follows session (Acknowledged count) later =
    (session.machine.acknowledged ≤ count) × (count ≤ length session.machine.accepted)
    × (later ≡ with_machine session (record session.machine { acknowledged = count }))
Follows session (Planned count image) later =
    (count ≤ length session.machine.accepted) × (image ≡ image_after session count) × (later ≡ session)
Follows session Closed later = later ≡ record session { is_closed = true }
Follows session Migrated later = later ≡ record session { is_version_2 = true }
Follows session (Opened new) later =
    (k : ℕ) × MayKeep session.machine k × (later ≡ record { machine = reopened session.machine k; is_closed = false; is_version_2 = new })

-- ---- one moment

-- The disk image and the words of a pair are kept for the machine.
abbrev pub KeptFor : Machine → Pair → Type 0
KeptFor machine pair = Kept pair.disk pair.words machine

-- A recovery is complete: since the open no command was accepted, nothing is live any more and no slave is busy.
pub record IsRecovered (world : World) (book : Book) : Type 0 where
  pub up : world.book ≡ Some book
  pub none : book.accepted ≡ []
  pub settled : live book.halves ≡ []
  pub idle : AllByRecursion IsIdle world.state.halves

-- The slaves hold the contents that the session began with, and the plan is of these contents.
pub record HoldsBase (world : World) (book : Book) (machine : Machine) : Type 0 where
  pub words : words_in world.state.halves ≡ base_of machine
  pub plan : planned book ≡ base_of machine

-- What holds of the world at each moment.
pub record IsKept (world : World) (machine : Machine) : Type 0 where
  -- what a power cut may leave of disk and slaves is recoverable
  pub kept : LeavesOnly (KeptFor machine) world.state
  -- if a recovery is complete, the slaves hold the contents that the session began with
  pub recovered : (book : Book) → IsRecovered world book → HoldsBase world book machine
  -- if the station is down, or closed by a fault with nothing handed out, and no slave is busy, it can be opened
  pub opens : CanOpen world.book → AllByRecursion IsIdle world.state.halves → (reported : Reported) × (later : World) × Opens world reported later
  -- while the station is up, the machine is that of its book: same contents to begin with, same accepted commands, and the durable ones
  -- acknowledged
  pub known : (book : Book) → world.book ≡ Some book → IsOfBook book machine
  -- since the open each slave was issued at most three words for each word that the entries found then and the accepted commands
  -- name for it
  pub worn : (book : Book) → world.book ≡ Some book → (slave : ℕ) → slave < length book.slaves
      → (slave_at book slave).issues ≤ 3 * named_for (book.found ++ own book) slave

-- ---- all moments

-- These steps happen one after another.
abbrev pub Runs : World → List Step → Type 0
Runs world [] = Unit {0}
Runs world (step ∷ steps) = Steps step.event world step.reported step.world × Runs step.world steps

-- The law of a run: the session follows what callers are told, and IsKept holds at each moment.
abbrev pub StaysKept : World → Session → List Step → Type 0
StaysKept world session [] = IsKept world session.machine
StaysKept world session (step ∷ steps) =
    IsKept world session.machine × ((later : Session) × Follows session step.reported later × StaysKept step.world later steps)

-- ---- the premises

-- The commands of callers consist of 16-bit words, as those of a running program do.
abbrev pub EventFits : Event → Type 0
EventFits (Submit command) = CommandFits command
EventFits event = Unit {0}

-- All words of a machine have 16 bits.
pub record MachineFits (machine : Machine) : Type 0 where
  pub origin : PlantFits machine.origin
  pub kept : All CommandFits machine.kept
  pub accepted : All CommandFits machine.accepted

-- The law starts here: the station is down, its disk is synced, no slave is busy, and disk and words are recoverable.
pub record Starts (world : World) (machine : Machine) : Type 0 where
  pub down : world.book ≡ None
  pub synced : IsAllSynced world.state.disk
  pub idle : AllByRecursion IsIdle world.state.halves
  pub kept : Kept world.state.disk.bytes (words_in world.state.halves) machine
  pub took : length world.took ≡ length world.state.halves
  pub fits : MachineFits machine

-- A formatted journal: a header of version 2 for `slaves` slaves and a complete area, in which both halves begin with a closed gate.
pub record IsFormatted (slaves : ℕ) (bytes : List ℕ) : Type 0 where
  pub area : List ℕ
  pub rest : List ℕ
  pub slaves_fit : slaves < 2 ^ 16
  pub capacity : IsCapacity (length area)
  pub is : bytes ≡ header_bytes 2 slaves (length area) ++ (area ++ rest)
  pub first : List ℕ
  pub second : List ℕ
  pub halves : AreHalves area first second
  pub first_gate : IsClosed first
  pub second_gate : IsClosed second

-- The machine of a line with these contents, before any command.
abbrev pub blank : List (List ℕ) → Machine
blank origin = record { origin = origin; kept = []; accepted = []; acknowledged = 0 }
