-- A recovery: a station is opened, what is live in its journal is redone and retired, and an old journal is migrated.
use Rattle.std.specs.Prelude.{◌≡◌, ◌⊎◌, ℕ, ◌+◌, ◌*◌, ◌≤◌, Bool, true, false, List, [], length, is_some, Err, IsTrue}
use Rattle.std.specs.List.{AllByRecursion}
use Rattle.jrn_format.specs.declared.journal.Journal.{Journal}
use Rattle.jrn_format.specs.Journal.{IsJournal}
use Rattle.jrn_format.specs.Halves.{live}
use Rattle.esc_rom.specs.declared.fault.RomFault.TheVariants as rom
use Rattle.site_core.specs.declared.fault.DeviceFault.TheVariants as device
use Rattle.site_core.specs.Line.{Line}
use Rattle.site_core.specs.State.{Pair, Seen, Leaves, clock}
use Rattle.site_journal.specs.declared.fault.ReadFault.TheVariants as read
use Rattle.esc_rom.specs.Reading.{most_calls}
use Rattle.book_model.specs.declared.fault.Fault.TheVariants as faults
use Rattle.book_model.specs.declared.next.RomNext.TheVariants.{Settle}
use Rattle.book_model.specs.Entries.{entries_of}
use Rattle.book_model.specs.Book.{base_of, is_version_2}
use Rattle.book_model.specs.DiskSteps.{disk_next}
use Rattle.book_model.specs.RomSteps.{rom_next}
use Rattle.book_core.specs.Handing.{TakesMemory}
use Rattle.book_model.specs.Reading.{planned}
use Rattle.book_model.specs.Opening.{words_in}
use Rattle.site_journal.specs.Running.{CallsDisk}
use Rattle.site_journal.specs.Left.{migration_calls, words_named, words_issued}
use Rattle.station_alone.specs.declared.fault.OpenFault.{OpenFault}
use Rattle.station_alone.specs.declared.fault.OpenFault.TheVariants as why
use Rattle.station_alone.specs.declared.choice.Choice.{Choice}
use Rattle.station_alone.specs.declared.choice.Choice.TheVariants.{Submit}
use Rattle.station_alone.specs.declared.choice.Answer.{Answer}
use Rattle.station_alone.specs.declared.choice.Answer.TheVariants.{Failed}
use Rattle.station_alone.specs.Station.{Station}
use Rattle.station_alone.specs.Steps.{DoesSettle, Steps, StepsInOrder}
use Rattle.station_alone.specs.Opening.{Opens, FailsToOpen, BeginsSession}
use Rattle.station_alone.specs.declared.recovery.Recovered.{Recovered}

-- ---- how many device calls it takes

-- The most device calls of a recovery, for slaves of these sizes and a journal that names `words` words: eight for the disk, those to
-- read the slaves, and for each named word three issues, each with a settle of 10,001 calls.
abbrev pub recovery_calls : List ℕ → (words : ℕ) → ℕ
recovery_calls sizes words = 8 + most_calls sizes + 3 * words * 10002

-- At most that many device calls were made, whatever the line does. A migration takes five more, or four if it was cut before.
pub record MakesFewCalls (sizes : List ℕ) (old new : Seen) : Type 0 where
  pub found : (journal : Journal) → IsJournal old.state.disk.bytes sizes journal
      → clock new ≤ clock old + recovery_calls sizes (words_named journal.batches) + migration_calls journal.form
  pub none : ((journal : Journal) → IsJournal old.state.disk.bytes sizes journal → ⊥) → clock new ≤ clock old + recovery_calls sizes 0

-- ---- the recovery is complete

-- The counts of live batches, of their commands, and of issues.
pub record CountsRecovered (sizes : List ℕ) (old : Seen) (recovered : Recovered) (new : Station) : Type 0 where
  pub journal : Journal
  pub found : IsJournal old.state.disk.bytes sizes journal
  pub batches : recovered.batches ≡ length journal.batches
  pub commands : recovered.commands ≡ length (entries_of journal.batches)
  pub words : recovered.words ≡ words_issued new.book.slaves

-- Nothing is live in a journal of version 2, and the book accepts commands. The slaves hold the contents that it was opened with, a
-- stop leaves no others, and the plan is made of these.
pub record HasRecovered (s : Station) : Type 0 where
  pub nothing : live s.book.halves ≡ []
  pub form : is_version_2 s.book.form ≡ true
  pub none : s.book.accepted ≡ []
  pub sound : is_some s.book.fault ≡ false
  pub going : s.book.is_finished ≡ false
  pub words : words_in s.seen.state.halves ≡ base_of s.book
  pub only : (pair : Pair) → Leaves s.seen.state pair → pair.words ≡ base_of s.book
  pub plan : planned s.book ≡ base_of s.book

-- ---- what it did

-- A step that a recovery may make: any but a command.
abbrev pub IsOfRecovery : Choice → Type 0
IsOfRecovery (Submit command) = ⊥
IsOfRecovery choice = Unit {0}

-- Such steps in a row lead from one station to another.
pub record LeadsTo (old new : Station) : Type 0 where
  pub choices : List Choice
  pub answers : List Answer
  pub of_recovery : AllByRecursion IsOfRecovery choices
  pub steps : StepsInOrder choices old answers new

-- A station was opened on the line, and such steps led from there to this one: no other device call was made.
pub record RecoversBySteps (line : Line) (old : Seen) (new : Station) : Type 0 where
  pub opened : Station
  pub opens : Opens line old opened
  pub leads : LeadsTo opened new

-- ---- the recovery fails

-- Behind steps from the open on, the device call failed that carries out the book's next action for the disk.
pub record DiskFails (opened last : Station) : Type 0 where
  pub mid : Station
  pub leads : LeadsTo opened mid
  pub fails : CallsDisk (disk_next mid.book).0 mid.seen (Err device.Disk) last.seen

-- Behind steps from the open on, the book asked to settle a word of this slave, and the settle gave the slave up.
pub record SlaveDies (slave : ℕ) (opened last : Station) : Type 0 where
  pub mid : Station
  pub leads : LeadsTo opened mid
  pub taken : Bool
  pub asked : (rom_next mid.book slave).0 ≡ Settle taken
  pub settles : DoesSettle slave taken mid (Failed (faults.SlaveDead slave)) last

-- Behind steps from the open on, a step of a recovery was answered that the site has stopped.
pub record StopsIn (opened last : Station) : Type 0 where
  pub mid : Station
  pub leads : LeadsTo opened mid
  pub choice : Choice
  pub of_recovery : IsOfRecovery choice
  pub steps : Steps choice mid (Failed faults.Stopped) last
  pub stopped : IsTrue last.seen.is_stopped

-- Behind steps from the open on, memory was refused for the write that the book hands out next, and nothing more was done.
pub record RunsOut (opened last : Station) : Type 0 where
  pub leads : LeadsTo opened last
  pub takes : TakesMemory (disk_next last.book).0

-- Why a recovery ended early after the open, and what its last step left: the disk failed, the site has stopped, a settle gave its
-- slave up, or memory was refused for a write of a migration.
abbrev pub Breaks : OpenFault → (opened last : Station) → Type 0
Breaks (why.Journal (read.Device device.Disk)) opened last = DiskFails opened last
Breaks (why.Journal (read.Device device.Stopped)) opened last = StopsIn opened last
Breaks (why.Slave (rom.SlaveDead slave)) opened last = SlaveDies slave opened last
Breaks why.Memory opened last = RunsOut opened last
Breaks other opened last = ⊥

-- The station was opened, and this fault then ended the recovery.
pub record IsCutShort (line : Line) (old : Seen) (fault : OpenFault) (new : Seen) : Type 0 where
  pub opened : Station
  pub opens : Opens line old opened
  pub last : Station
  pub is : last.seen ≡ new
  pub breaks : Breaks fault opened last

-- The open failed, or the recovery ended early after it.
abbrev pub FailsToRecover : Line → Seen → OpenFault → (later : Line) → Seen → Type 0
FailsToRecover line old fault later new = FailsToOpen line old fault later new ⊎ IsCutShort line old fault new

-- ---- a session begins

-- A complete recovery has begun a session, as an open does.
abbrev pub BeginsRecovered : Seen → Station → Type 0
BeginsRecovered old new = BeginsSession old new
