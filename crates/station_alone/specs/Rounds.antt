-- The rounds of a recovery: each is an action for the disk and then one for each slave.
use Rattle.std.specs.Prelude.{◌≡◌, ◌⊎◌, ℕ, ◌+◌, ◌*◌, ◌^◌, ◌<◌, ◌≤◌, Bool, true, false, [], length, is_some, Result, Ok, Err, IfOk, IsTrue}
use Rattle.std.specs.List.{sum_by}
use Rattle.sii_words.specs.declared.run.Run.{Run}
use Rattle.jrn_format.specs.Halves.{live}
use Rattle.esc_rom.specs.declared.fault.RomFault.TheVariants as rom
use Rattle.site_core.specs.declared.fault.DeviceFault.TheVariants as device
use Rattle.site_core.specs.Line.{Line}
use Rattle.site_core.specs.State.{Seen, clock}
use Rattle.site_journal.specs.declared.fault.ReadFault.TheVariants as read
use Rattle.book_model.specs.declared.fault.Fault.TheVariants as faults
use Rattle.book_model.specs.declared.next.DiskNext.TheVariants as disk
use Rattle.book_model.specs.declared.next.RomNext.{RomNext}
use Rattle.book_model.specs.declared.next.RomNext.TheVariants as word
use Rattle.book_model.specs.Entries.{runs_of}
use Rattle.book_model.specs.Book.{Book, is_version_2}
use Rattle.book_model.specs.DiskSteps.{disk_next}
use Rattle.book_model.specs.RomSteps.{rom_next}
use Rattle.site_journal.specs.Left.{calls_left, words_issued}
use Rattle.site_journal.specs.Recovering.{IsRecovering}
use Rattle.station_alone.specs.declared.fault.OpenFault.{OpenFault}
use Rattle.station_alone.specs.declared.fault.OpenFault.TheVariants as why
use Rattle.station_alone.specs.declared.choice.Answer.{Answer}
use Rattle.station_alone.specs.declared.choice.Answer.TheVariants as answers
use Rattle.station_alone.specs.declared.opening.Found.{Found}
use Rattle.station_alone.specs.Station.{Station, Stands}
use Rattle.station_alone.specs.Keeping.{GoesOn, Keeps}
use Rattle.station_alone.specs.declared.recovery.Recovered.{Recovered}
use Rattle.station_alone.specs.Recovery.{Breaks, LeadsTo}

-- ---- what a step means to a recovery

-- A recovery goes on after a step, unless the step failed.
abbrev pub reported : Answer → Result (Unit {0}) OpenFault
reported (answers.Failed faults.Disk) = Err (why.Journal (read.Device device.Disk))
reported (answers.Failed faults.Stopped) = Err (why.Journal (read.Device device.Stopped))
reported (answers.Failed (faults.SlaveDead slave)) = Err (why.Slave (rom.SlaveDead slave))
reported answers.NoMemory = Err why.Memory
reported other = Ok tt

-- The answer says that an action was carried out, or that the migration was asked for.
abbrev pub is_did : Answer → Bool
is_did answers.Did = true
is_did other = false

-- The number of issues in what was handed out.
abbrev pub words_of : RomNext → ℕ
words_of (word.Issue w value) = 1
words_of (word.Settle taken) = 0
words_of word.Idle = 0
words_of word.Stop = 0

-- The number of issues of a step, or its fault.
abbrev pub counted : RomNext → Result (Unit {0}) OpenFault → Result ℕ OpenFault
counted next (Ok done) = Ok (words_of next)
counted next (Err fault) = Err fault

-- ---- steps in a row

-- The station's invariant holds, its book is recovering, and there is no fault.
pub record IsWorking (s : Station) : Type 0 where
  pub stands : Stands s
  pub recovering : IsRecovering s.book
  pub sound : is_some s.book.fault ≡ false

-- The same session goes on with nothing accepted and within the device calls that were left, and what a stop may leave stays kept.
pub record StaysKept (old new : Station) : Type 0 where
  pub session : GoesOn [] (calls_left old.book) old new
  pub keeps : Keeps [] old new

-- Steps with this number of issues: the station still works, and each device call made was one of those that were left.
pub record Works (words : ℕ) (old new : Station) : Type 0 where
  pub working : IsWorking new
  pub kept : StaysKept old new
  pub leads : LeadsTo old new
  pub left : clock new.seen + calls_left new.book ≤ clock old.seen + calls_left old.book
  pub issued : words_issued new.book.slaves ≡ words_issued old.book.slaves + words

-- Steps that ended with a fault: what a stop may leave stays kept.
pub record EndsEarly (fault : OpenFault) (old new : Station) : Type 0 where
  pub kept : StaysKept old new
  pub breaks : Breaks fault old new

-- Steps in a row succeed, with the issues counted, or end with a fault.
abbrev pub Goes : {T : Type 0} → (T → ℕ) → Result T OpenFault → Station → Station → Type 0
Goes count (Ok value) old new = Works (count value) old new
Goes count (Err fault) old new = EndsEarly fault old new

-- ---- a step

-- An action was carried out, and fewer device calls are left; or there was none, and nothing has changed.
abbrev pub MovesOrRests : (Book → Type 0) → Station → Station → Type 0
MovesOrRests Rests old new = (calls_left new.book < calls_left old.book) ⊎ ((new ≡ old) × Rests old.book)

-- The book has no action for the disk now.
abbrev pub DiskRests : Book → Type 0
DiskRests book = (disk_next book).0 ≡ disk.Idle

-- The book has no action for this slave now.
abbrev pub SlaveRests : ℕ → Book → Type 0
SlaveRests slave book = (rom_next book slave).0 ≡ word.Idle

-- The next action for the disk was carried out.
pub record ServesDisk (result : Result (Unit {0}) OpenFault) (old new : Station) : Type 0 where
  pub goes : Goes (λ done. 0) result old new
  pub moves : IfOk result (λ done. MovesOrRests DiskRests old new)

-- The next action for this slave was carried out.
pub record ServesSlave (slave : ℕ) (result : Result ℕ OpenFault) (old new : Station) : Type 0 where
  pub goes : Goes (λ words. words) result old new
  pub few : IfOk result (λ words. words ≤ 1)
  pub moves : IfOk result (λ words. MovesOrRests (SlaveRests slave) old new)

-- ---- a round

-- A batch is live, or a migration was asked for.
abbrev pub IsUnfinished : Book → Type 0
IsUnfinished book = (live book.halves ≡ [] → ⊥) ⊎ (book.is_migrating ≡ true)

-- Nothing is live, and the journal is of version 2.
abbrev pub IsFinished : Book → Type 0
IsFinished book = (live book.halves ≡ []) × (is_version_2 book.form ≡ true)

-- The book has no action for the disk, nor for the first `count` slaves.
abbrev pub RestUpTo : ℕ → Book → Type 0
RestUpTo count book = DiskRests book × ((i : ℕ) → i < count → SlaveRests i book)

-- A round was made, and fewer device calls are left.
pub record Rounds (result : Result ℕ OpenFault) (old new : Station) : Type 0 where
  pub goes : Goes (λ words. words) result old new
  pub nearer : IfOk result (λ words. calls_left new.book < calls_left old.book)

-- Whether another round follows.
pub record AnotherRound (more : Bool) (old new : Station) : Type 0 where
  pub works : Works 0 old new
  pub left : calls_left new.book ≤ calls_left old.book
  pub yes : IsTrue more → IsUnfinished new.book
  pub no : ¬ IsTrue more → IsFinished new.book

-- ---- all rounds

-- So few words were named that the number of issues fits 64 bits.
abbrev pub IsSmall : Book → Type 0
IsSmall book = 3 * sum_by (λ (run : Run). length run.words) (runs_of book.found) < 2 ^ 64

-- All rounds were made.
pub record Redoes (result : Result ℕ OpenFault) (old new : Station) : Type 0 where
  pub goes : Goes (λ words. words) result old new
  pub finished : IfOk result (λ words. IsFinished new.book)

-- All rounds were made, and the counts are those of what was found and done.
pub record IsDone (found : Found) (old : Station) (recovered : Recovered) (new : Station) : Type 0 where
  pub works : Works recovered.words old new
  pub finished : IsFinished new.book
  pub batches : recovered.batches ≡ found.batches
  pub commands : recovered.commands ≡ found.commands

-- The rounds ended with a fault, and this is the site that is handed back.
pub record IsLeft (fault : OpenFault) (old : Station) (line : Line) (seen : Seen) : Type 0 where
  pub last : Station
  pub cut : EndsEarly fault old last
  pub its : line ≡ last.line
  pub is : seen ≡ last.seen
