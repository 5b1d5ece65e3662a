-- Laws about a word that is issued and settled, and about word access in steps.
use Rattle.std.specs.Prelude.{◌≡◌, ℕ, ◌^◌, ◌<◌, ◌⊎◌, Bool, List, true, Some, Ok, Err, slice_get}
use Rattle.site_core.specs.declared.answers.Issued.{Issued}
use Rattle.site_core.specs.declared.answers.Issued.TheVariants as issued
use Rattle.site_core.specs.declared.answers.Settled.{Settled}
use Rattle.site_core.specs.declared.answers.Settled.TheVariants as settled
use Rattle.site_core.specs.State.{Pair, Seen, Leaves}
use Rattle.rom_steps.specs.declared.step.End.{End}
use Rattle.rom_steps.specs.declared.step.End.TheVariants as ends
use Rattle.rom_steps.specs.Remaining.{IssueCourse, OpenCourse, ReadCourse, SettleCourse}
use Rattle.esc_rom.specs.declared.fault.RomFault.TheVariants as rom
use Rattle.esc_rom.specs.Access.{IssuesWord, SettlesSlave, OpensSlave}
use Rattle.esc_rom.specs.Runs.{Ran}
use Rattle.esc_rom.specs.WordPairs.{ReadsPair}
use Rattle.esc_rom.specs.Courses.{Takes}
use Rattle.esc_rom.specs.Driving.{words_at}

-- If a slave took a word and it was then reported as written, every power cut leaves the new value in it.
abbrev pub WrittenStays : Type 0
WrittenStays = (a b c : Seen) (slave word value : ℕ) (pair : Pair)
    → IssuesWord a slave word value (Ok issued.Taken) b
    → SettlesSlave b slave true (Ok settled.Written) c → Leaves c.state pair
    → (words : List ℕ) × (slice_get pair.words slave ≡ Some words) × (slice_get words word ≡ Some value)

-- WORD ACCESS IN STEPS

-- Somebody sent a slave the datagrams of a course of `rom_steps`, each alone in a frame, and it came to this end; no other device call was
-- made. Then the end says what the call of this crate would have answered, and the slave is as behind that call.
abbrev pub IssuedInSteps : Type 0
IssuedInSteps = (a b : Seen) (slave word value : ℕ) (end : End) → slave < 64 → word < 2 ^ 16 → value < 2 ^ 16
    → Takes (IssueCourse slave word value) a (Ok end) b
    → (issued : Issued) × (end ≡ ends.Issued issued) × IssuesWord a slave word value (Ok issued) b

abbrev pub SettledInSteps : Type 0
SettledInSteps = (a b : Seen) (slave : ℕ) (taken : Bool) (end : End) → slave < 64
    → Takes (SettleCourse slave taken) a (Ok end) b
    → (settled : Settled) × (end ≡ ends.Settled settled) × SettlesSlave a slave taken (Ok settled) b

abbrev pub OpenedInSteps : Type 0
OpenedInSteps = (a b : Seen) (slave : ℕ) (end : End) → slave < 64 → Takes (OpenCourse slave) a (Ok end) b
    → ((end ≡ ends.Opened) × OpensSlave a slave (Ok tt) b) ⊎ ((end ≡ ends.Dead) × OpensSlave a slave (Err (rom.SlaveDead slave)) b)

abbrev pub ReadInSteps : Type 0
ReadInSteps = (a b : Seen) (slave word : ℕ) (end : End) → slave < 64 → word < 2 ^ 16
    → Takes (ReadCourse slave word) a (Ok end) b → Ran (ReadsPair a slave word b (words_at end)) a slave 30006 b
