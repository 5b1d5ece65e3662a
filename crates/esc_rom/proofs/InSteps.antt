-- Word access in steps, and the calls of this crate.
use Rattle.std.proofs.Common.{◌≡◌, ◌⊎◌, ℕ, ◌^◌, ◌<◌, Bool, true, false, Ok, Err, inl, inr}
use Rattle.site_core.specs.declared.answers.Issued.{Issued}
use Rattle.site_core.specs.declared.answers.Settled.{Settled}
use Rattle.site_core.specs.State.{Seen}
use Rattle.rom_steps.specs.Accesses.{IssuesBy, SettlesBy, OpensBy, ReadsPairBy}
use Rattle.rom_steps.specs.declared.step.End.{End}
use Rattle.rom_steps.specs.declared.step.End.TheVariants as ends
use Rattle.rom_steps.specs.Remaining.{opening_end, reading_end, IssueCourse, OpenCourse, ReadCourse, SettleCourse}
use Rattle.esc_rom.specs.declared.fault.RomFault.TheVariants as rom
use Rattle.esc_rom.specs.Access.{IssuesWord, SettlesSlave, OpensSlave}
use Rattle.esc_rom.specs.Runs.{Ran}
use Rattle.esc_rom.specs.WordPairs.{ReadsPair}
use Rattle.esc_rom.specs.Courses.{Takes}
use Rattle.esc_rom.specs.Driving.{words_at}
use Rattle.esc_rom.proofs.SettledWords.{settles_ok}
use Rattle.esc_rom.proofs.OpenSlaves.{opens_ok, opens_dead}
use Rattle.esc_rom.proofs.Courses.{ends-by, told}
use Rattle.esc_rom.proofs.Driven.{words-are}
use Rattle.esc_rom.proofs.Going.{issues-ok, settles-runs, opens-runs, reads-runs}

pub issued-in-steps : (a b : Seen) (slave word value : ℕ) (end : End) → slave < 64 → word < 2 ^ 16 → value < 2 ^ 16
    → Takes (IssueCourse slave word value) a (Ok end) b
    → (issued : Issued) × (end ≡ ends.Issued issued) × IssuesWord a slave word value (Ok issued) b
issued-in-steps a b slave word value end near word_fits value_fits sent =
    let by = ends-by ends.Issued (IssuesBy slave word value) sent in
    (by.value, by.is, issues-ok slave word value near word_fits value_fits a b by.takes)

pub settled-in-steps : (a b : Seen) (slave : ℕ) (taken : Bool) (end : End) → slave < 64 → Takes (SettleCourse slave taken) a (Ok end) b
    → (settled : Settled) × (end ≡ ends.Settled settled) × SettlesSlave a slave taken (Ok settled) b
settled-in-steps a b slave taken end near sent =
    let by = ends-by ends.Settled (SettlesBy slave taken) sent in
    (by.value, by.is, settles_ok a slave taken by.value b (settles-runs slave near taken by.takes))

opened-by : (a b : Seen) (slave : ℕ) (end : End) (value : Bool) → slave < 64 → end ≡ opening_end value → Takes (OpensBy slave) a (Ok value) b
    → ((end ≡ ends.Opened) × OpensSlave a slave (Ok tt) b) ⊎ ((end ≡ ends.Dead) × OpensSlave a slave (Err (rom.SlaveDead slave)) b)
opened-by a b slave end true near is takes = inl (is, opens_ok a slave b (opens-runs slave near takes))
opened-by a b slave end false near is takes = inr (is, opens_dead a slave b (opens-runs slave near takes))

pub opened-in-steps : (a b : Seen) (slave : ℕ) (end : End) → slave < 64 → Takes (OpenCourse slave) a (Ok end) b
    → ((end ≡ ends.Opened) × OpensSlave a slave (Ok tt) b) ⊎ ((end ≡ ends.Dead) × OpensSlave a slave (Err (rom.SlaveDead slave)) b)
opened-in-steps a b slave end near sent =
    let by = ends-by opening_end (OpensBy slave) sent in
    opened-by a b slave end by.value near by.is by.takes

pub read-in-steps : (a b : Seen) (slave word : ℕ) (end : End) → slave < 64 → word < 2 ^ 16 → Takes (ReadCourse slave word) a (Ok end) b
    → Ran (ReadsPair a slave word b (words_at end)) a slave 30006 b
read-in-steps a b slave word end near fits sent =
    reads-runs slave word near fits (told words_at words-are (ends-by reading_end (ReadsPairBy slave word) sent))
