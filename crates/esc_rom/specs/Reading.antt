-- All slaves of a line are opened and read, one after another.
use Rattle.std.specs.Prelude.{◌≡◌, ◌⊎◌, ◌↔◌, ℕ, ◌+◌, ◌*◌, ◌/◌, ◌<◌, List, length, map, take, slice_index, Result, Ok, Err, IfOk, IfErr, IsErrOf, IsTrue}
use Rattle.std.specs.List.{AllByRecursion, sum_by}
use Rattle.esc_model.specs.SlaveHalf.{SlaveHalf}
use Rattle.esc_model.specs.WordAccess.{IsIdle}
use Rattle.site_core.specs.State.{State, Pair, Seen, HalfGoes, Leaves, word_counts}
use Rattle.site_core.specs.Times.{Follows}
use Rattle.esc_rom.specs.declared.fault.RomFault.{RomFault}
use Rattle.esc_rom.specs.declared.fault.RomFault.TheVariants as rom
use Rattle.esc_rom.specs.Access.{OpensSlave, ReadsWords, BecomesRead}
use Rattle.esc_rom.specs.Runs.{Quiet}

-- ---- how many device calls that takes

-- The most device calls for a slave of `size` words: nine datagrams and two waits of 10,000 polls, and for each two words three tries,
-- each of two datagrams and a wait.
abbrev pub calls_for : ℕ → ℕ
calls_for size = 9 + 2 * 10000 + 3 * 10002 * (size / 2)

-- The most device calls for all slaves.
abbrev pub most_calls : List ℕ → ℕ
most_calls sizes = sum_by calls_for sizes

-- ---- one slave

-- The slave was given up at its opening, or afterwards at its reading.
abbrev pub GivesUp : (slave size : ℕ) → Seen → Seen → Type 0
GivesUp slave size old new =
    OpensSlave old slave (Err (rom.SlaveDead slave)) new
    ⊎ ((opened : Seen) × OpensSlave old slave (Ok tt) opened × ReadsWords opened slave size (Err (rom.SlaveDead slave)) new)

-- What each fault means for one slave.
abbrev pub EndsSlave : (slave size : ℕ) → Seen → RomFault → Seen → Type 0
EndsSlave slave size old (rom.SlaveDead dead) new = (dead ≡ slave) × GivesUp slave size old new
EndsSlave slave size old rom.Memory new = Unit {0}
EndsSlave slave size old rom.Stopped new = Unit {0}

-- On the way the slave was opened, and then all its words were read.
pub record WasRead (slave size : ℕ) (old new : Seen) : Type 0 where
  pub before : Seen
  pub follows : Follows old before
  pub opened : Seen
  pub opens : OpensSlave before slave (Ok tt) opened
  pub words : List ℕ
  pub read : Seen
  pub reads : ReadsWords opened slave size (Ok words) read
  pub after : Follows read new

-- If it succeeds, the slave was opened and read, it is idle, and these are its words.
pub record ReadsSlave (slave size : ℕ) (old : Seen) (result : Result (List ℕ) RomFault) (new : Seen) : Type 0 where
  pub quiet : Quiet old (calls_for size) new
  pub was_read : IfOk result (λ words. WasRead slave size old new)
  pub read : IfOk result (λ words. HalfGoes (BecomesRead words) old.state slave new.state)
  pub faults : IfErr result (λ fault. EndsSlave slave size old fault new)
  pub stopped : IsTrue new.is_stopped ↔ IsErrOf result rom.Stopped

-- The slave's opening ended with this fault, or it was opened and its reading ended so.
abbrev pub BreaksOff : (slave size : ℕ) → RomFault → Seen → Seen → Type 0
BreaksOff slave size fault old new =
    OpensSlave old slave (Err fault) new
    ⊎ ((opened : Seen) × OpensSlave old slave (Ok tt) opened × ReadsWords opened slave size (Err fault) new)

-- The slave was opened and then read, or that broke off.
abbrev pub ReadsInParts : (slave size : ℕ) → Seen → Result (List ℕ) RomFault → Seen → Type 0
ReadsInParts slave size old (Ok words) new =
    (opened : Seen) × OpensSlave old slave (Ok tt) opened × ReadsWords opened slave size (Ok words) new
ReadsInParts slave size old (Err fault) new = BreaksOff slave size fault old new

-- ---- all of them

-- No slave is busy, these are their words, and a stop leaves no others.
pub record AreRead (plant : List (List ℕ)) (old new : State) : Type 0 where
  pub words : plant ≡ map (λ (half : SlaveHalf). half.words) new.halves
  pub idle : AllByRecursion IsIdle new.halves
  pub only : (pair : Pair) → Leaves new pair → pair.words ≡ plant
  pub counts : map (λ (words : List ℕ). length words) plant ≡ word_counts old.halves
  pub disk : new.disk ≡ old.disk

-- The first `count` slaves were each opened and read.
abbrev pub WereRead : List ℕ → (count : ℕ) → Seen → Seen → Type 0
WereRead sizes count old new = (slave : ℕ) → slave < count → WasRead slave (slice_index sizes slave) old new

-- The slave at this place of the line was given up. It is the first: those before it had been opened and read.
pub record Dies (sizes : List ℕ) (slave : ℕ) (old new : Seen) : Type 0 where
  pub inside : slave < length sizes
  pub reached : Seen
  pub before : Quiet old (most_calls (take slave sizes)) reached
  pub first : WereRead sizes slave old reached
  pub gives_up : GivesUp slave (slice_index sizes slave) reached new

-- What is known after any fault: the slaves before this one were opened and read, and this one's reading broke off with the fault. Or it
-- was read too, and then memory was refused.
pub record KeepsFirst (sizes : List ℕ) (old : Seen) (fault : RomFault) (new : Seen) : Type 0 where
  pub slave : ℕ
  pub inside : slave < length sizes
  pub reached : Seen
  pub before : Quiet old (most_calls (take slave sizes)) reached
  pub first : WereRead sizes slave old reached
  pub last : BreaksOff slave (slice_index sizes slave) fault reached new
      ⊎ ((words : List ℕ) × (fault ≡ rom.Memory) × ReadsInParts slave (slice_index sizes slave) reached (Ok words) new)

-- What each fault means for a line.
abbrev pub EndsLine : List ℕ → Seen → RomFault → Seen → Type 0
EndsLine sizes old (rom.SlaveDead slave) new = Dies sizes slave old new
EndsLine sizes old rom.Memory new = Unit {0}
EndsLine sizes old rom.Stopped new = Unit {0}

-- All slaves were opened and read. Even with a fault, no more device calls were made than `most_calls` says, and at no moment could a
-- stop leave anything that it couldn't leave before.
pub record ReadsLine {T : Type 0} (plant_of : T → List (List ℕ)) (sizes : List ℕ) (old : Seen) (result : Result T RomFault)
    (new : Seen) : Type 0 where
  pub quiet : Quiet old (most_calls sizes) new
  pub were_read : IfOk result (λ value. WereRead sizes (length sizes) old new)
  pub read : IfOk result (λ value. AreRead (plant_of value) old.state new.state)
  pub faults : IfErr result (λ fault. EndsLine sizes old fault new)
  pub stopped : IsTrue new.is_stopped ↔ IsErrOf result rom.Stopped
