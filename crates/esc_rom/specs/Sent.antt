-- The frames that each call of word access sends: which, in what order, and when it ends. Each has one datagram, with index 0.
use Rattle.std.specs.Prelude.{◌≡◌, ◌⊎◌, ℕ, ◌+◌, ◌*◌, ◌/◌, ◌<◌, Bool, true, false, List, [], ◌++◌, length, is_some, slice_index, Result, Ok, Err}
use Rattle.rom_steps.specs.declared.step.Stop.{Stop}
use Rattle.rom_steps.specs.Courses.{Asked, Course, Ends, Then, OnlyIf, InTurn}
use Rattle.rom_steps.specs.Accesses.{WaitsBy, OpensBy, ReadsPairBy}
use Rattle.esc_rom.specs.declared.fault.RomFault.{RomFault}
use Rattle.esc_rom.specs.declared.fault.RomFault.TheVariants as rom

-- ALL WORDS

-- the words of this pair, and whether they were read
abbrev pub ReadsNext : (slave pair : ℕ) → Course Bool
ReadsNext slave pair = Then (ReadsPairBy slave (2 * pair)) (λ words. Ends (is_some words))

-- The slave is waited for, and its words are read two by two, up to the first two that can't be read.
abbrev pub FillsBy : (slave size : ℕ) → Course Bool
FillsBy slave size = Then (WaitsBy slave) (λ found. OnlyIf (is_some found) (InTurn (size / 2) (ReadsNext slave) true))

-- ONE SLAVE

-- `open_slave`
abbrev pub OpensSlaveBy : (slave : ℕ) → List Asked → Result (Unit {0}) RomFault → Type 0
OpensSlaveBy slave log (Ok done) = OpensBy slave log (Ok true)
OpensSlaveBy slave log (Err (rom.SlaveDead dead)) = OpensBy slave log (Ok false)
OpensSlaveBy slave log (Err rom.Stopped) = (stop : Stop) × OpensBy slave log (Err stop)
OpensSlaveBy slave log (Err rom.Memory) = ⊥

-- `read_all`
abbrev pub ReadsAllBy : {T : Type 0} → (slave size : ℕ) → List Asked → Result T RomFault → Type 0
ReadsAllBy slave size log (Ok words) = FillsBy slave size log (Ok true)
ReadsAllBy slave size log (Err (rom.SlaveDead dead)) = FillsBy slave size log (Ok false)
ReadsAllBy slave size log (Err rom.Stopped) = (stop : Stop) × FillsBy slave size log (Err stop)
ReadsAllBy slave size log (Err rom.Memory) = log ≡ []

-- The slave was opened, and then read.
pub record OpensAndReads {T : Type 0} (slave size : ℕ) (log : List Asked) (result : Result T RomFault) : Type 0 where
  pub front : List Asked
  pub after : List Asked
  pub log_is : log ≡ front ++ after
  pub opens : OpensSlaveBy slave front (Ok tt)
  pub reads : ReadsAllBy slave size after result

-- It was, or its opening ended with this fault.
abbrev pub ReadsSlaveBy : {T : Type 0} → (slave size : ℕ) → List Asked → Result T RomFault → Type 0
ReadsSlaveBy slave size log (Ok words) = OpensAndReads slave size log (Ok words)
ReadsSlaveBy slave size log (Err fault) = OpensSlaveBy slave log (Err fault) ⊎ OpensAndReads {T = Unit {0}} slave size log (Err fault)

-- A LINE

-- The first slaves were each opened and read.
pub data FirstReadBy (sizes : List ℕ) : (count : ℕ) → List Asked → Type 0 where
  no_slave : FirstReadBy sizes 0 []
  one_more_slave : {count : ℕ} {front after : List Asked} → FirstReadBy sizes count front
      → OpensAndReads {T = Unit {0}} count (slice_index sizes count) after (Ok tt) → FirstReadBy sizes (count + 1) (front ++ after)

-- The first slaves were opened and read, and then this slave's call ended with this fault.
pub record EndsAtSlave (sizes : List ℕ) (log : List Asked) (fault : RomFault) : Type 0 where
  pub count : ℕ
  pub inside : count < length sizes
  pub front : List Asked
  pub after : List Asked
  pub log_is : log ≡ front ++ after
  pub first : FirstReadBy sizes count front
  pub last : ReadsSlaveBy {T = Unit {0}} count (slice_index sizes count) after (Err fault)

-- Some of the slaves were opened and read, and then memory was refused.
pub record EndsForMemory (sizes : List ℕ) (log : List Asked) (fault : RomFault) : Type 0 where
  pub count : ℕ
  pub inside : count < length sizes
  pub read : FirstReadBy sizes (count + 1) log
  pub memory : fault ≡ rom.Memory

-- `read_slaves`
abbrev pub ReadsLineBy : {T : Type 0} → List ℕ → List Asked → Result T RomFault → Type 0
ReadsLineBy sizes log (Ok plant) = FirstReadBy sizes (length sizes) log
ReadsLineBy sizes log (Err fault) = EndsAtSlave sizes log fault ⊎ EndsForMemory sizes log fault
