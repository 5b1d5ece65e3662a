-- What a backup does to the files.
use Rattle.std.specs.Prelude.{◌≡◌, ◌≢◌, ◌⊎◌, ℕ, List, [], ◌∷◌, map, length, Option, None, Some, Result, String, string_bytes, IfErr, OnOk, ⊤}
use Rattle.std.specs.List.{AllByRecursion}
use Rattle.std.specs.declared.alloc.Global.{Global}
use Rattle.jrn_format.specs.Migration.{IsEmptyJournal}
use Rattle.jrn_format.specs.declared.journal.Form.{Form}
use Rattle.station_files.specs.Files.{Known, Holds, IsAbsent}
use Rattle.station_files.specs.LineFiles.{DescribesLine, SpellsLine, SpellsSlaves, SpellsWords}
use Rattle.station_files.specs.declared.faults.Fault.TheVariants.{File, Memory}
use Rattle.station_text.specs.declared.line_file.LineFile.{LineFile}
use Rattle.wire_faults.specs.declared.faults.WireFault.{WireFault}
use Rattle.wire_faults.specs.declared.faults.WireFault.TheVariants.{Station}

-- each file that is known to be there keeps its bytes
abbrev pub KeepsAll : Known → Known → Type 0
KeepsAll old new = (name bytes : List ℕ) → old name ≡ Some (Some bytes) → new name ≡ Some (Some bytes)

-- Nothing is written where this fault comes: it is neither that of a file nor want of memory.
abbrev pub ComesBeforeWrites : WireFault → Type 0
ComesBeforeWrites (Station File) = ⊥
ComesBeforeWrites (Station Memory) = ⊥
ComesBeforeWrites fault = ⊤

-- the line of a backup: that of the line file, or that of the text of a new one
abbrev pub IsPlanned : Known → (name : List ℕ) → LineFile → Option (String Global) → Type 0
IsPlanned files name line None = SpellsLine files name line
IsPlanned files name line (Some text) = IsAbsent files name × DescribesLine (string_bytes text) line

-- no two of these files have the same name
abbrev pub AreDistinct : List (String Global) → Type 0
AreDistinct [] = ⊤
AreDistinct (image ∷ images) = AllByRecursion (λ (other : String Global). string_bytes image ≢ string_bytes other) images × AreDistinct images

-- an image file that a backup lets stand: it isn't there, or has these words
abbrev pub MayStay : Known → (name words : List ℕ) → Type 0
MayStay files name words = IsAbsent files name ⊎ SpellsWords files name words

-- the bytes are a journal of slaves with so many words each, in which nothing is live
abbrev pub IsWithoutPast : (bytes sizes : List ℕ) → Type 0
IsWithoutPast bytes sizes = (form : Form) × IsEmptyJournal bytes sizes form

-- the journal's file isn't there, or holds such a journal
abbrev pub HasNoPast : Known → (name sizes : List ℕ) → Type 0
HasNoPast files name sizes = IsAbsent files name ⊎ Holds files name (λ bytes. IsWithoutPast bytes sizes)

-- The line file describes a line. Its image files have these words, and the journal's file isn't there, or holds an empty journal of as many
-- slaves with as many words each.
pub record IsBackedUp (files : Known) (name : List ℕ) : Type 0 where
  pub line : LineFile
  pub plant : List (List ℕ)
  pub described : SpellsLine files name line
  pub slaves : SpellsSlaves files line plant
  pub journal : HasNoPast files (string_bytes line.journal) (map length plant)

-- what a backup does: no file that is there changes, and only a fault of a file or want of memory may come once something is written
pub record Backs (result : Result (Unit {0}) WireFault) (old new : Known) (name : List ℕ) : Type 0 where
  pub kept : KeepsAll old new
  pub unwritten : IfErr result (λ fault. ComesBeforeWrites fault → new ≡ old)
  pub done : OnOk result (IsBackedUp new name)
