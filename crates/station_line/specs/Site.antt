-- A line in memory as it is switched on, and what its files hold once it is saved.
use Rattle.std.specs.Prelude.{◌≡◌, ℕ, ◌+◌, List, [], ◌∷◌, length, map, string_bytes, false, IsTrue}
use Rattle.sii_words.specs.Words.{bytes_of}
use Rattle.esc_model.specs.SlaveHalf.{SlaveHalf, powered_up}
use Rattle.site_core.specs.State.{State, Seen}
use Rattle.site_shadow.specs.Site.{SiteValue}
use Rattle.site_shadow.specs.Unsynced.{of_bytes}
use Rattle.esc_rom.specs.Owned.{OwnsAll}
use Rattle.station_text.specs.declared.line_file.LineFile.{LineFile}
use Rattle.station_files.specs.Files.{Known, HoldsAll}
use Rattle.station_files.specs.LineFiles.{names_of}

-- slaves with these words, just switched on, at this station address and those after it
abbrev pub powered_up_from : ℕ → List (List ℕ) → List SlaveHalf
powered_up_from station [] = []
powered_up_from station (words ∷ slaves) = powered_up words station ∷ powered_up_from (station + 1) slaves

-- the disk has these bytes, all of them synced, and the slaves have these words; no device call was made yet
abbrev pub switched_on : List (List ℕ) → List ℕ → Seen
switched_on slaves bytes =
    record { state = record { disk = of_bytes bytes; halves = powered_up_from 0x1001 slaves }; past = []; faults = 0; is_stopped = false; turns = [] }

-- This is the line in memory, just switched on, of slaves with these words and a disk with these bytes.
pub record IsSiteOf (slaves : List (List ℕ)) (bytes : List ℕ) (site : SiteValue) : Type 0 where
  pub sizes : site.line.sizes ≡ map length slaves
  pub has_disk : IsTrue site.line.has_disk
  pub owned : OwnsAll site.line
  pub seen : site.seen ≡ switched_on slaves bytes

-- the names of the files of a line: the journal's file, and the slaves' image files in order
abbrev pub files_of : LineFile → List (List ℕ)
files_of line = string_bytes line.journal ∷ names_of line

-- The journal's file has the bytes of the disk, and each slave's image file has its words.
abbrev pub HoldsSite : Known → LineFile → State → Type 0
HoldsSite files line state = HoldsAll files (files_of line) (state.disk.bytes ∷ map (λ (half : SlaveHalf). bytes_of half.words) state.halves)

-- A device keeps this of a site.
abbrev pub IsFollowed : {D : Type 0} → (D → Seen → Type 0) → Seen → Type 0
IsFollowed {D} follows seen = (device : D) × follows device seen
