-- What a recovery is still to write, and a slave that is given up.
use Rattle.std.specs.Prelude.{◌≡◌, ◌≢◌, ℕ, List, [], ◌∷◌, length, map, Option, None, Some, replicate, slice_get, slice_set, string_bytes, All}
use Rattle.sii_words.specs.Plant.{words_of}
use Rattle.sii_words.specs.Redo.{redone}
use Rattle.sii_words.specs.Words.{bytes_of}
use Rattle.jrn_format.specs.declared.journal.Journal.{Journal}
use Rattle.jrn_format.specs.Journal.{IsJournal}
use Rattle.jrn_release.specs.Without.{IsWithout}
use Rattle.book_model.specs.Entries.{live_runs}
use Rattle.station_text.specs.declared.line_file.LineFile.{LineFile}
use Rattle.station_files.specs.Files.{Known, HasBytes, Holds, ChangesAmong}
use Rattle.station_files.specs.LineFiles.{names_of}
use Rattle.line_changes.specs.declared.changes.ChangedWord.{ChangedWord}
use Rattle.line_changes.specs.Changes.{changes_between}
use Rattle.wire_scan.specs.declared.asked.Mend.{Mend}
use Rattle.wire_scan.specs.declared.asked.Mend.TheVariants as mend
use Rattle.wire_scan.specs.Keeping.{AreOfImages}
use Rattle.wire_scan.specs.Opening.{IsFound}

-- These are the words in which slaves with these words differ from what a recovery makes of them, with the live batches of a journal with these bytes.
pub record IsPending (plant : List (List ℕ)) (bytes : List ℕ) (words : List ChangedWord) : Type 0 where
  pub journal : Journal
  pub read : IsJournal bytes (map length plant) journal
  pub is : words ≡ changes_between plant (redone plant (live_runs journal.batches))

-- none of these words is one of this slave
abbrev pub PendsNothing : List ChangedWord → ℕ → Type 0
PendsNothing words slave = All (λ (word : ChangedWord). word.slave ≢ slave) words

-- The journal's file holds the journal that it was without this slave, and the image file of the slave, unless the journal has its name, the words that
-- the slave has. No other file has changed.
pub record GivesUpFound (old new : Known) (line : LineFile) (plant : List (List ℕ)) (bytes : List ℕ) (slave : ℕ) : Type 0 where
  pub image : List ℕ
  pub named : slice_get (names_of line) slave ≡ Some image
  pub others : ChangesAmong old new (string_bytes line.journal ∷ image ∷ [])
  pub journal : Holds new (string_bytes line.journal) (IsWithout slave (map length plant) bytes)
  pub kept : image ≢ string_bytes line.journal → HasBytes new image (bytes_of (words_of plant slave))

-- the same, and a word of the slave was pending
pub record GivesUpPending (old new : Known) (line : LineFile) (plant : List (List ℕ)) (bytes : List ℕ) (slave : ℕ) : Type 0 where
  pub gives : GivesUpFound old new line plant bytes slave
  pub words : List ChangedWord
  pub pending : IsPending plant bytes words
  pub some : ¬ PendsNothing words slave

-- what counts as right of each slave, where one is given up: that one may have other words than its image file; where none is, each may
abbrev pub let_pass : Option ℕ → List Mend → List Mend
let_pass None mends = replicate 64 mend.Slave
let_pass (Some slave) mends = slice_set mends slave mend.Slave

-- the same of a line that was found, of which no slave but this one has other words than its image file, unless something is said of it
pub record GivesUp (old new : Known) (name : List ℕ) (mends : List Mend) (slave : ℕ) : Type 0 where
  pub line : LineFile
  pub plant : List (List ℕ)
  pub bytes : List ℕ
  pub found : IsFound old name line plant bytes
  pub kept : AreOfImages old line (let_pass (Some slave) mends) bytes plant
  pub gives : GivesUpPending old new line plant bytes slave

-- Where the journal's file has changed, the image file of this slave has the words that the slave has, unless the journal has its name.
abbrev pub WritesImageFirst : (old new : Known) → LineFile → List (List ℕ) → (slave : ℕ) → Type 0
WritesImageFirst old new line plant slave = (image : List ℕ) → slice_get (names_of line) slave ≡ Some image → image ≢ string_bytes line.journal
    → new (string_bytes line.journal) ≢ old (string_bytes line.journal) → HasBytes new image (bytes_of (words_of plant slave))

-- The same of a line that was found, or no file has changed.
pub data WritesInOrder (old new : Known) (name : List ℕ) (slave : ℕ) : Type 0 where
  keeps : new ≡ old → WritesInOrder old new name slave
  writes : (line : LineFile) (plant : List (List ℕ)) (bytes : List ℕ) → IsFound old name line plant bytes → WritesImageFirst old new line plant slave
      → WritesInOrder old new name slave
