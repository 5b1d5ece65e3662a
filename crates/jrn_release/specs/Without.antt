-- A journal without what its live batches have for one slave.
use Rattle.std.specs.Prelude.{ℕ, Bool, ◌+◌, ◌==◌, not, filter, List, [], ◌∷◌, ◌++◌, length, map, take, drop}
use Rattle.sii_words.specs.declared.run.Run.{Run}
use Rattle.jrn_format.specs.declared.journal.Entry.{Entry}
use Rattle.jrn_format.specs.declared.journal.Batch.{Batch}
use Rattle.jrn_format.specs.declared.journal.Journal.{Journal}
use Rattle.jrn_format.specs.declared.journal.Spelling.{Spelling}
use Rattle.jrn_format.specs.Batch.{PayloadFits}
use Rattle.jrn_format.specs.Area.{spelt_batches}
use Rattle.jrn_format.specs.Journal.{IsJournal}

-- whether a run is for another slave
abbrev pub is_other : ℕ → Run → Bool
is_other slave run = not (run.slave == slave)

-- the runs that aren't for this slave
abbrev pub runs_without : ℕ → List Run → List Run
runs_without slave runs = filter (is_other slave) runs

-- the same command without its runs for this slave
abbrev pub entry_without : ℕ → Entry → Entry
entry_without slave entry = record { number = entry.number; runs = runs_without slave entry.runs }

-- the same batch, each command without its runs for this slave
abbrev pub batch_without : ℕ → Batch → Batch
batch_without slave batch = record { half = batch.half; generation = batch.generation; entries = map (entry_without slave) batch.entries }

-- the same journal, each batch without the runs for this slave
abbrev pub journal_without : ℕ → Journal → Journal
journal_without slave journal = record { form = journal.form; batches = map (batch_without slave) journal.batches }

-- The old file is a journal of a line whose slaves have `sizes` words each, and the new one is the same without this slave.
pub record IsWithout (slave : ℕ) (sizes old new : List ℕ) : Type 0 where
  pub journal : Journal
  pub was : IsJournal old sizes journal
  pub is : IsJournal new sizes (journal_without slave journal)

-- the batches of this half of the area
abbrev pub of_half : ℕ → List Batch → List Batch
of_half half batches = filter (λ (batch : Batch). batch.half == half) batches

-- the batches without this slave as bytes, and a closed gate after them
abbrev pub over : ℕ → Spelling → List Batch → List ℕ
over slave spelling batches = spelt_batches spelling (map (batch_without slave) batches) ++ 0 ∷ []

-- the bytes, with others over those from this place on
abbrev pub placed : (at : ℕ) (others bytes : List ℕ) → List ℕ
placed at others bytes = take at bytes ++ others ++ drop (at + length others) bytes

-- the entries of the batch fit into their fields
abbrev pub CanBeSpelt : Batch → Type 0
CanBeSpelt batch = PayloadFits batch.entries
