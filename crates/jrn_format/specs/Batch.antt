-- The encoding of batches. All numbers are little-endian.
use Rattle.std.specs.Prelude.{◌≡◌, ℕ, ◌+◌, ◌*◌, ◌^◌, ◌<◌, ◌≤◌, List, [], ◌∷◌, ◌++◌, length, All, slice_index}
use Rattle.std.specs.List.{flat_map, sum_by, AllByRecursion}
use Rattle.std.specs.Int.{w16, w32, w64, to_le_bytes}
use Rattle.sii_words.specs.declared.run.Run.{Run}
use Rattle.jrn_format.specs.declared.journal.Entry.{Entry}
use Rattle.jrn_format.specs.declared.journal.Batch.{Batch}
use Rattle.jrn_format.specs.declared.journal.Spelling.{Spelling}
use Rattle.jrn_format.specs.declared.journal.Spelling.TheVariants.{Plain, WithGeneration}

-- A run: slave (2 bytes), first word (2), number of words (2), the words (2 each).
abbrev pub spelt_run : Run → List ℕ
spelt_run run =
    to_le_bytes w16 run.slave ++ to_le_bytes w16 run.first ++ to_le_bytes w16 (length run.words)
    ++ flat_map (to_le_bytes w16) run.words

-- An entry: its number (8 bytes), number of runs (2), the runs.
abbrev pub spelt_entry : Entry → List ℕ
spelt_entry entry = to_le_bytes w64 entry.number ++ to_le_bytes w16 (length entry.runs) ++ flat_map spelt_run entry.runs

-- A payload: number of entries (2 bytes), the entries.
abbrev pub spelt_payload : List Entry → List ℕ
spelt_payload entries = to_le_bytes w16 (length entries) ++ flat_map spelt_entry entries

-- The generation byte of version 2; version 1 has none.
abbrev pub spelt_generation : Spelling → ℕ → List ℕ
spelt_generation Plain generation = []
spelt_generation WithGeneration generation = generation ∷ []

-- A batch after its gate: generation, length of the payload in bytes (4 bytes), the payload.
abbrev pub spelt_after : Spelling → ℕ → List Entry → List ℕ
spelt_after spelling generation entries =
    spelt_generation spelling generation ++ to_le_bytes w32 (length (spelt_payload entries)) ++ spelt_payload entries

-- A live batch: an open gate, and the rest of the batch.
abbrev pub spelt_batch : Spelling → Batch → List ℕ
spelt_batch spelling batch = 0xA5 ∷ spelt_after spelling batch.generation batch.entries

-- ---- values that fit into their fields

-- The numbers of a run fit into 16 bits, and it has at least one word.
pub record RunFits (run : Run) : Type 0 where
  pub slave : run.slave < 2 ^ 16
  pub first : run.first < 2 ^ 16
  pub some : 1 ≤ length run.words
  pub count : length run.words < 2 ^ 16
  pub words : AllByRecursion (λ word. word < 2 ^ 16) run.words

-- The numbers of an entry fit into their fields. It may have no runs.
pub record EntryFits (entry : Entry) : Type 0 where
  pub number : entry.number < 2 ^ 64
  pub count : length entry.runs < 2 ^ 16
  pub runs : AllByRecursion RunFits entry.runs

-- The numbers of a payload fit into their fields, and it has at least one entry.
pub record PayloadFits (entries : List Entry) : Type 0 where
  pub some : 1 ≤ length entries
  pub count : length entries < 2 ^ 16
  pub each : AllByRecursion EntryFits entries
  pub bytes : length (spelt_payload entries) < 2 ^ 32

-- A generation fits into one byte; in version 1 it is 0.
abbrev pub GenerationFits : Spelling → ℕ → Type 0
GenerationFits Plain generation = generation ≡ 0
GenerationFits WithGeneration generation = generation < 256

-- A batch that can be encoded in this half of the area.
pub record CanStand (spelling : Spelling) (half : ℕ) (batch : Batch) : Type 0 where
  pub of_half : batch.half ≡ half
  pub generation : GenerationFits spelling batch.generation
  pub payload : PayloadFits batch.entries

-- ---- runs within the line

-- The line has the run's slave, and that slave has all words of the run. `sizes` are words per slave.
pub record LiesWithin (sizes : List ℕ) (run : Run) : Type 0 where
  pub slave : run.slave < length sizes
  pub words : run.first + length run.words ≤ slice_index sizes run.slave

-- Each run of the entry is within the line.
abbrev pub LieWithin : List ℕ → Entry → Type 0
LieWithin sizes entry = AllByRecursion (LiesWithin sizes) entry.runs

-- Each run of the batch is within the line.
abbrev pub IsWithin : List ℕ → Batch → Type 0
IsWithin sizes batch = AllByRecursion (LieWithin sizes) batch.entries

-- ---- counts and sizes that fit into their fields

-- A run has 1 to 65,535 words.
abbrev pub IsCountedRun : Run → Type 0
IsCountedRun run = (1 ≤ length run.words) × (length run.words < 2 ^ 16)

-- At most 65,535 runs, each with such a count.
abbrev pub AreCountedRuns : List Run → Type 0
AreCountedRuns runs = (length runs < 2 ^ 16) × All IsCountedRun runs

-- Entries whose counts, and whose payload's length in bytes, fit into their fields.
pub record AreCounted (entries : List Entry) : Type 0 where
  pub some : 1 ≤ length entries
  pub count : length entries < 2 ^ 16
  pub runs : All (λ entry. AreCountedRuns entry.runs) entries
  pub bytes : length (spelt_payload entries) < 2 ^ 32

-- The length of an entry with these runs, in bytes.
abbrev pub entry_size : List Run → ℕ
entry_size runs = 10 + sum_by (λ run. 6 + 2 * length run.words) runs
