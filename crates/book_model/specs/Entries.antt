-- Commands as entries of a journal, and the values that their runs give to each word.
use Rattle.std.specs.Prelude.{ℕ, suc, ◌==◌, List, [], ◌∷◌, length, map, if◌then◌else◌}
use Rattle.std.specs.List.{flat_map}
use Rattle.sii_edit.specs.declared.command.Command.{Command}
use Rattle.sii_words.specs.declared.run.Run.{Run}
use Rattle.sii_words.specs.Run.{runs_between}
use Rattle.sii_edit.specs.Fold.{after}
use Rattle.jrn_format.specs.declared.journal.Entry.{Entry}
use Rattle.jrn_format.specs.declared.journal.Batch.{Batch}
use Rattle.book_model.specs.Pending.{values_of}

-- All runs of entries, in order.
abbrev pub runs_of : List Entry → List Run
runs_of entries = flat_map (λ (e : Entry). e.runs) entries

-- All entries of batches, in order.
abbrev pub entries_of : List Batch → List Entry
entries_of batches = flat_map (λ (b : Batch). b.entries) batches

-- All runs of batches, in order.
abbrev pub live_runs : List Batch → List Run
live_runs batches = runs_of (entries_of batches)

-- The entries of commands, numbered from `number`. The runs of each are the differences between the contents before and after it.
abbrev pub entries_from : ℕ → List (List ℕ) → List Command → List Entry
entries_from number contents [] = []
entries_from number contents (command ∷ commands) =
    record { number = number; runs = runs_between contents (after contents command) } ∷ entries_from (suc number) (after contents command) commands

-- The number of words of each slave.
abbrev pub sizes_of : List (List ℕ) → List ℕ
sizes_of plant = map (λ words. length words) plant

-- ---- namings: pairs of a word and a value that runs give to it

-- Neighbouring words from `at`, each with its value.
abbrev pub named_from : ℕ → List ℕ → List (ℕ × ℕ)
named_from at [] = []
named_from at (value ∷ values) = (at, value) ∷ named_from (suc at) values

-- The namings of a run for a slave; none if the run is of another slave.
abbrev pub named_by : ℕ → Run → List (ℕ × ℕ)
named_by slave run = if run.slave == slave then named_from run.first run.words else []

-- The namings of runs for a slave, in order.
abbrev pub namings : List Run → ℕ → List (ℕ × ℕ)
namings runs slave = flat_map (named_by slave) runs

-- The values that the runs give to a word, in order.
abbrev pub values : List Run → ℕ → ℕ → List ℕ
values runs slave at = values_of at (namings runs slave)
