-- How many device calls a recovery may still make. An issue is one; its settle is at most 10,001: 10,000 polls and a datagram.
use Rattle.std.specs.Prelude.{ℕ, suc, ◌+◌, ◌-◌, ◌*◌, List, [], ◌∷◌, length}
use Rattle.std.specs.List.{sum_by}
use Rattle.sii_words.specs.declared.run.Run.{Run}
use Rattle.jrn_format.specs.declared.journal.Entry.{Entry}
use Rattle.jrn_format.specs.declared.journal.Batch.{Batch}
use Rattle.jrn_format.specs.declared.journal.Form.{Form}
use Rattle.jrn_format.specs.declared.journal.Form.TheVariants.{One, Two, Moving}
use Rattle.jrn_format.specs.Halves.{Halves}
use Rattle.book_model.specs.Entries.{live_runs}
use Rattle.book_model.specs.Book.{Book, Doing, CloseSync, Mark, MarkSync, Version, VersionSync, Slave, Operation, NoOperation, Issuing, Unsettled, Settling}
use Rattle.book_model.specs.Reading.{all_entries}
use Rattle.book_model.specs.Worn.{named_for}

-- ---- the slaves

-- The calls left for the word that the slave is at.
abbrev pub operation_calls : Operation → ℕ
operation_calls NoOperation = 0
operation_calls (Issuing word value) = 10002
operation_calls (Unsettled word value taken) = 10001
operation_calls (Settling word value taken) = 10001

-- The calls left for a slave of which `named` words are named: three issues for each, less those made.
abbrev pub slave_calls : (named : ℕ) → Slave → ℕ
slave_calls named slave = 10002 * (3 * named - slave.issues) + operation_calls slave.operation

-- The calls left for the slaves, counted from slave i on.
abbrev pub slaves_calls : List Entry → ℕ → List Slave → ℕ
slaves_calls entries i [] = 0
slaves_calls entries i (slave ∷ slaves) = slave_calls (named_for entries i) slave + slaves_calls entries (suc i) slaves

-- ---- the disk

-- The calls that retire a half.
abbrev pub half_calls : List Batch → ℕ
half_calls [] = 0
half_calls (batch ∷ batches) = 2

-- The calls that retire both halves.
abbrev pub halves_calls : Halves → ℕ
halves_calls halves = half_calls halves.older + half_calls halves.newer

-- The calls of a migration, which leaves out the mark if it was cut before.
abbrev pub migration_calls : Form → ℕ
migration_calls One = 5
migration_calls Two = 0
migration_calls Moving = 4

-- The calls left for the disk, by the step that is handed out next.
abbrev pub disk_calls : Doing → Halves → Form → ℕ
disk_calls CloseSync halves form = 1 + half_calls halves.newer + migration_calls form
disk_calls Mark halves form = 4
disk_calls MarkSync halves form = 3
disk_calls Version halves form = 2
disk_calls VersionSync halves form = 1
disk_calls doing halves form = halves_calls halves + migration_calls form

-- ---- both

-- The calls left for slaves and disk together.
abbrev pub calls_left : Book → ℕ
calls_left book = slaves_calls (all_entries book) 0 book.slaves + disk_calls book.doing book.halves book.form

-- The number of words that live batches name, each counted as often as it is named.
abbrev pub words_named : List Batch → ℕ
words_named batches = sum_by (λ (run : Run). length run.words) (live_runs batches)

-- The number of words issued to the slaves since the open.
abbrev pub words_issued : List Slave → ℕ
words_issued slaves = sum_by (λ (slave : Slave). slave.issues) slaves
