-- The invariant of a ledger: what ties its contents and entries to the accepted commands.
use Rattle.std.specs.Prelude.{◌≡◌, ◌≤◌, ℕ, ◌+◌, List, length, All}
use Rattle.sii_words.specs.Plant.{words_of}
use Rattle.sii_edit.specs.declared.command.Command.{Command}
use Rattle.sii_edit.specs.Fold.{contents, AreAccepted}
use Rattle.jrn_format.specs.declared.journal.Entry.{Entry}
use Rattle.jrn_format.specs.Batch.{AreCountedRuns}
use Rattle.jrn_format.specs.Halves.{entries_size}
use Rattle.book_model.specs.declared.refusal.TheConstants.{QUEUE}
use Rattle.book_model.specs.Entries.{entries_from}
use Rattle.book_parts.specs.Ledger.{Ledger, appended, queued}

-- The ledger that the fields stand for.
abbrev pub ledger_of : List (List ℕ) → List Command → ℕ → List Entry → Ledger
ledger_of base accepted durable begun = record { base = base; accepted = accepted; durable = durable; begun = length begun }

-- Each command is valid on the contents after those before it, and these are the contents after all of them, with their layout.
pub record ContentsStand (base : List (List ℕ)) (accepted : List Command) (now layout : List (List ℕ)) : Type 0 where
  pub are_accepted : AreAccepted base accepted
  pub is_contents : now ≡ contents base accepted
  pub is_layout : layout ≡ now

-- The entries after the durable ones are being appended, and those after them are queued.
pub record EntriesStand (ledger : Ledger) (begun queue : List Entry) : Type 0 where
  pub are_appended : begun ≡ appended ledger
  pub are_queued : queue ≡ queued ledger
  pub few : ledger.durable + ledger.begun ≤ length ledger.accepted

-- The counts of each entry fit their fields in the journal.
pub record CountsStand (base : List (List ℕ)) (accepted : List Command) : Type 0 where
  pub words : (slave : ℕ) → length (words_of base slave) ≤ 4096
  pub runs : All (λ entry. AreCountedRuns entry.runs) (entries_from 0 base accepted)

-- At most as many entries as may be queued, and the number of bytes of a batch of them.
pub record IsSized (entries : List Entry) (bytes : ℕ) : Type 0 where
  pub few : length entries ≤ QUEUE
  pub size : bytes ≡ entries_size entries

-- The whole invariant, of the fields one by one.
pub record Stands (ledger : Ledger) (now layout : List (List ℕ)) (begun : List Entry) (begun_bytes : ℕ)
    (queue : List Entry) (queue_bytes : ℕ) : Type 0 where
  pub contents : ContentsStand ledger.base ledger.accepted now layout
  pub entries : EntriesStand ledger begun queue
  pub counts : CountsStand ledger.base ledger.accepted
  pub begun_sized : IsSized begun begun_bytes
  pub queue_sized : IsSized queue queue_bytes
