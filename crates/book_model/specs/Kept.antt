-- A recoverable state: redo of its journal gives the contents after a prefix of the accepted commands, with each acknowledged one.
use Rattle.std.specs.Prelude.{◌≡◌, ℕ, List}
use Rattle.sii_words.specs.Redo.{redone}
use Rattle.sii_edit.specs.Fold.{contents_after}
use Rattle.jrn_format.specs.declared.journal.Journal.{Journal}
use Rattle.jrn_format.specs.Journal.{IsJournal}
use Rattle.book_model.specs.Entries.{live_runs, sizes_of}
use Rattle.book_model.specs.Machine.{Machine, base_of, MayKeep}

-- The bytes of the disk hold a journal of this line. Redo of its live batches over the words gives the contents after the first k
-- accepted commands, where k is at least the number of acknowledged ones.
pub record Kept (bytes : List ℕ) (words : List (List ℕ)) (machine : Machine) : Type 0 where
  pub journal : Journal
  pub live : IsJournal bytes (sizes_of words) journal
  pub k : ℕ
  pub may_keep : MayKeep machine k
  pub same : redone words (live_runs journal.batches) ≡ contents_after (base_of machine) machine.accepted k
