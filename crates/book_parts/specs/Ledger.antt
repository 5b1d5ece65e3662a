-- The accepted commands, as contracts see them.
use Rattle.std.specs.Prelude.{ℕ, ◌+◌, List, [], ◌∷◌, ◌++◌, length, take, drop}
use Rattle.sii_edit.specs.declared.command.Command.{Command}
use Rattle.sii_edit.specs.Fold.{contents}
use Rattle.jrn_format.specs.declared.journal.Entry.{Entry}
use Rattle.book_model.specs.Entries.{entries_from}

-- The contents at the open, the commands accepted since, how many of them are durable, and how many after these are being appended
-- (`begun`).
pub record Ledger : Type 0 where
  pub base : List (List ℕ)
  pub accepted : List Command
  pub durable : ℕ
  pub begun : ℕ

-- The contents after all accepted commands.
abbrev pub contents_of : Ledger → List (List ℕ)
contents_of ledger = contents ledger.base ledger.accepted

-- The accepted commands as entries.
abbrev pub own : Ledger → List Entry
own ledger = entries_from 0 ledger.base ledger.accepted

-- The entries that are being appended.
abbrev pub appended : Ledger → List Entry
appended ledger = take ledger.begun (drop ledger.durable (own ledger))

-- The entries after them, which are queued.
abbrev pub queued : Ledger → List Entry
queued ledger = drop (ledger.durable + ledger.begun) (own ledger)

-- A ledger that was just opened.
abbrev pub opened : List (List ℕ) → Ledger
opened base = record { base = base; accepted = []; durable = 0; begun = 0 }

-- The ledger with one more command accepted.
abbrev pub with_command : Ledger → Command → Ledger
with_command ledger command = record ledger { accepted = ledger.accepted ++ command ∷ [] }

-- The whole queue is being appended.
abbrev pub all_begun : Ledger → Ledger
all_begun ledger = record ledger { begun = length (queued ledger) }

-- What was being appended is durable.
abbrev pub gone_durable : Ledger → Ledger
gone_durable ledger = record ledger { durable = ledger.durable + ledger.begun; begun = 0 }
