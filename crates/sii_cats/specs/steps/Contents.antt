-- SyncM categories as they are read, one manager after the other.
use Rattle.std.specs.Prelude.{ℕ, List, ◌∷◌, Result}
use Rattle.sii_cats.specs.Bytes.{number, bytes_of}
use Rattle.sii_cats.specs.steps.Items.{Front, items_of}
use Rattle.sii_cats.specs.steps.Items.Front.{Ended, Item}
use Rattle.sii_cats.specs.declared.managers.Manager.{Manager}

-- the sync manager in front, or an end
abbrev pub manager_at : List ℕ → Front Manager
manager_at (s0 ∷ s1 ∷ l0 ∷ l1 ∷ control ∷ status ∷ enable ∷ kind ∷ rest) =
    Item (record { start = number s0 s1; length = number l0 l1; control = control; status = status; enable = enable; kind = kind }) rest
manager_at short = Ended

-- the sync managers of a content
abbrev pub managers_of : List ℕ → Result (List Manager) (List ℕ)
managers_of words = items_of manager_at (bytes_of words)
