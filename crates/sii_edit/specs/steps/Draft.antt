-- Where a slave stands in a draft, and the runs of a draft slave by slave.
use Rattle.std.specs.Prelude.{ℕ, suc, nat_lt, List, [], ◌∷◌, ◌++◌, if◌then◌else◌}
use Rattle.sii_words.specs.Plant.{words_of}
use Rattle.sii_words.specs.declared.run.Run.{Run}
use Rattle.sii_words.specs.Run.{stretches}
use Rattle.sii_edit.specs.declared.draft.Renewal.{Renewal}
use Rattle.sii_edit.specs.Draft.{renewed}

-- the number of renewals of slaves before this one
abbrev pub place_of : List Renewal → ℕ → ℕ
place_of [] slave = 0
place_of (first ∷ others) slave = if nat_lt first.slave slave then suc (place_of others slave) else 0

-- the runs of the slaves that get new words
abbrev pub drafted_runs : List (List ℕ) → List Renewal → List Run
drafted_runs plant [] = []
drafted_runs plant (first ∷ others) =
    stretches first.slave 0 (words_of plant first.slave) (renewed (words_of plant first.slave) first.new) ++ drafted_runs plant others
