-- What an answer changes in the datagrams of a frame.
use Rattle.std.specs.Prelude.{ℕ, zero, suc, List, [], ◌∷◌}
use Rattle.ecat_frame.specs.Frame.{Pdu}

-- the datagrams with another content and counter at this index, and all else as it is
abbrev pub answered : List Pdu → ℕ → List ℕ → ℕ → List Pdu
answered [] k content counter = []
answered (d ∷ ds) zero content counter = record d { content = content; counter = counter } ∷ ds
answered (d ∷ ds) (suc k) content counter = d ∷ answered ds k content counter
