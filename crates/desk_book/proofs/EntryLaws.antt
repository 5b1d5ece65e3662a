-- The notes of one slave in the list of all notes.
use Rattle.std.proofs.Common.{◌≡◌, ◌∙◌, ℕ, ◌<◌, List, length, ap}
use Rattle.std.specs.Prelude.{slice_set}
use Rattle.std.proofs.lemmas.List.{length-set, get_or-set_same, get_or-set_other}
use Rattle.book_model.specs.declared.next.RomNext.{RomNext}
use Rattle.book_model.specs.declared.next.RomOutcome.{RomOutcome}
use Rattle.station_jobs.specs.Noted.{Noted}
use Rattle.desk_book.specs.Logs.{RomEntry}
use Rattle.desk_book.specs.Serving.{IsNoted, no_entries}

-- one slave's notes are changed
pub noted-set : (slaves : List (Noted RomNext RomOutcome)) (at : ℕ) (notes : Noted RomNext RomOutcome) (log : List RomEntry) → at < length slaves → notes.entries ≡ log → IsNoted slaves at log (slice_set slaves at notes)
noted-set slaves at notes log inside is = record {
  count = length-set slaves at notes;
  here = ap (λ (n : Noted RomNext RomOutcome). n.entries) (get_or-set_same slaves at notes no_entries inside) ∙ is;
  others = λ i other. ap (λ (n : Noted RomNext RomOutcome). n.entries) (get_or-set_other slaves at i notes no_entries other);
}
