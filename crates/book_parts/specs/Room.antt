-- The live batches of a journal's area, as contracts see them.
use Rattle.std.specs.Prelude.{ℕ, ◌/◌, List, length}
use Rattle.jrn_format.specs.declared.journal.Batch.{Batch}
use Rattle.jrn_format.specs.declared.journal.Form.{Form}
use Rattle.jrn_format.specs.Area.{spelt_batches}
use Rattle.jrn_format.specs.Halves.{Halves}
use Rattle.book_model.specs.Reading.{spelling_of}

-- The form of the journal, the length of its area in bytes, and the live batches of each half.
pub record Room : Type 0 where
  pub form : Form
  pub capacity : ℕ
  pub halves : Halves

-- The length of a half in bytes.
abbrev pub half_room : Room → ℕ
half_room room = room.capacity / 2

-- How many bytes batches take in a journal of this form, each with its gate.
abbrev pub bytes_in : Form → List Batch → ℕ
bytes_in form batches = length (spelt_batches (spelling_of form) batches)

-- The area that the fields stand for.
abbrev pub room_of : Form → (capacity at generation : ℕ) → (older newer : List Batch) → Room
room_of form capacity at generation older newer = record {
  form = form;
  capacity = capacity;
  halves = record { at = at; generation = generation; older = older; newer = newer };
}
