-- The invariant that ties the counts of bytes to the batches.
use Rattle.std.specs.Prelude.{◌≡◌, ℕ, ◌≤◌, List}
use Rattle.jrn_format.specs.declared.journal.Batch.{Batch}
use Rattle.jrn_format.specs.declared.journal.Form.{Form}
use Rattle.book_parts.specs.Room.{bytes_in}

-- The older half is half 0 or 1, and each count is that of its half's bytes.
pub record IsCounted (form : Form) (at older_bytes newer_bytes : ℕ) (older newer : List Batch) : Type 0 where
  pub half : at ≤ 1
  pub older_is : older_bytes ≡ bytes_in form older
  pub newer_is : newer_bytes ≡ bytes_in form newer
