-- The process image of a line: where the process data of each sync manager lies in it.
use Rattle.std.specs.Prelude.{ℕ, ◌+◌, ◌/◌, Bool, true, false, not, ◌&&◌, List, ◌++◌, Option, Some, None, length, map, filter, sum_by, take, nat_le, if◌then◌else◌}
use Rattle.std.specs.List.{enumerate_from, flat_map, list_any, list_all}
use Rattle.sii_image.specs.declared.rows.Row.{Row}
use Rattle.sii_image.specs.declared.process_image.Segment.{Segment}
use Rattle.sii_image.specs.ProcessData.{rows_of}

-- the size of a row: its bits in whole bytes
abbrev pub size_of : Row → ℕ
size_of row = (row.bits + 7) / 8

-- a row is an output (true) or an input (false)
abbrev pub is_towards : Bool → Row → Bool
is_towards output row = if output then row.output else not row.output

-- the outputs (true) or the inputs (false) among the rows of a slave, each with the slave's number
abbrev pub slave_rows : Bool → ℕ × List Row → List (ℕ × Row)
slave_rows output slave = map (λ row. (slave.0, row)) (filter (is_towards output) slave.1)

-- the outputs or the inputs of all slaves, numbered from 0: by slave, then by sync manager
abbrev pub rows_towards : Bool → List (List ℕ) → List (ℕ × Row)
rows_towards output plant = flat_map (λ slave. slave_rows output (slave.0, rows_of slave.1)) (enumerate_from 0 plant)

-- all rows of a line: outputs first
abbrev pub all_rows : List (List ℕ) → List (ℕ × Row)
all_rows plant = rows_towards true plant ++ rows_towards false plant

-- the size of these rows together, in bytes
abbrev pub total : List (ℕ × Row) → ℕ
total rows = sum_by (λ r. size_of r.1) rows

-- the segment of a row at this offset
abbrev pub segment_at : ℕ → ℕ × Row → Segment
segment_at offset r = record {
  slave = r.0;
  manager = r.1.manager;
  output = r.1.output;
  offset = offset;
  size = size_of r.1;
  bits = r.1.bits;
  start = r.1.start;
  control = r.1.control;
}

-- the segments of rows: each offset is the sum of the sizes of all rows before it
abbrev pub segments_of : List (ℕ × Row) → List Segment
segments_of rows = map (λ r. segment_at (total (take r.0 rows)) r.1) (enumerate_from 0 rows)

-- what a slave with these rows adds to the working counter: 2 for its outputs, 1 for its inputs
abbrev pub counter_of : List Row → ℕ
counter_of rows = (if list_any (is_towards true) rows then 2 else 0) + (if list_any (is_towards false) rows then 1 else 0)

-- A process image: its segments, the sizes of outputs and inputs in bytes, and the expected working counter.
pub record ProcessImageParts : Type 0 where
  pub segments : List Segment
  pub outputs : ℕ
  pub inputs : ℕ
  pub counter : ℕ

-- a slave has at most 8 rows
abbrev pub has_few_rows : List ℕ → Bool
has_few_rows words = nat_le (length (rows_of words)) 8

-- each slave has at most 8 rows, and all rows together at most 1,486 bytes
abbrev pub is_within_limits : List (List ℕ) → Bool
is_within_limits plant = list_all has_few_rows plant && nat_le (total (all_rows plant)) 1486

-- the process image of a line that is within the limits
abbrev pub placed : List (List ℕ) → ProcessImageParts
placed plant = record {
  segments = segments_of (all_rows plant);
  outputs = total (rows_towards true plant);
  inputs = total (rows_towards false plant);
  counter = sum_by (λ words. counter_of (rows_of words)) plant;
}

-- the process image of a line's contents; there is none beyond the limits
abbrev pub process_image : List (List ℕ) → Option ProcessImageParts
process_image plant = if is_within_limits plant then Some (placed plant) else None
