-- The weights of slaves, which stand for the limits of a process image.
use Rattle.std.specs.Prelude.{ℕ, List, length, sum_by, nat_lt, if◌then◌else◌}
use Rattle.sii_image.specs.declared.rows.Row.{Row}
use Rattle.sii_image.specs.ProcessData.{rows_of}
use Rattle.sii_image.specs.ProcessImage.{size_of}

-- The weight of a slave with these rows: their bytes, or 1,487 (one byte more than an image has) if they are more than 8 rows
-- or more than 1,486 bytes.
abbrev pub weight_of_rows : List Row → ℕ
weight_of_rows rows =
    if nat_lt 8 (length rows) then 1487 else if nat_lt 1486 (sum_by size_of rows) then 1487 else sum_by size_of rows

-- the weight of a slave with these words
abbrev pub weight_of : List ℕ → ℕ
weight_of words = weight_of_rows (rows_of words)

-- the weight of all slaves of a line together
abbrev pub weight_of_all : List (List ℕ) → ℕ
weight_of_all plant = sum_by weight_of plant
