-- The rows of a slave, made one manager after the other.
use Rattle.std.proofs.Common.{ℕ, List}
use Rattle.std.specs.Prelude.{filter, map, nat_lt}
use Rattle.std.specs.List.{enumerate_from}
use Rattle.sii_cats.specs.declared.managers.Manager.{Manager}
use Rattle.sii_image.specs.declared.rows.Row.{Row}
use Rattle.sii_image.specs.steps.Sums.{Summed, row_summed}

-- the rows of these managers, the first with this number
abbrev pub rows_from : Summed → ℕ → List Manager → List Row
rows_from s number managers = filter (λ r. nat_lt 0 r.bits) (map (row_summed s) (enumerate_from number managers))
