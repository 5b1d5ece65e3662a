use Rattle.std.proofs.Common.{◌≡◌, ◌++◌, drop}
use Rattle.sii_image.specs.steps.Described.{as_summed}
use Rattle.sii_image.specs.steps.Sums.{rows_summed}
use Rattle.sii_image.proofs.RowsMade.{rows_from}
use Rattle.sii_image.proofs.process_data.ProcessData.rows.Given as goal

abbrev pub invariant-loop-number : goal.invariant-loop-number
invariant-loop-number l = l.rows.items ++ rows_from (as_summed l.self) l.number (drop l.number l.self.managers.items) ≡ rows_summed (as_summed l.self)
