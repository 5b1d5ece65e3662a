-- The process data of a slave, as the running code holds them.
use Rattle.sii_image.specs.declared.process_data.ProcessData.{ProcessData}
use Rattle.sii_image.specs.steps.Sums.{Summed}

-- the value of the running code's process data
abbrev pub as_summed : ProcessData → Summed
as_summed d = record { managers = d.managers.items; outputs = d.outputs; inputs = d.inputs }
