use Rattle.station_files.specs.LineFiles.{RefusesLayout}
use Rattle.station_files.proofs.Loaded.{handed_on, plant_refused}
use Rattle.station_rows.proofs.show.show_layout.Goals as goal

pub returns-in_err-plant-clause-refused : goal.returns-in_err-plant-clause-refused
returns-in_err-plant-clause-refused g c =
    handed_on (RefusesLayout (g.S.Store.files c.args.store.now) c.args.line.now) c.from_residual.result c.in_err-plant.field-0.0 c.from_residual.ensures.1
    (plant_refused (g.S.Store.files c.args.store.now) c.args.line.now c.in_err-plant.field-0.0 c.in_err-plant.ensures.refused)
