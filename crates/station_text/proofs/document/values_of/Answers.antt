use Rattle.std.proofs.Common.{map, Some, sym, ap}
use Rattle.toml.specs.View.{view}
use Rattle.station_text.proofs.ScriptValues.{values_of-items_of}
use Rattle.station_text.proofs.document.values_of.Goals as goal

pub returns-in-Some : goal.returns-in-Some
returns-in-Some c =
    let found = rw c.in-Some.is at c.as_array.ensures in
    rw (← found, c.as_slice.ensures.value) (ap Some (sym (values_of-items_of (map view c.in-Some.values.now.items))))
