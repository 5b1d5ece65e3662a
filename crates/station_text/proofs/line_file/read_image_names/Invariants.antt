use Rattle.std.proofs.Common.{◌≡◌, map, take, vec_len}
use Rattle.std.specs.List.{AllZip}
use Rattle.toml.specs.View.{view}
use Rattle.station_text.specs.LineText.{NamesImage}
use Rattle.station_text.proofs.line_file.read_image_names.Given as goal

abbrev pub invariant-loop-slave : goal.invariant-loop-slave
invariant-loop-slave l =
    (vec_len l.images ≡ l.slave-index)
    × AllZip NamesImage (map view (take l.slave-index l.slaves)) l.images.items
