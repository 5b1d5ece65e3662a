use Rattle.std.proofs.Common.{◌≡◌, ◌++◌}
use Rattle.std.specs.Vec.Iter.{into_iter_items}
use Rattle.site_shadow.specs.Line.{halves_of}
use Rattle.station_threads.specs.Places.{AllPlaced}
use Rattle.script_session.specs.Parts.{BeginsWith}
use Rattle.script_session.proofs.separate.slave_sites.Given as goal

abbrev pub invariant-loop-half : goal.invariant-loop-half
invariant-loop-half l = (l.yielded ++ into_iter_items l.half-iterator ≡ into_iter_items l.initial.half-iterator) × AllPlaced BeginsWith 0 (halves_of l.yielded) l.sites.items
