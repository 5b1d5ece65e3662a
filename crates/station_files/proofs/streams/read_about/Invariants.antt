use Rattle.std.specs.Io.KnownBytes.{Consumes}
use Rattle.station_files.proofs.streams.read_about.Given as goal

abbrev pub invariant-loop-read : goal.invariant-loop-read
invariant-loop-read g l = Consumes (g.R.Read.remaining l.initial.input) (g.R.Read.remaining l.input) l.bytes.items
