use Rattle.std.proofs.Common.{◌≡◌, ◌-◌}
use Rattle.jrn_format.specs.steps.Reading.{counted, run_at}
use Rattle.jrn_format.proofs.Counting.{with_front}
use Rattle.jrn_format.proofs.reading.runs_of.Given as goal

abbrev pub invariant-loop : goal.invariant-loop
invariant-loop l = with_front l.runs.items (counted run_at (l.count - l.counter) l.rest) ≡ counted run_at l.count l.bytes
