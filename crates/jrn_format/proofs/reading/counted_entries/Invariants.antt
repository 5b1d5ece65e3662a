use Rattle.std.proofs.Common.{◌≡◌, ◌-◌}
use Rattle.jrn_format.specs.steps.Reading.{counted, entry_at}
use Rattle.jrn_format.proofs.Counting.{with_front}
use Rattle.jrn_format.proofs.reading.counted_entries.Given as goal

abbrev pub invariant-loop : goal.invariant-loop
invariant-loop l = with_front l.entries.items (counted entry_at (l.count - l.counter) l.rest) ≡ counted entry_at l.count l.bytes
