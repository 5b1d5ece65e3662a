use Rattle.std.proofs.Common.{◌≡◌, ◌-◌}
use Rattle.std.specs.Int.{w16}
use Rattle.jrn_format.specs.steps.Reading.{counted, number_at}
use Rattle.jrn_format.proofs.Counting.{with_front}
use Rattle.jrn_format.proofs.reading.words_of.Given as goal

abbrev pub invariant-loop : goal.invariant-loop
invariant-loop l = with_front l.words.items (counted (number_at w16) (l.count - l.counter) l.rest) ≡ counted (number_at w16) l.count l.bytes
