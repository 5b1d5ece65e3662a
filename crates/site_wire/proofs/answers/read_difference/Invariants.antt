use Rattle.std.proofs.Common.{◌≡◌, ℕ, ◌+◌, ◌<◌, slice_index}
use Rattle.site_wire.specs.Answers.{compared}
use Rattle.site_wire.proofs.answers.read_difference.Given as goal

abbrev pub invariant-loop-place : goal.invariant-loop-place
invariant-loop-place l = (k : ℕ) → k < l.place → compared (l.register + k) (slice_index l.given k) ≡ compared (l.register + k) (slice_index l.found k)
