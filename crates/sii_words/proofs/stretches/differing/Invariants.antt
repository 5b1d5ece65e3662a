use Rattle.std.proofs.Common.{◌≢◌, ℕ, ◌<◌, ◌≤◌, ◌-◌, length, slice_index}
use Rattle.sii_words.proofs.stretches.differing.Given as goal

abbrev pub invariant-loop-count : goal.invariant-loop-count
invariant-loop-count l = record { within : l.count ≤ length l.old; differ : (k : ℕ) → k < l.count → slice_index l.old k ≢ slice_index l.new k }

abbrev pub decreases-loop-count : goal.decreases-loop-count
decreases-loop-count l = length l.old - l.count
