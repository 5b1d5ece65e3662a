use Rattle.std.proofs.Common.{ℕ, ◌<◌, ◌≢◌, get_or}
use Rattle.slave_match.specs.Reason.{IsBeside}
use Rattle.slave_match.proofs.reason.are_torn.Given as goal

abbrev pub invariant-loop-at : goal.invariant-loop-at
invariant-loop-at l = (k : ℕ) → k < l.at → get_or l.words k 0 ≢ get_or l.image k 0 → IsBeside l.slave k l.batches
