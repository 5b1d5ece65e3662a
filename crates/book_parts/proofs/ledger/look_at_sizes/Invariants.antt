use Rattle.std.proofs.Common.{◌≤◌, ◌<◌, ℕ, length}
use Rattle.sii_words.specs.Plant.{words_of}
use Rattle.book_parts.proofs.ledger.look_at_sizes.Given as goal

abbrev pub invariant-loop-slave : goal.invariant-loop-slave
invariant-loop-slave l = (k : ℕ) → k < l.slave → length (words_of l.plant k) ≤ 4096
